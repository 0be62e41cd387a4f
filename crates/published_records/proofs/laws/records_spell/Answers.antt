use Rattle.published_records.proofs.RecordTexts.{records_spell}
use Rattle.published_records.proofs.laws.records_spell.Goals as goal

pub returns : goal.returns
returns c = records_spell
