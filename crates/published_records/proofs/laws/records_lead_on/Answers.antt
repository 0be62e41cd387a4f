use Rattle.published_records.proofs.RecordTexts.{records_lead_on}
use Rattle.published_records.proofs.laws.records_lead_on.Goals as goal

pub returns : goal.returns
returns c = records_lead_on
