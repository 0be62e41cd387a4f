use Rattle.published_records.proofs.Publishing.{records_give}
use Rattle.published_records.proofs.laws.records_give.Goals as goal

pub returns : goal.returns
returns c = records_give
