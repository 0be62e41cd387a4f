use Rattle.published_records.proofs.StandingAlone.{records_stand_alone}
use Rattle.published_records.proofs.laws.records_stand_alone.Goals as goal

pub returns : goal.returns
returns c = records_stand_alone
