use Rattle.published_records.proofs.StandingPatched.{records_stand_patched}
use Rattle.published_records.proofs.laws.records_stand_patched.Goals as goal

pub returns : goal.returns
returns c = records_stand_patched
