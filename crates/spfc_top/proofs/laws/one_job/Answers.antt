use Rattle.spfc_top.specs.Laws.{one_any}
use Rattle.spfc_top.proofs.laws.one_job.Goals as goal

pub returns : goal.returns
returns c = one_any
