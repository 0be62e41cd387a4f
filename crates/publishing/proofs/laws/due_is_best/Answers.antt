use Rattle.publishing.proofs.BestPublication.{due_is_best}
use Rattle.publishing.proofs.laws.due_is_best.Goals as goal

pub returns : goal.returns
returns c = due_is_best
