use Rattle.publishing.proofs.ShortestPolicy.{due_is_shortest}
use Rattle.publishing.proofs.laws.due_is_shortest.Goals as goal

pub returns : goal.returns
returns c = due_is_shortest
