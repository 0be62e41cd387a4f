use Rattle.symbolic_check.proofs.Rests.{rests_on_asked}
use Rattle.symbolic_check.proofs.laws.rests_on_asked.Goals as goal

pub returns : goal.returns
returns c = rests_on_asked
