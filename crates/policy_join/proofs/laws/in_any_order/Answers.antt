use Rattle.policy_join.proofs.Strengths.{in_any_order}
use Rattle.policy_join.proofs.laws.in_any_order.Goals as goal

pub returns : goal.returns
returns c = in_any_order
