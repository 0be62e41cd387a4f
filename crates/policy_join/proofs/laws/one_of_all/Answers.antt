use Rattle.policy_join.proofs.Strengths.{one_of_all}
use Rattle.policy_join.proofs.laws.one_of_all.Goals as goal

pub returns : goal.returns
returns c = one_of_all
