use Rattle.policy_compare.proofs.OneList.{none_where_equal}
use Rattle.policy_compare.proofs.laws.none_where_equal.Goals as goal

pub returns : goal.returns
returns c = none_where_equal
