use Rattle.policy_compare.proofs.OneList.{one_list_of_changes}
use Rattle.policy_compare.proofs.laws.one_list_of_changes.Goals as goal

pub returns : goal.returns
returns c = one_list_of_changes
