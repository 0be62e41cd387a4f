use Rattle.kept_lists.proofs.OneList.{one_kept}
use Rattle.kept_lists.proofs.laws.one_kept.Goals as goal

pub returns : goal.returns
returns c = one_kept
