use Rattle.kept_lists.proofs.ReadBack.{kept_is_read}
use Rattle.kept_lists.proofs.laws.kept_is_read.Goals as goal

pub returns : goal.returns
returns c = kept_is_read
