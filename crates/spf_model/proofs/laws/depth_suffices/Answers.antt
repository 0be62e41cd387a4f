use Rattle.spf_model.proofs.Depth.{depth_suffices}
use Rattle.spf_model.proofs.laws.depth_suffices.Goals as goal

pub returns : goal.returns
returns c = depth_suffices
