use Rattle.std.proofs.Common.{refl}
use Rattle.spf_gen.specs.Draws.{draw, grown}
use Rattle.spf_gen.specs.Networks.{network}
use Rattle.spf_gen.proofs.laws.first_of_zero.Goals as goal

pub returns : goal.returns
unfolding draw grown network
returns c = refl
