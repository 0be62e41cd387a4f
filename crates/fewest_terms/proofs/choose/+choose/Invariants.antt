use Rattle.std.proofs.Common.{◌-◌}
use Rattle.fewest_terms.proofs.choose.+choose.Given as goal

abbrev pub decreases-choose : goal.decreases-choose
decreases-choose g l = g.W.Width.BITS - l.len
