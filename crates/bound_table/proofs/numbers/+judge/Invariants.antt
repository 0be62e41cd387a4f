use Rattle.std.proofs.Common.{◌-◌}
use Rattle.bound_table.proofs.numbers.+judge.Given as goal

abbrev pub decreases-judge : goal.decreases-judge
decreases-judge g l = g.W.Width.BITS - l.len
