use Rattle.std.proofs.Common.{◌≡◌, map, take}
use Rattle.fewest_terms.specs.Leaves.{ruled_row}
use Rattle.fewest_terms.proofs.choose.rows_from.Given as goal

abbrev pub invariant-loop-sum : goal.invariant-loop-sum
invariant-loop-sum g l = l.rows ≡ map ruled_row (take l.sum-index l.sums)
