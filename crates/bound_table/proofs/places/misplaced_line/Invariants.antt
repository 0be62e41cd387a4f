use Rattle.std.proofs.Common.{◌+◌, ◌-◌, length}
use Rattle.bound_table.proofs.PlaceLemmas.{InPlace}
use Rattle.bound_table.proofs.places.misplaced_line.Given as goal

-- so many rows of each family stand where they must
abbrev pub invariant-loop-at4 : goal.invariant-loop-at4
invariant-loop-at4 l = InPlace l.mixed4 l.mixed6 l.rows4 l.rows6 l.t.last l.at4 l.at6

abbrev pub decreases-loop-at4 : goal.decreases-loop-at4
decreases-loop-at4 l = length l.rows4 + length l.rows6 - (l.at4 + l.at6)
