use Rattle.std.proofs.Common.{◌≡◌, map, take}
use Rattle.fewest_terms.proofs.prefixes.prefixes_from.Given as goal

abbrev pub invariant-loop-sum : goal.invariant-loop-sum
invariant-loop-sum g l = l.prefixes ≡ map (λ r. r.prefix) (take l.sum-index l.sums)
