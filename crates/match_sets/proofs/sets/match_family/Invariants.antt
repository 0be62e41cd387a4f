use Rattle.std.proofs.Common.{◌≡◌, ◌<◌, ◌^◌, ℕ, Some, take}
use Rattle.std.specs.List.{list_any}
use Rattle.match_sets.specs.Matched.{matches}
use Rattle.prefix_trie.specs.Leaves.{value_at}
use Rattle.match_sets.proofs.sets.match_family.Given as goal

-- the set has what the bodies so far match
abbrev pub invariant-loop-body : goal.invariant-loop-body
invariant-loop-body g l = (a : ℕ) → a < 2 ^ g.W.Width.BITS
    → value_at g.W.Width.BITS l.set a ≡ Some (list_any (matches g.W.AddressFamily.family l.len a) (take l.body-index l.bodies))
