use Rattle.std.proofs.Common.{◌≡◌, ◌<◌, ◌^◌, ℕ, Some, take}
use Rattle.std.specs.List.{list_any}
use Rattle.prefix_trie.specs.Leaves.{value_at}
use Rattle.reverse_names.specs.Tree.{ends}
use Rattle.reverse_names.proofs.sets.ends_at.Given as goal

-- the set has the addresses below the nodes at which a path so far ends
abbrev pub invariant-loop-path : goal.invariant-loop-path
invariant-loop-path g l = (a : ℕ) → a < 2 ^ g.W.Width.BITS
    → value_at g.W.Width.BITS l.set a ≡ Some (list_any (ends g.W.AddressFamily.family l.depth a) (take l.path-index l.paths))
