use Rattle.std.proofs.Common.{◌≡◌, ◌<◌, ◌^◌, ℕ, Some}
use Rattle.prefix_trie.specs.Leaves.{value_at}
use Rattle.reverse_names.specs.Tree.{level}
use Rattle.reverse_names.proofs.sets.reverse_sets.Given as goal

-- the classes of the levels so far
abbrev pub invariant-loop-above : goal.invariant-loop-above
invariant-loop-above g l = (a : ℕ) → a < 2 ^ g.W.Width.BITS
    → value_at g.W.Width.BITS l.classes a ≡ Some (level l.zones l.suffix g.W.AddressFamily.family l.paths.items l.above a)
