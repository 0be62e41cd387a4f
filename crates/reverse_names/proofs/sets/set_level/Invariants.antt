use Rattle.std.proofs.Common.{◌≡◌, ◌<◌, ◌^◌, ℕ, Some, take}
use Rattle.std.specs.Prelude.{if◌then◌else◌}
use Rattle.std.specs.List.{list_any}
use Rattle.prefix_trie.specs.Leaves.{value_at}
use Rattle.reverse_names.specs.Tree.{class_at, level, reach}
use Rattle.reverse_names.proofs.sets.set_level.Given as goal

-- the classes are those of the new level below the nodes of the paths so far
abbrev pub invariant-loop-place : goal.invariant-loop-place
invariant-loop-place g l = (a : ℕ) → a < 2 ^ g.W.Width.BITS
    → value_at g.W.Width.BITS l.classes a ≡ Some (if list_any (reach g.W.AddressFamily.family l.depth a) (take l.place l.paths)
    then class_at l.zones l.suffix g.W.AddressFamily.family l.depth a
    else level l.zones l.suffix g.W.AddressFamily.family l.paths l.above a)
