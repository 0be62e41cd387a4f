use Rattle.std.proofs.Common.{take}
use Rattle.reverse_names.specs.Tree.{ArePathsTo}
use Rattle.reverse_names.proofs.path.paths_to.Given as goal

-- a path for each name so far
abbrev pub invariant-loop-name : goal.invariant-loop-name
invariant-loop-name l = ArePathsTo l.family l.suffix (take l.name-index l.names) l.paths
