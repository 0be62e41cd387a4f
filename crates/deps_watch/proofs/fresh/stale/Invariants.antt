use Rattle.std.proofs.Common.{take}
use Rattle.std.specs.List.{AllByRecursion}
use Rattle.deps_watch.specs.Lists.{Agrees}
use Rattle.deps_watch.specs.Reversals.{AreReversals}
use Rattle.deps_watch.proofs.fresh.stale.Given as goal

-- the lines before agree
abbrev pub invariant-loop-index : goal.invariant-loop-index
invariant-loop-index l = record {
  agree : AllByRecursion (Agrees l.zones) (take l.index l.kept.lines);
  asked : AreReversals l.zones l.reversals;
}
