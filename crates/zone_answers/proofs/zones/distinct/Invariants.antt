use Rattle.std.proofs.Common.{◌≡◌}
use Rattle.zone_answers.specs.Same.{distinct_records}
use Rattle.zone_answers.proofs.zones.distinct.Given as goal

abbrev pub invariant-loop-added : goal.invariant-loop-added
invariant-loop-added l = l.set.keys ≡ distinct_records l.yielded
