use Rattle.std.proofs.Common.{length}
use Rattle.master_reader.proofs.Groups.{Summed}
use Rattle.master_reader.proofs.ttl.are_groups.Given as goal

abbrev pub invariant-loop-rest : goal.invariant-loop-rest
invariant-loop-rest l = Summed l.units l.rest l.seconds

abbrev pub decreases-loop-rest : goal.decreases-loop-rest
decreases-loop-rest l = length l.rest
