use Rattle.std.proofs.Common.{◌≡◌, ◌++◌}
use Rattle.symbolic_check.proofs.hosts.move_bodies.Given as goal

abbrev pub invariant-loop-body : goal.invariant-loop-body
invariant-loop-body l = l.bodies ≡ l.fn.bodies ++ l.yielded
