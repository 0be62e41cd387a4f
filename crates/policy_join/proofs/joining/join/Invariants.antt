use Rattle.std.proofs.Common.{take}
use Rattle.policy_join.specs.Tries.{IsJoin}
use Rattle.policy_join.proofs.joining.join.Given as goal

-- the first policies are joined
abbrev pub invariant-loop-tries : goal.invariant-loop-tries
invariant-loop-tries l = IsJoin l.weakest (take l.tries-index l.tries-items) l.both
