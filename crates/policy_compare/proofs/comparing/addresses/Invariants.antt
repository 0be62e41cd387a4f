use Rattle.std.proofs.Common.{◌≡◌, take}
use Rattle.policy_compare.specs.Pairs.{matched}
use Rattle.policy_compare.proofs.comparing.addresses.Given as goal

abbrev pub invariant-loop-prefix : goal.invariant-loop-prefix
invariant-loop-prefix g l = l.count ≡ matched g.W.Width.BITS l.pair (take l.prefix-index l.leaves)
