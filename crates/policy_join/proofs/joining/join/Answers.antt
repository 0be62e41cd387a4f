use Rattle.policy_join.proofs.Joins.{one_more}
use Rattle.policy_join.proofs.joining.join.Goals as goal

pub loop-tries-preserved : goal.loop-tries-preserved
loop-tries-preserved c =
    one_more c.args.weakest c.as_slice-tries-items.result.now c.loop-tries.tries-index c.tries-item.result c.loop-tries.both c.in_ok-both-2.both c.loop-tries-test.true c.tries-item.is c.loop-tries.invariant
    c.in_ok-both-2.ensures.four c.in_ok-both-2.ensures.six
