use Rattle.std.proofs.Common.{rules, map-id}
use Rattle.std.proofs.lemmas.Iterator.Adapters.{YieldsList-from_vec}
use Rattle.std.proofs.lemmas.Iterator.Consumers.{YieldsList-end}
use Rattle.symbolic_check.proofs.Keying.{put_more, rising}
use Rattle.symbolic_check.proofs.asked.by_key.Goals as goal

pub loop-question-preserved : goal.loop-question-preserved
loop-question-preserved c =
    let put = put_more c.loop-question.found.entries c.insert.new.self.entries c.in_ok-key.key c.in-Some.question c.loop-question.yielded
    c.in_ok-insert.ensures.entries c.in_ok-key.ensures c.loop-question.invariant.keyed c.loop-question.invariant.same in
    record { keyed = put.0; ordered = c.insert.ensures.ordered; same = put.1 }

pub returns-clause-order : goal.returns-clause-order
returns-clause-order c = rising c.loop-question.found.entries c.loop-question.invariant.keyed c.loop-question.invariant.ordered

pub returns-clause-same : goal.returns-clause-same
returns-clause-same c =
    let end = YieldsList-end (YieldsList-from_vec {s = c.into_iter-question-iterator.result} c.into_vec-question-items.result.items (search rules) (search rules))
    c.loop-question.yielded c.loop-question.question-iterator c.loop-question.yielded_by c.next.result c.next.new.self c.in-None.is c.next.ensures.steps in
    rw (← c.into_vec-question-items.ensures, ← end.0, map-id) c.loop-question.invariant.same
