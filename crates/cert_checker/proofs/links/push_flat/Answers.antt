use Rattle.cert_checker.proofs.LinkLemmas.{taken_more}
use Rattle.cert_checker.proofs.links.push_flat.Goals as goal

pub loop-term-preserved : goal.loop-term-preserved
loop-term-preserved c =
    let pushed = rw c.if-not-branch.false at c.in_ok-push_term.ensures in
    taken_more c.args.terms.now c.in-Some.behind.now c.loop-term.rest.now c.in-Some.term.now pushed.0 c.args.list.now c.loop-term.list c.push_term.new.list c.loop-term.invariant
    (assumption c.in-Some.ensures) pushed.1 pushed.2
