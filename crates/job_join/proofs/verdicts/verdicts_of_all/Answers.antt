use Rattle.std.proofs.Common.{refl, rules}
use Rattle.job_join.proofs.Tries.{named_at, refused_at, kept_more}
use Rattle.job_join.proofs.verdicts.verdicts_of_all.Goals as goal

pub policy_verdicts-requires-clause-named : goal.policy_verdicts-requires-clause-named
policy_verdicts-requires-clause-named c =
    let named = named_at c.args.domains.now c.loop-domain.domain-index c.domain-item.result c.loop-domain-test.true c.domain-item.is c.requires.named in
    rw (c.as_slice.ensures, named) refl

pub returns-in_err-found-clause-refused : goal.returns-in_err-found-clause-refused
returns-in_err-found-clause-refused c =
    let refused = refused_at c.args.limits c.args.zones.now c.args.domains.now c.loop-domain.domain-index c.domain-item.result c.loop-domain.all c.in_err-found.field-0.0 c.loop-domain-test.true c.domain-item.is
    c.loop-domain.invariant (rw c.as_slice.ensures at c.in_err-found.ensures.refused) in
    search (rules, refused, c.from_residual.ensures)

pub loop-domain-preserved : goal.loop-domain-preserved
loop-domain-preserved c =
    kept_more c.args.limits c.args.zones.now c.args.domains.now c.loop-domain.domain-index c.domain-item.result c.in_ok-found.found.tries c.loop-domain.all c.push.new.self c.loop-domain-test.true c.domain-item.is
    c.loop-domain.invariant (rw c.as_slice.ensures at c.in_ok-found.ensures.kept) c.in_ok-push.ensures.ok
