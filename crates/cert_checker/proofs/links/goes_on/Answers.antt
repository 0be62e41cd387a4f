use Rattle.std.proofs.Common.{sym}
use Rattle.cert_checker.proofs.LinkLemmas.{goes_with}
use Rattle.cert_checker.proofs.links.goes_on.Goals as goal

pub returns : goal.returns
returns c =
    let is = rw c.in-Some-only_redirect.is at c.only_redirect.ensures in
    let goes = goes_with c.args.flat.now c.args.rest.now c.in-Some-only_redirect.spec.now c.in-Some.next.now c.leads_to.result is (sym c.if-has_all.ensures) c.leads_to.ensures in
    rw c.in-Some.is goes
