use Rattle.std.proofs.Common.{◌∙◌}
use Rattle.cert_checker.proofs.ChainLemmas.{begins_with, numbered_not, numbered_so}
use Rattle.cert_checker.proofs.chain.is_numbered.Goals as goal

pub returns-in-Some : goal.returns-in-Some
returns-in-Some c =
    numbered_so c.args.first.now c.args.label.now c.in-Some.rest.now c.as_bytes.result.now c.args.number c.eq.result
    (begins_with c.args.first.now c.args.label.now c.in-Some.rest.now c.in-Some.ensures.cases.0 c.in-Some.ensures.cases.1) (c.as_bytes.ensures.value ∙ c.format.ensures.text) c.eq.ensures

pub returns-in-None : goal.returns-in-None
returns-in-None c = numbered_not c.args.first.now c.args.label.now c.args.number c.in-None.ensures.cases
