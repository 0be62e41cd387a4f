use Rattle.std.proofs.Common.{ap, sym, ◌∙◌}
use Rattle.cert_checker.specs.Judging.{front_of}
use Rattle.cert_checker.proofs.ChainLemmas.{front_is}
use Rattle.cert_checker.proofs.chain.without_last.Goals as goal

pub returns-in-Some : goal.returns-in-Some
returns-in-Some c = sym (ap front_of c.in-Some.ensures.cases.0 ∙ front_is c.in-Some.front.now c.in-Some.field-0-0.now)
