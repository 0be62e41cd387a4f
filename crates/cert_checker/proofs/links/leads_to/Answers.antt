use Rattle.std.proofs.Common.{ap, sym, ◌∙◌}
use Rattle.spf_model.specs.Judging.{name_of}
use Rattle.cert_checker.proofs.LinkLemmas.{leads_named, leads_so, literals_for_all}
use Rattle.cert_checker.proofs.links.leads_to.Goals as goal

pub target-requires : goal.target-requires
target-requires c = literals_for_all c.args.spec.now (rw c.as_slice.ensures at (sym c.if-not-are_literal.ensures))

pub returns-in-Out : goal.returns-in-Out
returns-in-Out c =
    let same = c.as_slice-in-Out.ensures in
    let asks = sym c.in_ok-text.ensures ∙ c.in-Out.is in (
      λ t. leads_so c.args.spec.now c.args.name.now c.in-Out.text (rw c.as_slice.ensures at (sym c.if-not-are_literal.ensures)) asks (ap name_of (sym same) ∙ c.writes.ensures.0 t),
      λ leads. c.writes.ensures.1 (ap name_of same ∙ leads_named c.args.spec.now c.args.name.now c.in-Out.text asks leads),
    )
