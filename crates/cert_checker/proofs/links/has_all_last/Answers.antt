use Rattle.std.proofs.Common.{ap, sym, ◌∙◌, not}
use Rattle.cert_checker.specs.Forms as forms
use Rattle.cert_checker.proofs.LinkLemmas.{all_before}
use Rattle.cert_checker.proofs.links.has_all_last.Goals as goal

pub returns-in-Some : goal.returns-in-Some
returns-in-Some c = ap not c.has_all.ensures ∙ sym (all_before c.in-Some.front.now c.in-Some.field-0-0.now) ∙ ap forms.has_all_last (sym c.in-Some.ensures.cases.0)
