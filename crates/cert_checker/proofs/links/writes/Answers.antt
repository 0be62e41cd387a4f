use Rattle.std.proofs.Common.{ap, sym, ◌∙◌, Some}
use Rattle.spf_model.proofs.OneOutcome.{some_once}
use Rattle.zone_answers.proofs.Nodes.{same_self, same_true}
use Rattle.cert_checker.proofs.links.writes.Goals as goal

pub returns-in-Some : goal.returns-in-Some
returns-in-Some c = (
  λ same. sym c.name_of.ensures ∙ c.in-Some.is ∙ ap Some (same_true c.in-Some.other c.args.name.now (sym c.eq.ensures ∙ same)),
  λ is. c.eq.ensures ∙ same_self c.in-Some.other c.args.name.now (some_once (sym c.name_of.ensures ∙ c.in-Some.is) is),
)
