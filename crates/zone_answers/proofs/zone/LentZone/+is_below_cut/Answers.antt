use Rattle.std.proofs.Common.{sym, ap, ◌∙◌, arith}
use Rattle.zone_answers.specs.Zone.{Zone}
use Rattle.zone_answers.specs.Same.{same_name}
use Rattle.zone_answers.proofs.Nodes.{same_true}
use Rattle.zone_answers.proofs.Cuts.{cut_at_origin, cut_here, cut_above, under_above, parent_shorter}
use Rattle.zone_answers.proofs.zone.LentZone.+is_below_cut.Goals as goal

pub returns-then-eq : goal.returns-then-eq
returns-then-eq t c = sym (cut_at_origin c.args.self.now c.args.name.now (same_true _ _ (sym c.if-eq.ensures) ∙ ap (λ (z : Zone). z.origin) c.self.view_is))

pub returns-then-delegates : goal.returns-then-delegates
returns-then-delegates t c = sym (cut_here c.args.self.now c.args.name.now c.requires (sym (ap (λ (z : Zone). same_name c.args.name.now z.origin) c.self.view_is) ∙ sym c.if-eq.ensures) (sym c.if-delegates.ensures))

pub is_below_cut-requires : goal.is_below_cut-requires
is_below_cut-requires t c = (
  omega (arith, parent_shorter c.args.name.now c.in-Some.above (sym c.in-Some.ensures), c.decreases),
  under_above c.args.name.now c.in-Some.above c.args.self.now.origin (sym c.in-Some.ensures) c.requires (sym (ap (λ (z : Zone). same_name c.args.name.now z.origin) c.self.view_is) ∙ sym c.if-eq.ensures),
)

pub returns-in-Some : goal.returns-in-Some
returns-in-Some t c = c.is_below_cut.ensures ∙ cut_above c.args.self.now c.args.name.now c.in-Some.above (sym c.in-Some.ensures) (sym c.if-delegates.ensures)
