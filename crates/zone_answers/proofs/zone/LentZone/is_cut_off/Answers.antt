use Rattle.std.proofs.Common.{sym, ap, ◌∙◌}
use Rattle.std.specs.List.{list_any}
use Rattle.zone_answers.specs.Zone.{Zone}
use Rattle.zone_answers.specs.Answers.{is_delegation}
use Rattle.zone_answers.proofs.Cuts.{no_cut}
use Rattle.zone_answers.proofs.zone.LentZone.is_cut_off.Goals as goal

pub returns-then-not-self : goal.returns-then-not-self
returns-then-not-self c = sym (no_cut c.args.self.now c.args.name.now
    (sym (ap (λ (z : Zone). list_any (λ r. is_delegation r.body) z.records) c.self.view_is) ∙ sym c.self.invariant.delegates ∙ c.if-not-self.true))
