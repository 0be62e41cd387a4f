use Rattle.std.proofs.Common.{ℕ, List, ap, ap₂, ◌∙◌}
use Rattle.std.specs.List.{list_any}
use Rattle.zone_answers.specs.declared.order.Entry.{Entry}
use Rattle.zone_answers.specs.Zone.{Zone}
use Rattle.zone_answers.specs.Answers.{has_record}
use Rattle.zone_answers.specs.Order.{begins}
use Rattle.zone_answers.proofs.Orders.{any_under}
use Rattle.zone_answers.proofs.zone.LentZone.has_record.Goals as goal

pub returns : goal.returns
returns c = c.any_begins.ensures
    ∙ ap₂ (λ (key : List ℕ) (entries : List Entry). list_any (λ e. begins key e.key.items) entries) (c.deref.ensures.0 ∙ c.key_of.ensures) c.as_slice.ensures.value
    ∙ any_under c.self.inside.records.keys c.self.inside.order.items c.args.name.now c.self.invariant.placed
    ∙ ap (λ (z : Zone). has_record z.records c.args.name.now) c.self.view_is
