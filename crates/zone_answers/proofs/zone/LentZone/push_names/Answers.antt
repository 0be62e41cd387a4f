use Rattle.std.proofs.Common.{ℕ, List, ◌&&◌, slice_get, ap, ap₂, sym, ◌∙◌, arith}
use Rattle.std.specs.List.{list_any}
use Rattle.zone_answers.specs.declared.order.Entry.{Entry}
use Rattle.zone_answers.specs.Zone.{Zone}
use Rattle.zone_answers.specs.Order.{begins}
use Rattle.zone_answers.proofs.Listing.{origin_first, entry_more, entry_none, entries_all, listed}
use Rattle.zone_answers.proofs.zone.LentZone.push_names.Goals.{in-Some+in_ok-push_owner, in_default}
use Rattle.zone_answers.proofs.zone.LentZone.push_names.Goals as goal

pub loop-entry-init : goal.loop-entry-init
loop-entry-init c = origin_first c.args.self.now.origin c.self.inside.origin c.args.top.now c.begin_with-entries.result.now c.args.lent c.args.self.now.records c.args.names.now c.push_under.new.names
    (ap (λ (z : Zone). z.origin) c.self.view_is) c.in_ok-push_under.ensures

pub loop-entry-preserved : goal.loop-entry-preserved
loop-entry-preserved c = elim c.match-get_index.branch [
  | in-Some+in_ok-push_owner w ↦ entry_more c.args.lent c.args.self.now.origin c.args.top.now c.args.self.now.records c.begin_with-entries.result.now c.loop-entry.entry-index c.entry-item.result w.in-Some.listed.now c.args.names.now
      c.loop-entry.names c.match-get_index.names (omega arith) c.entry-item.is
      (w.in-Some.ensures.key ∙ ap (λ (z : Zone). slice_get z.records c.entry-item.result.place) c.self.view_is) c.loop-entry.invariant
      (λ name. ap (λ (l : List (List (List ℕ))). listed l name) w.names-is ∙ w.in_ok-push_owner.ensures name)
  | in_default w ↦ entry_none c.args.lent c.args.self.now.origin c.args.top.now c.args.self.now.records c.begin_with-entries.result.now c.loop-entry.entry-index c.entry-item.result c.args.names.now
      c.loop-entry.names c.match-get_index.names (omega arith) c.entry-item.is
      (w.in_default.ensures.key ∙ ap (λ (z : Zone). slice_get z.records c.entry-item.result.place) c.self.view_is) c.loop-entry.invariant w.names-is
]

pub returns : goal.returns
returns c = entries_all c.args.lent c.args.self.now c.args.top.now c.self.inside.records.keys c.self.inside.order.items c.begin_with-entries.result.now c.loop-entry.entry-index c.args.names.now c.loop-entry.names
    (omega arith) (ap (λ (z : Zone). z.records) c.self.view_is) c.self.invariant.placed
    (λ test. sym (ap₂ (λ (key : List ℕ) (entries : List Entry). list_any (λ e. begins key e.key.items && test e) entries) (c.deref.ensures.0 ∙ c.key_of.ensures) c.as_slice.ensures.value) ∙ c.begin_with-entries.ensures test)
    c.loop-entry.invariant
