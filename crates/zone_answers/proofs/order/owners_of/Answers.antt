use Rattle.std.proofs.Common.{◌∙◌, refl, arith}
use Rattle.zone_answers.proofs.Orders.{placed_more}
use Rattle.zone_answers.proofs.order.owners_of.Goals as goal

pub loop-place-preserved : goal.loop-place-preserved
loop-place-preserved c = placed_more c.args.records.now c.loop-place.place c.index-records-place.result c.loop-place.entries.items c.push.new.self.items (record { key = c.in_ok-key.key; place = c.loop-place.place })
    (omega arith) c.index-records-place.is (c.in_ok-key.ensures.items ∙ c.deref.ensures.0 ∙ c.key_of.ensures) refl c.in_ok-push.ensures.items c.loop-place.invariant
