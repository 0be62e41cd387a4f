use Rattle.std.proofs.Common.{take}
use Rattle.zone_answers.specs.Order.{ArePlaced}
use Rattle.zone_answers.proofs.order.owners_of.Given as goal

abbrev pub invariant-loop-place : goal.invariant-loop-place
invariant-loop-place l = ArePlaced (take l.place l.records) l.entries.items
