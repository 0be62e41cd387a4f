use Rattle.std.proofs.Common.{false, Some, None, sym, ap, arith, refl, ◌||◌}
use Rattle.zone_answers.specs.Answers.{bodies_at}
use Rattle.zone_answers.proofs.Clashes.{none_clash, clash_found, clash_more, no_clash}
use Rattle.zone_answers.proofs.zone.LentZone.has_clash.Goals.{in-Some-body+else-clashes, in_default-body}
use Rattle.zone_answers.proofs.zone.LentZone.has_clash.Goals as goal

pub returns-in_default : goal.returns-in_default
returns-in_default c = sym (none_clash (bodies_at c.args.self.now c.args.name.now) (bodies_at c.args.self.now c.args.name.now) c.in_default.ensures)

pub returns : goal.returns
returns c = no_clash c.args.self.now c.args.name.now c.in-Some.target.now c.places-places.result.now c.loop-place.place-index c.in-Some.ensures c.places-places.ensures.places (omega arith) c.loop-place.invariant

pub returns-then-clashes : goal.returns-then-clashes
returns-then-clashes c = clash_found c.args.self.now c.args.name.now c.in-Some.target.now c.places-places.result.now c.loop-place.place-index c.in-Some-body.body.now c.in-Some.ensures c.places-places.ensures.places (omega arith) c.in-Some-body.ensures.body (sym c.if-clashes.ensures)

pub loop-place-preserved : goal.loop-place-preserved
loop-place-preserved c = elim c.match-body.branch [
  | in-Some-body+else-clashes w ↦ clash_more c.args.self.now.records c.in-Some.target.now c.places-places.result.now c.loop-place.place-index (Some w.in-Some-body.body.now) (omega arith) w.in-Some-body.ensures.body (ap (λ b. b || false) (sym w.if-clashes.ensures)) c.loop-place.invariant
  | in_default-body w ↦ clash_more c.args.self.now.records c.in-Some.target.now c.places-places.result.now c.loop-place.place-index None (omega arith) w.in_default-body.ensures.body refl c.loop-place.invariant
]
