use Rattle.std.proofs.Common.{arith, sym, ◌∙◌, ap₂, ◌++◌, ◌∷◌, [], List, None, Some}
use Rattle.std.proofs.lemmas.List.{append-nil}
use Rattle.master_reader.specs.declared.record.Body.{Body}
use Rattle.zone_answers.proofs.Places.{bodies_more, found_all}
use Rattle.zone_answers.proofs.zone.LentZone.bodies.Goals.{in-Some+in_ok-copy_of+in_ok-push, in_default}
use Rattle.zone_answers.proofs.zone.LentZone.bodies.Goals as goal

pub loop-place-preserved : goal.loop-place-preserved
loop-place-preserved c = elim c.match-body.branch [
  | in-Some+in_ok-copy_of+in_ok-push w ↦ w.bodies-is ∙ w.in_ok-push.ensures.ok ∙ ap₂ (λ (l : List Body) (b : Body). l ++ b ∷ []) c.loop-place.invariant w.in_ok-copy_of.ensures
      ∙ sym (bodies_more c.args.self.now.records c.places-places.result.now c.loop-place.place-index (Some w.in-Some.body.now) (omega arith) w.in-Some.ensures.body)
  | in_default w ↦ w.bodies-is ∙ c.loop-place.invariant
      ∙ sym (bodies_more c.args.self.now.records c.places-places.result.now c.loop-place.place-index None (omega arith) w.in_default.ensures.body ∙ append-nil _)
]

pub returns : goal.returns
returns c = found_all c.args.kind c.args.self.now c.args.name.now c.places-places.result.now c.loop-place.place-index c.loop-place.bodies c.places-places.ensures.places (omega arith) c.loop-place.invariant
