use Rattle.std.proofs.Common.{◌+◌, arith, ap, ◌∙◌}
use Rattle.zone_answers.proofs.Texts.{octets_some, octets_none, octets_all}
use Rattle.zone_answers.proofs.zone.LentZone.other_text.Goals.{in-Some, in_default}
use Rattle.zone_answers.proofs.zone.LentZone.other_text.Goals as goal

pub loop-place-preserved : goal.loop-place-preserved
loop-place-preserved c = elim c.match-body.branch [
  | in-Some w ↦ (
    octets_some c.args.self.now.records c.places-places.result.now c.loop-place.place-index w.in-Some.body.now c.loop-place.octets c.match-body.octets (omega arith) w.in-Some.ensures.body
        (w.octets-is ∙ ap (λ n. c.loop-place.octets + n) w.other_len-octets.ensures.other) c.loop-place.invariant.0,
    omega (arith, w.octets-is, w.other_len-octets.ensures.small, c.loop-place.invariant.1),
  )
  | in_default w ↦ (
    w.octets-is ∙ octets_none c.args.self.now.records c.places-places.result.now c.loop-place.place-index c.loop-place.octets (omega arith) w.in_default.ensures.body c.loop-place.invariant.0,
    omega (arith, w.octets-is, c.loop-place.invariant.1),
  )
]

pub returns : goal.returns
returns c = octets_all c.args.self.now c.args.name.now c.places-places.result.now c.loop-place.place-index c.loop-place.octets c.places-places.ensures.places (omega arith) c.loop-place.invariant.0
