use Rattle.std.proofs.Common.{◌≡◌, take}
use Rattle.zone_answers.specs.Index.{bodies_at_places}
use Rattle.zone_answers.proofs.zone.LentZone.bodies.Given as goal

abbrev pub invariant-loop-place : goal.invariant-loop-place
invariant-loop-place l = l.bodies ≡ bodies_at_places l.self.records (take l.place-index l.places)
