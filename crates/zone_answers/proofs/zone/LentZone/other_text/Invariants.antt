use Rattle.std.proofs.Common.{◌≡◌, ◌≤◌, ◌*◌, take, sum_by}
use Rattle.zone_answers.specs.Names.{other_len}
use Rattle.zone_answers.specs.Index.{bodies_at_places}
use Rattle.zone_answers.proofs.zone.LentZone.other_text.Given as goal

abbrev pub invariant-loop-place : goal.invariant-loop-place
invariant-loop-place l = (l.octets ≡ sum_by other_len (bodies_at_places l.self.records (take l.place-index l.places))) × (l.octets ≤ l.place-index * 65535)
