use Rattle.std.proofs.Common.{◌≡◌, false, take}
use Rattle.std.specs.List.{list_any}
use Rattle.master_reader.specs.declared.record.Body.TheVariants.{Cname}
use Rattle.zone_answers.specs.Lend.{bodies_clash}
use Rattle.zone_answers.specs.Index.{bodies_at_places}
use Rattle.zone_answers.proofs.zone.LentZone.has_clash.Given as goal

abbrev pub invariant-loop-place : goal.invariant-loop-place
invariant-loop-place l = list_any (bodies_clash (Cname l.target)) (bodies_at_places l.self.records (take l.place-index l.places)) ≡ false
