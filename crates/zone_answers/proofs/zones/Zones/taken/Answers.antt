use Rattle.std.proofs.Common.{◌≡◌, ◌∙◌, ap}
use Rattle.std.specs.List.{list_any}
use Rattle.dns_name.specs.Name.{is_under}
use Rattle.zone_answers.specs.Zone.{Zone}
use Rattle.zone_answers.specs.Answers.{zone_of}
use Rattle.zone_answers.specs.Names.{has_record_under}
use Rattle.zone_answers.proofs.Holding.{taken_is}
use Rattle.zone_answers.proofs.zones.Zones.taken.Goals.{in-Some, in-None}
use Rattle.zone_answers.proofs.zones.Zones.taken.Goals as goal

pub returns-else-has_record : goal.returns-else-has_record
returns-else-has_record c =
    let held : c.match-zone_of.has_record ≡ has_record_under (zone_of c.args.self.now c.args.name.now) c.args.name.now =
    elim c.match-zone_of.branch [
      | in-Some w ↦ w.has_record-is ∙ w.has_record-has_record.ensures ∙ ap (λ o. has_record_under o c.args.name.now) w.in-Some.ensures
      | in-None w ↦ w.has_record-is ∙ ap (λ o. has_record_under o c.args.name.now) w.in-None.ensures
    ] in
    taken_is c.args.self.now c.args.name.now c.match-zone_of.has_record c.have_origin_under.result held (c.have_origin_under.ensures ∙ ap (list_any (λ (z : Zone). is_under z.origin c.args.name.now)) (c.deref.ensures.value ∙ c.self.view_is)) c.if-has_record.false
