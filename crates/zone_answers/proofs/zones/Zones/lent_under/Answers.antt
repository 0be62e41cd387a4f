use Rattle.std.proofs.Common.{◌∙◌, arith}
use Rattle.zone_answers.proofs.Listing.{zone_more, zones_all}
use Rattle.zone_answers.proofs.zones.Zones.lent_under.Goals as goal

pub loop-zone-preserved : goal.loop-zone-preserved
loop-zone-preserved c = zone_more c.args.lent c.args.top.now c.as_slice-zones.result.now c.loop-zone.zone-index c.zone-item.result c.loop-zone.names c.push_names.new.names
    (omega arith) c.zone-item.is c.loop-zone.invariant c.in_ok-push_names.ensures

pub returns : goal.returns
returns c = zones_all c.args.lent c.args.top.now c.as_slice-zones.result.now c.args.self.now c.loop-zone.zone-index c.loop-zone.names (omega arith) (c.as_slice-zones.ensures.value ∙ c.self.view_is) c.loop-zone.invariant
