use Rattle.std.proofs.Common.{ap, ◌∙◌, arith}
use Rattle.std.specs.Option.{option_copied}
use Rattle.zone_answers.proofs.Deepest.{left_deeper, none_yet, taken_deeper, zone_all, zone_more}
use Rattle.zone_answers.proofs.zones.Zones.zone_of.Goals.{then-is_deeper, else-is_deeper}
use Rattle.zone_answers.proofs.zones.Zones.zone_of.Goals as goal

pub loop-zone-init : goal.loop-zone-init
loop-zone-init c = none_yet c.args.name.now

pub loop-zone-preserved : goal.loop-zone-preserved
loop-zone-preserved c = zone_more c.as_slice-zones.result.now c.loop-zone.zone-index c.zone-item.result (option_copied c.loop-zone.deepest) (option_copied c.if-is_deeper.deepest) c.args.name.now
    (omega arith) c.zone-item.is c.loop-zone.invariant
    (elim c.if-is_deeper.branch [
      | then-is_deeper w ↦ taken_deeper c.zone-item.result (option_copied c.loop-zone.deepest) (option_copied c.if-is_deeper.deepest) c.args.name.now w.if-is_deeper.ensures (ap option_copied w.deepest-is)
      | else-is_deeper w ↦ left_deeper c.zone-item.result (option_copied c.loop-zone.deepest) (option_copied c.if-is_deeper.deepest) c.args.name.now w.if-is_deeper.ensures (ap option_copied w.deepest-is)
    ])

pub returns : goal.returns
returns c = zone_all c.as_slice-zones.result.now c.args.self.now c.loop-zone.zone-index (option_copied c.loop-zone.deepest) c.args.name.now (omega arith) (c.as_slice-zones.ensures.value ∙ c.self.view_is) c.loop-zone.invariant
