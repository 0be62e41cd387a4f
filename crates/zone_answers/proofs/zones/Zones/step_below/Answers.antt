use Rattle.std.proofs.Common.{sym}
use Rattle.zone_answers.proofs.Holding.{zone_under}
use Rattle.zone_answers.proofs.zones.Zones.step_below.Goals as goal

pub is_cut_off-requires : goal.is_cut_off-requires
is_cut_off-requires c = zone_under c.args.self.now c.args.name.now c.in-Some.zone.now (sym c.in-Some.ensures)
