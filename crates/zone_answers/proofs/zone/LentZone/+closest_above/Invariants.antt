use Rattle.std.proofs.Common.{length}
use Rattle.zone_answers.proofs.zone.LentZone.+closest_above.Given as goal

abbrev pub decreases-closest_above : goal.decreases-closest_above
decreases-closest_above l = length l.name.now
