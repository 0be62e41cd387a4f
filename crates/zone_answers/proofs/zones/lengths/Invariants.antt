use Rattle.std.proofs.Common.{◌≡◌, sum_by, take, length}
use Rattle.zone_answers.proofs.zones.lengths.Given as goal

abbrev pub invariant-loop-zone : goal.invariant-loop-zone
invariant-loop-zone l = l.sum ≡ sum_by (λ z. length z.records) (take l.zone-index l.zones)
