use Rattle.std.proofs.Common.{◌≡◌, take}
use Rattle.std.specs.Option.{option_copied}
use Rattle.zone_answers.specs.Answers.{zone_of}
use Rattle.zone_answers.proofs.zones.Zones.zone_of.Given as goal

abbrev pub invariant-loop-zone : goal.invariant-loop-zone
invariant-loop-zone l = option_copied l.deepest ≡ zone_of (take l.zone-index l.zones) l.name
