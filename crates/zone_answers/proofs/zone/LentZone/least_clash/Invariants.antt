use Rattle.std.proofs.Common.{take, All}
use Rattle.std.specs.Option.{option_copied}
use Rattle.zone_answers.proofs.Clashes.{AtMost, Clashes}
use Rattle.zone_answers.proofs.zone.LentZone.least_clash.Given as goal

abbrev pub invariant-loop-name : goal.invariant-loop-name
invariant-loop-name l = Clashes l.self (option_copied l.least) × All (AtMost l.self (option_copied l.least)) (take l.name-index l.names)
