use Rattle.std.proofs.Common.{◌≡◌, ◌+◌, ◌-◌}
use Rattle.zone_answers.specs.Answers.{answer_within}
use Rattle.zone_answers.proofs.Holding.{within}
use Rattle.zone_answers.proofs.zones.Zones.answer_within.Given as goal

abbrev pub invariant-steps : goal.invariant-steps
invariant-steps l = answer_within l.aliases l.self l.fn.name l.kind ≡ within (l.aliases + 1 - l._step) l.self l.name l.kind
