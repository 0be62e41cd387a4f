use Rattle.std.proofs.Common.{take}
use Rattle.zone_answers.specs.Lend.{AreLendable}
use Rattle.zone_answers.proofs.lendable.are_lendable.Given as goal

abbrev pub invariant-loop-record : goal.invariant-loop-record
invariant-loop-record l = AreLendable l.origin (take l.record-index l.record-items)
