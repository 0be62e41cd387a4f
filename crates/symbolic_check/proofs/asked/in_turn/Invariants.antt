use Rattle.std.proofs.Common.{◌≡◌, ◌++◌, length}
use Rattle.std.specs.Map.{values_of}
use Rattle.symbolic_check.proofs.asked.in_turn.Given as goal

-- what was taken out, and what is left
abbrev pub invariant-loop-key : goal.invariant-loop-key
invariant-loop-key l = l.questions ++ values_of l.found.entries ≡ values_of l.fn.found.entries

abbrev pub decreases-loop-key : goal.decreases-loop-key
decreases-loop-key l = length l.found.entries
