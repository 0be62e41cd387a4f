use Rattle.std.proofs.Common.{◌≡◌, ◌≤◌, length}
use Rattle.spf_macros.specs.Expansion.{after_dots}
use Rattle.spf_macros.proofs.targets.behind_dot.Given as goal

abbrev pub invariant-loop-rest : goal.invariant-loop-rest
invariant-loop-rest l = record { same : after_dots l.rest ≡ after_dots l.text; within : length l.rest ≤ length l.text }

abbrev pub decreases-loop-rest : goal.decreases-loop-rest
decreases-loop-rest l = length l.rest
