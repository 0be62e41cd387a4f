use Rattle.std.proofs.Common.{◌≡◌, length}
use Rattle.spf_macros.specs.Expansion.{cut_to_fit as cut}
use Rattle.spf_macros.proofs.targets.cut_to_fit.Given as goal

abbrev pub invariant-loop-rest : goal.invariant-loop-rest
invariant-loop-rest l = cut l.rest ≡ cut l.text

abbrev pub decreases-loop-rest : goal.decreases-loop-rest
decreases-loop-rest l = length l.rest
