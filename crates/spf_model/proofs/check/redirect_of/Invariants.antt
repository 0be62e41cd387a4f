use Rattle.std.proofs.Common.{◌≡◌, drop}
use Rattle.spf_model.specs.Check.{redirect_from}
use Rattle.spf_model.proofs.check.redirect_of.Given as goal

abbrev pub invariant-loop-term : goal.invariant-loop-term
invariant-loop-term l = redirect_from l.number (drop l.term-index l.terms) ≡ redirect_from 1 l.terms
