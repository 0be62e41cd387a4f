use Rattle.std.proofs.Common.{◌≡◌, ◌++◌, List, length}
use Rattle.spf_grammar.specs.declared.flat.FlatTerm.{FlatTerm}
use Rattle.spf_model.specs.Chains.{directives_of}
use Rattle.cert_checker.proofs.links.push_flat.Given as goal

-- what was taken up so far
abbrev pub invariant-loop-term : goal.invariant-loop-term
invariant-loop-term l = (taken : List FlatTerm) × (l.terms ≡ directives_of taken l.rest) × (l.list ≡ l.initial.list ++ taken)

abbrev pub decreases-loop-term : goal.decreases-loop-term
decreases-loop-term l = length l.rest
