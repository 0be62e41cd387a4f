use Rattle.std.proofs.Common.{length}
use Rattle.spf_grammar.proofs.Words.{Progress}
use Rattle.spf_grammar.proofs.reader.read_terms.Given as goal

abbrev pub invariant-loop-word : goal.invariant-loop-word
invariant-loop-word l = Progress l.text l.rest l.terms

abbrev pub decreases-loop-word : goal.decreases-loop-word
decreases-loop-word l = length l.rest
