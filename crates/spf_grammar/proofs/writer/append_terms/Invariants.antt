use Rattle.std.proofs.Common.{◌≡◌, ◌++◌, ◌∷◌, drop}
use Rattle.std.specs.Prelude.{flat_map}
use Rattle.spf_grammar.specs.Policies.{written_term}
use Rattle.spf_grammar.specs.Reading.{TermsHaveTexts}
use Rattle.spf_grammar.proofs.writer.append_terms.Given as goal

abbrev pub invariant-loop-term : goal.invariant-loop-term
invariant-loop-term l = record {
  written : l.text ++ flat_map (λ term. 32 ∷ written_term term) (drop l.term-index l.terms) ≡ l.initial.text ++ flat_map (λ term. 32 ∷ written_term term) l.terms;
  texts : TermsHaveTexts (drop l.term-index l.terms);
}
