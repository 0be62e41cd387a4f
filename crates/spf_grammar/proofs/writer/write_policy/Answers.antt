use Rattle.std.proofs.Common.{◌≡◌, ℕ, List, ◌∷◌, ◌++◌, sym, ap, ap₂, subst, ◌∙◌}
use Rattle.std.specs.Prelude.{codes, flat_map}
use Rattle.addr_bits.proofs.Texts.{written_address}
use Rattle.spf_grammar.specs.declared.policy.Term.{Term}
use Rattle.spf_grammar.specs.Grammar.{SpellsPolicy}
use Rattle.spf_grammar.specs.Policies.{written_term, written_policy}
use Rattle.spf_grammar.specs.Reading.{TermsHaveTexts}
use Rattle.spf_grammar.proofs.HeldTexts.{policy_texts}
use Rattle.spf_grammar.proofs.WrittenForm.{written_spells}
use Rattle.spf_grammar.proofs.writer.write_policy.Goals as goal

pub append_terms-requires : goal.append_terms-requires
append_terms-requires c = subst (λ (ts : List Term). TermsHaveTexts ts) (sym c.as_slice.ensures) (policy_texts c.args.policy.now c.requires)

pub returns-clause-spells : goal.returns-clause-spells
returns-clause-spells c =
    let text : c.append_terms.new.text ≡ written_policy c.args.policy.now =
    c.in_ok-append_terms.ensures
    ∙ ap₂ (λ (a : List ℕ) (ts : List Term). a ++ flat_map (λ term. 32 ∷ written_term term) ts) (c.in_ok-extend_from_slice.ensures.ok ∙ ap (λ (a : List ℕ). a ++ codes "v=spf1") c.new-text.ensures) c.as_slice.ensures in
    subst (λ (t : List ℕ). SpellsPolicy t c.args.policy.now) (sym text) (written_spells written_address c.args.policy.now c.requires)
