-- The macro texts that a policy holds are macro texts.
use Rattle.std.proofs.Common.{◌≡◌, ℕ, ◌+◌, ◌<◌, List, [], ◌∷◌, length, drop, get_or, drop-cons, sym, subst, add-one, Option, Some, None}
use Rattle.spf_macros.specs.declared.piece.Piece.{Piece}
use Rattle.spf_macros.proofs.DomainSpecs.{spec_spelled}
use Rattle.spf_grammar.specs.declared.policy.Mechanism.{Mechanism}
use Rattle.spf_grammar.specs.declared.policy.Mechanism.TheVariants.{All, Include, A, Mx, Ptr, Ip4, Ip6, Exists}
use Rattle.spf_grammar.specs.declared.policy.Term.{Term}
use Rattle.spf_grammar.specs.declared.policy.Term.TheVariants.{Directive, Redirect, Exp, Unknown}
use Rattle.spf_grammar.specs.declared.policy.Policy.{Policy}
use Rattle.std.specs.Prelude.{false, true}
use Rattle.spf_grammar.specs.Grammar.{SpellsTarget, SpellsMechanism, SpellsTerm, SpellsTerms}
use Rattle.spf_grammar.specs.Laws.{IsPolicy}
use Rattle.spf_grammar.specs.Reading.{TargetIsText, MechanismHasText, TermHasText, TermsHaveTexts}

target_text : (text : List ℕ) (spec : Option (List Piece)) → SpellsTarget text spec → TargetIsText spec
target_text text None h = tt
target_text text (Some spec) h = (h.0, spec_spelled false h.0 spec h.1)

mechanism_text : (text : List ℕ) (m : Mechanism) → SpellsMechanism text m → MechanismHasText m
mechanism_text text All h = tt
mechanism_text text (Include spec) h = target_text h.1 (Some spec) h.3
mechanism_text text (A spec l m) h = target_text h.3.target spec h.3.hosts
mechanism_text text (Mx spec l m) h = target_text h.3.target spec h.3.hosts
mechanism_text text (Ptr spec) h = target_text h.1 spec h.3
mechanism_text text (Ip4 p) h = tt
mechanism_text text (Ip6 p) h = tt
mechanism_text text (Exists spec) h = target_text h.1 (Some spec) h.3

term_text : (text : List ℕ) (t : Term) → SpellsTerm text t → TermHasText t
term_text text (Directive v m) h = mechanism_text h.1 m h.3
term_text text (Redirect spec) h = (h.3.0, spec_spelled false h.3.0 spec h.3.1)
term_text text (Exp spec) h = (h.3.0, spec_spelled true h.3.0 spec h.3.1)
term_text text (Unknown name value) h = (h.rest, h.spells)

terms_texts : (text : List ℕ) (ts : List Term) → SpellsTerms text ts → TermsHaveTexts ts
terms_texts text [] h = tt
terms_texts text (t ∷ ts) h = (term_text h.1 t h.4, terms_texts h.2 ts h.5)

pub policy_texts : (policy : Policy) → IsPolicy policy → TermsHaveTexts policy.terms
policy_texts policy h = terms_texts h.1.rest policy.terms h.1.terms

-- the term at an index, and those behind it
pub text_at : (ts : List Term) (i : ℕ) (t : Term) → i < length ts → t ≡ get_or ts i t → TermsHaveTexts (drop i ts) → TermHasText t
text_at ts i t within is h = subst TermHasText (sym is) (subst TermsHaveTexts (drop-cons ts i t within) h).0

pub texts_behind : (ts : List Term) (i : ℕ) (t : Term) → i < length ts → TermsHaveTexts (drop i ts) → TermsHaveTexts (drop (i + 1) ts)
texts_behind ts i t within h = subst (λ n. TermsHaveTexts (drop n ts)) (sym (add-one i)) (subst TermsHaveTexts (drop-cons ts i t within) h).1
