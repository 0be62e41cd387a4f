-- What the grammar reads can be judged.
use Rattle.std.proofs.Common.{◌≡◌, ℕ, ◌<◌, ◌≤◌, List, [], ◌∷◌, length, get_or, sym, subst, ap, arith, Option, Some, None, inl, inr, codes}
use Rattle.spf_macros.specs.declared.piece.Piece.{Piece}
use Rattle.spf_grammar.specs.declared.policy.Mechanism.{Mechanism}
use Rattle.spf_grammar.specs.declared.policy.Mechanism.TheVariants.{All, Include, A, Mx, Ptr, Ip4, Ip6, Exists}
use Rattle.spf_grammar.specs.declared.policy.Term.{Term}
use Rattle.spf_grammar.specs.declared.policy.Term.TheVariants.{Directive, Redirect, Exp, Unknown}
use Rattle.spf_grammar.specs.declared.policy.Policy.{Policy}
use Rattle.spf_grammar.specs.Grammar.{ReadAs, SpellsTerms, SpellsTerm, SpellsMechanism, SpellsTarget, SpellsLen}
use Rattle.spf_model.specs.Leads.{TargetFits, MechanismFits, TermFits, TermsFit}

-- a list of one item
pub one_item : {L : Type 0} (xs : List L) (x : L) → 1 ≤ length xs → length xs < 2 → x ≡ get_or xs 0 x → xs ≡ x ∷ []
one_item [] x least below e = absurd (omega (arith, least))
one_item (y ∷ []) x least below e = ap (λ z. z ∷ []) (sym e)
one_item (y ∷ z ∷ xs) x least below e = absurd (omega (arith, below))

-- ---- terms that the grammar reads can be judged

target_fits : (text : List ℕ) (spec : Option (List Piece)) → SpellsTarget text spec → TargetFits spec
target_fits text None h = tt
target_fits text (Some spec) h = h.1.letters

len_fits : (slash : List ℕ) (most : ℕ) (text : List ℕ) (len : ℕ) → SpellsLen slash most text len → len ≤ most
len_fits slash most text len (inl h) = omega (arith, h.1)
len_fits slash most text len (inr h) = h.0

mechanism_fits : (text : List ℕ) (m : Mechanism) → SpellsMechanism text m → MechanismFits m
mechanism_fits text All h = tt
mechanism_fits text (Include spec) h = target_fits h.1 (Some spec) h.3
mechanism_fits text (A spec len4 len6) h = (target_fits h.3.target spec h.3.hosts, len_fits (codes "/") 32 h.3.after4 len4 h.3.short4, len_fits (codes "//") 128 h.3.after6 len6 h.3.short6)
mechanism_fits text (Mx spec len4 len6) h = (target_fits h.3.target spec h.3.hosts, len_fits (codes "/") 32 h.3.after4 len4 h.3.short4, len_fits (codes "//") 128 h.3.after6 len6 h.3.short6)
mechanism_fits text (Ptr spec) h = tt
mechanism_fits text (Ip4 p) h = tt
mechanism_fits text (Ip6 p) h = tt
mechanism_fits text (Exists spec) h = target_fits h.1 (Some spec) h.3

term_fits : (text : List ℕ) (term : Term) → SpellsTerm text term → TermFits term
term_fits text (Directive verdict m) h = mechanism_fits h.1 m h.3
term_fits text (Redirect spec) h = h.3.1.letters
term_fits text (Exp spec) h = tt
term_fits text (Unknown name value) h = tt

terms_fit : (text : List ℕ) (terms : List Term) → SpellsTerms text terms → TermsFit terms
terms_fit text [] h = tt
terms_fit text (term ∷ terms) h = (term_fits h.1 term h.4, terms_fit h.2 terms h.5)

pub policy_fits : (text : List ℕ) (read : Option Policy) (policy : Policy) → read ≡ Some policy → ReadAs text read → TermsFit policy.terms
policy_fits text read policy e h = let reads : ReadAs text (Some policy) = subst (ReadAs text) e h in terms_fit reads.rest policy.terms reads.terms
