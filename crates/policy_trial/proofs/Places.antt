-- The names of the records that the one at the top includes, and where the includes lead.
use Rattle.std.proofs.Common.{◌≡◌, ℕ, ◌+◌, ◌<◌, ◌==◌, Bool, true, false, IsTrue, List, [], ◌∷◌, ◌++◌, map, decimal, Some, refl, sym, subst, ap₂, ◌∙◌, arith}
use Rattle.std.specs.Prelude.{codes}
use Rattle.std.specs.List.{filter, list_all, range_with_len}
use Rattle.std.proofs.lemmas.Bool.{agree_below, agree_below_at}
use Rattle.std.proofs.lemmas.Fmt.{decimal_digit}
use Rattle.addr_bits.specs.declared.address.Family.{Family}
use Rattle.spf_macros.specs.declared.piece.Piece.{Piece}
use Rattle.spf_macros.specs.declared.piece.Piece.TheVariants.{Literal}
use Rattle.spf_macros.specs.declared.expansion.Expanded.TheVariants.{Out}
use Rattle.spf_macros.specs.Expansion.{target}
use Rattle.spf_macros.specs.Grammar.{SpellsDomainSpec, is_literal}
use Rattle.spf_macros.proofs.MacroTexts.{host_spells}
use Rattle.spf_model.specs.Judging.{name_of}
use Rattle.zone_answers.specs.Same.{same_name}
use Rattle.spf_gen.specs.Records.{record_owner, trial_name, trial_text}
use Rattle.spf_gen.proofs.Places.{each_place}

-- ---- by the digits of a place

abbrev pub owner_at : (digits : List ℕ) → List (List ℕ)
owner_at digits = (codes "n" ++ digits) ∷ trial_name

abbrev pub target_at : (digits : List ℕ) → List ℕ
target_at digits = codes "n" ++ digits ++ codes ".trial.example"

abbrev pub spec_at : (digits : List ℕ) → List Piece
spec_at digits = map Literal (target_at digits)

-- the domain-spec of an include, and where it leads
pub record LeadsThere (digits : List ℕ) : Type 0 where
  pub spelled : SpellsDomainSpec false (target_at digits) (spec_at digits)
  pub reached : (family : Family) → target family trial_text (spec_at digits) ≡ Out (target_at digits)
  pub named : name_of (target_at digits) ≡ Some (owner_at digits)

one_digit : (d : ℕ) → IsTrue (list_all is_literal (110 ∷ d ∷ codes ".trial")) → ((family : Family) → target family trial_text (spec_at (d ∷ [])) ≡ Out (target_at (d ∷ [])))
    → name_of (target_at (d ∷ [])) ≡ Some (owner_at (d ∷ [])) → LeadsThere (d ∷ [])
one_digit d literal reached named = record {
  spelled = host_spells false (110 ∷ d ∷ codes ".trial") (codes "example") literal refl;
  reached = reached;
  named = named;
}

pub leads_there : (k : ℕ) → k < 8 → LeadsThere (decimal k)
unfolding Rattle.spf_model.specs.Judging.name_of
leads_there k place =
    subst LeadsThere (sym (decimal_digit k (omega (arith, place))))
    (each_place (λ i. LeadsThere ((48 + i) ∷ [])) (one_digit 48 refl (λ family. refl) refl) (one_digit 49 refl (λ family. refl) refl) (one_digit 50 refl (λ family. refl) refl) (one_digit 51 refl (λ family. refl) refl)
    (one_digit 52 refl (λ family. refl) refl) (one_digit 53 refl (λ family. refl) refl) (one_digit 54 refl (λ family. refl) refl) (one_digit 55 refl (λ family. refl) refl) k place)

-- ---- each place has its own name

abbrev same_at : (i k : ℕ) → Bool
same_at i k = same_name (owner_at ((48 + i) ∷ [])) (owner_at ((48 + k) ∷ []))

digits_same : (i k : ℕ) → i < 8 → k < 8 → same_at i k ≡ (i == k)
digits_same i k below place = agree_below_at (λ j. same_at j k) (λ j. j == k) 8 i
    (each_place (λ l. agree_below (λ j. same_at j l) (λ j. j == l) 8 ≡ true) refl refl refl refl refl refl refl refl k place) below

pub owners_same : (i k : ℕ) → i < 8 → k < 8 → same_name (record_owner i) (record_owner k) ≡ (i == k)
owners_same i k below place =
    ap₂ (λ (x y : List ℕ). same_name (owner_at x) (owner_at y)) (decimal_digit i (omega (arith, below))) (decimal_digit k (omega (arith, place))) ∙ digits_same i k below place

-- no place has the name at the top
pub top_apart : (k : ℕ) → same_name trial_name (record_owner k) ≡ false
top_apart k = refl

pub apart_top : (k : ℕ) → same_name (record_owner k) trial_name ≡ false
apart_top k = refl

-- among the places each stands once
pub one_place : (k : ℕ) → k < 8 → filter (λ i. i == k) (range_with_len 0 8) ≡ k ∷ []
one_place = each_place (λ k. filter (λ i. i == k) (range_with_len 0 8) ≡ k ∷ []) refl refl refl refl refl refl refl refl
