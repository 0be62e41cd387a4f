-- The cuts of a published list: `all` stands in the last record alone.
use Rattle.std.proofs.Common.{◌≡◌, ℕ, zero, suc, ◌+◌, ◌-◌, ◌<◌, ◌≤◌, true, false, not, ◌⊎◌, inl, inr, IsTrue, IsFalse, List, [], ◌∷◌, ◌++◌, length, map, take, drop, refl, arith, length-append, length-drop}
use Rattle.std.proofs.lemmas.Bool.{and_from, and_parts, cases_lt, not-true, or_from, or_parts}
use Rattle.addr_bits.specs.Prefix.{Cidr}
use Rattle.addr_bits.specs.declared.address.Family.{Family}
use Rattle.addr_bits.specs.declared.address.Family.TheVariants as family
use Rattle.spf_grammar.specs.declared.flat.FlatTerm.{FlatTerm}
use Rattle.spf_grammar.specs.declared.verdict.Verdict.{Verdict}
use Rattle.spf_grammar.specs.declared.verdict.Verdict.TheVariants.{Fail, SoftFail, Pass, Neutral}
use Rattle.fewest_terms.specs.Chosen.{all_term, chosen, chosen_list, flat}
use Rattle.fewest_terms.specs.Totals.{need_of_both, verdict_of_all}
use Rattle.record_pack.specs.Records.{Fits, HasFewest, IsFittingCut, RecordsFit, RiseTo, piece, record_name, redirect_text, terms_text}
use Rattle.cert_checker.specs.Forms.{has_all, has_all_last, is_all}

-- ---- where `all` stands in a list

behind_others : (xs ys : List FlatTerm) → IsFalse (has_all xs) → IsTrue (has_all_last ys) → IsTrue (has_all_last (xs ++ ys))
behind_others [] ys none last = last
behind_others (x ∷ []) [] none last = refl
behind_others (x ∷ []) (y ∷ ys) none last = and_from (not (is_all x.net)) (has_all_last (y ∷ ys)) (other x none) last
  where
    other : (x : FlatTerm) → IsFalse (has_all (x ∷ [])) → not (is_all x.net) ≡ true
    other x none = let parts = or_parts (is_all x.net) false none in cc
behind_others (x ∷ z ∷ xs) ys none last =
    let parts = or_parts (is_all x.net) (has_all (z ∷ xs)) none in
    let first : is_all x.net ≡ false = parts.0 in
    let other : not (is_all x.net) ≡ true = cc in
    and_from (not (is_all x.net)) (has_all_last (z ∷ (xs ++ ys))) other (behind_others (z ∷ xs) ys parts.1 last)

family_other : (f : Family) (terms : List (Cidr × Verdict)) → IsFalse (has_all (map (flat f) terms))
family_other family.V4 [] = refl
family_other family.V4 (t ∷ terms) = family_other family.V4 terms
family_other family.V6 [] = refl
family_other family.V6 (t ∷ terms) = family_other family.V6 terms

all_alone : (c : Verdict) → IsTrue (has_all_last (all_term c))
all_alone Fail = refl
all_alone SoftFail = refl
all_alone Pass = refl
all_alone Neutral = refl

pub chosen_last : (v4 v6 : ℕ → Verdict) → IsTrue (has_all_last (chosen_list v4 v6))
unfolding chosen_list
chosen_last v4 v6 =
    let c : Verdict = verdict_of_all (need_of_both v4 v6) in
    let four : List FlatTerm = map (flat family.V4) (chosen 32 v4 32 0 c) in
    let six : List FlatTerm = map (flat family.V6) (chosen 128 v6 128 0 c) in
    behind_others four (six ++ all_term c) (family_other family.V4 (chosen 32 v4 32 0 c))
    (behind_others six (all_term c) (family_other family.V6 (chosen 128 v6 128 0 c)) (all_alone c))

-- ---- where it stands in a piece of it

dropped_last : (n : ℕ) (list : List FlatTerm) → IsTrue (has_all_last list) → IsTrue (has_all_last (drop n list))
dropped_last zero list last = last
dropped_last (suc n) [] last = refl
dropped_last (suc n) (x ∷ []) last = dropped_last n [] refl
dropped_last (suc n) (x ∷ y ∷ list) last = dropped_last n (y ∷ list) (and_parts (not (is_all x.net)) (has_all_last (y ∷ list)) last).1

taken_last : (n : ℕ) (list : List FlatTerm) → IsTrue (has_all_last list) → IsTrue (has_all_last (take n list))
taken_last zero list last = refl
taken_last (suc n) [] last = refl
taken_last (suc n) (x ∷ []) last = one n
  where
    one : (n : ℕ) → IsTrue (has_all_last (x ∷ take n []))
    one zero = refl
    one (suc n) = refl
taken_last (suc zero) (x ∷ y ∷ list) last = refl
taken_last (suc (suc n)) (x ∷ y ∷ list) last =
    let parts = and_parts (not (is_all x.net)) (has_all_last (y ∷ list)) last in
    and_from (not (is_all x.net)) (has_all_last (y ∷ take n list)) parts.0 (taken_last (suc n) (y ∷ list) parts.1)

taken_other : (n : ℕ) (list : List FlatTerm) → IsTrue (has_all_last list) → n < length list → IsFalse (has_all (take n list))
taken_other zero list last within = refl
taken_other (suc n) [] last within = absurd (omega (arith, within))
taken_other (suc n) (x ∷ []) last within = absurd (omega (arith, within))
taken_other (suc n) (x ∷ y ∷ list) last within =
    let parts = and_parts (not (is_all x.net)) (has_all_last (y ∷ list)) last in
    or_from (is_all x.net) (has_all (take n (y ∷ list))) (not-true (is_all x.net) parts.0) (taken_other n (y ∷ list) parts.1 (omega (arith, within)))

pub piece_last : (list : List FlatTerm) (from to : ℕ) → IsTrue (has_all_last list) → IsTrue (has_all_last (piece list from to))
piece_last list from to last = taken_last (to - from) (drop from list) (dropped_last from list last)

pub piece_other : (list : List FlatTerm) (from to : ℕ) → IsTrue (has_all_last list) → from ≤ to → to < length list → IsFalse (has_all (piece list from to))
piece_other list from to last rise within =
    taken_other (to - from) (drop from list) (dropped_last from list last) (omega (arith, rise, within, length-drop from list))

-- ---- only the last record of the fewest reaches the end of the list

abbrev pub EndInside : (len : ℕ) → List ℕ → Type 0
EndInside len [] = Unit {0}
EndInside len (to ∷ []) = Unit {0}
EndInside len (to ∷ next ∷ ends) = (to < len) × EndInside len (next ∷ ends)

-- without its redirect a record is shorter
fits_last : (domain label : List ℕ) (size others : ℕ) (terms : List FlatTerm) (k : ℕ) → Fits domain label size others terms k false → Fits domain label size others terms k true
fits_last domain label size others terms k fits =
    omega (arith, fits, length-append (terms_text terms) (redirect_text false (record_name domain label (k + 1))), length-append (terms_text terms) [])

record Shorter (domain label : List ℕ) (size others : ℕ) (list : List FlatTerm) (k from : ℕ) (ends : List ℕ) : Type 0 where
  other : List ℕ
  some : 1 ≤ length other
  fewer : length other < length ends
  rise : RiseTo from (length list) other
  fit : RecordsFit domain label size others list k from other

module _ (domain label : List ℕ) (size others : ℕ) (list : List FlatTerm) where
  fits_before : (k from to : ℕ) (other : List ℕ) → 1 ≤ length other → Fits domain label size others (piece list from to) k false
      → RecordsFit domain label size others list (k + 1) to other → RecordsFit domain label size others list k from (to ∷ other)
  fits_before k from to [] some fits fit = absurd (omega (arith, some))
  fits_before k from to (next ∷ other) some fits fit = (fits, fit)

  inside_or : (k from : ℕ) (ends : List ℕ) → RiseTo from (length list) ends → RecordsFit domain label size others list k from ends
      → EndInside (length list) ends ⊎ Shorter domain label size others list k from ends
  inside_or k from [] rise fit = inl tt
  inside_or k from (to ∷ []) rise fit = inl tt
  inside_or k from (to ∷ next ∷ ends) rise fit = by (cases_lt to (length list)) (inside_or (k + 1) to (next ∷ ends) rise.2 fit.1)
    where
      by : (to < length list) ⊎ (length list ≤ to) → EndInside (length list) (next ∷ ends) ⊎ Shorter domain label size others list (k + 1) to (next ∷ ends)
          → EndInside (length list) (to ∷ next ∷ ends) ⊎ Shorter domain label size others list k from (to ∷ next ∷ ends)
      by (inl before) (inl rest) = inl (before, rest)
      by (inl before) (inr s) = inr (record {
        other = to ∷ s.other;
        some = omega arith;
        fewer = omega (arith, s.fewer);
        rise = (rise.0, rise.1, s.rise);
        fit = fits_before k from to s.other s.some fit.0 s.fit;
      })
      by (inr whole) rest = inr (record {
        other = to ∷ [];
        some = omega arith;
        fewer = omega arith;
        rise = (rise.0, rise.1, omega (arith, whole, rise.1));
        fit = fits_last domain label size others (piece list from to) k fit.0;
      })

  pub ends_inside : (ends : List ℕ) → IsFittingCut domain label size others list ends → HasFewest domain label size others list ends → EndInside (length list) ends
  ends_inside ends cut fewest = by (inside_or 0 0 ends cut.cut.rise cut.fit)
    where
      by : EndInside (length list) ends ⊎ Shorter domain label size others list 0 0 ends → EndInside (length list) ends
      by (inl inside) = inside
      by (inr s) =
          absurd (omega (arith, s.fewer, fewest s.other (record { cut = record { some = s.some; few = omega (arith, s.fewer, cut.cut.few); rise = s.rise }; fit = s.fit })))
