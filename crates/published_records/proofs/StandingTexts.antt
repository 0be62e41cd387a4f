-- The texts of records in their strings.
use Rattle.std.proofs.Common.{◌≡◌, ℕ, zero, suc, ◌+◌, ◌<◌, ◌≤◌, Bool, true, false, cond, List, [], ◌∷◌, ◌++◌, length, take, drop, sum_by, nat_lt, refl, ap, ◌∙◌, arith, append-nil, length-take, length-drop, take-append-drop, if◌then◌else◌, Some, None}
use Rattle.std.specs.List.{concat, AllByRecursion}
use Rattle.std.proofs.lemmas.Bool.{ltb-true, ltb-false}
use Rattle.std.proofs.lemmas.List.Sums.{sum_by-cons}
use Rattle.spf_text.specs.Version.{is_spf_text}
use Rattle.spf_grammar.specs.declared.flat.FlatTerm.{FlatTerm}
use Rattle.spf_model.specs.Check.{spf_text_of}
use Rattle.master_reader.specs.declared.record.Body.TheVariants.{Txt}
use Rattle.record_pack.specs.Records.{record_text}
use Rattle.zone_answers.specs.Lend.{IsBodyFit}
use Rattle.zone_writer.specs.Fragment.{strings_of, strings_within}

-- ---- the strings of a text

joined_within : (n : ℕ) (text : List ℕ) → concat (strings_within n text) ≡ text
joined_within zero text = append-nil text
joined_within (suc n) text = by (nat_lt 255 (length text)) (joined_within n (drop 255 text))
  where
    by : (t : Bool) → concat (strings_within n (drop 255 text)) ≡ drop 255 text → concat (cond t (take 255 text ∷ strings_within n (drop 255 text)) (text ∷ [])) ≡ text
    by true e = ap (λ rest. take 255 text ++ rest) e ∙ take-append-drop 255 text
    by false e = append-nil text

-- the strings of a text join to it
pub strings_join : (text : List ℕ) → concat (strings_of text) ≡ text
strings_join text = joined_within (length text) text

-- what is asked of the strings of a body
abbrev AreFit : ℕ → List (List ℕ) → Type 0
AreFit most strings = (0 < length strings) × AllByRecursion (λ s. length s ≤ 255) strings × (sum_by (λ s. length s + 1) strings ≤ most)

one_fit : (n : ℕ) (text : List ℕ) → length text ≤ 255 → AreFit (length text + n + 1) (text ∷ [])
one_fit n text h = (omega arith, (h, tt), omega (arith, sum_by-cons (λ (s : List ℕ). length s + 1) text []))

strings_fit : (n : ℕ) (text : List ℕ) → length text ≤ n → AreFit (length text + n + 1) (strings_within n text)
strings_fit zero text h = one_fit 0 text (omega arith)
strings_fit (suc n) text h = by (nat_lt 255 (length text)) refl (λ short. strings_fit n (drop 255 text) short)
  where
    more : 255 < length text → AreFit (length (drop 255 text) + n + 1) (strings_within n (drop 255 text)) → AreFit (length text + suc n + 1) (take 255 text ∷ strings_within n (drop 255 text))
    more long rest = (
      omega arith,
      (omega (arith, length-take 255 text), rest.1),
      omega (arith, rest.2, length-take 255 text, length-drop 255 text, sum_by-cons (λ (s : List ℕ). length s + 1) (take 255 text) (strings_within n (drop 255 text))),
    )

    by : (t : Bool) → nat_lt 255 (length text) ≡ t → (length (drop 255 text) ≤ n → AreFit (length (drop 255 text) + n + 1) (strings_within n (drop 255 text)))
        → AreFit (length text + suc n + 1) (cond t (take 255 text ∷ strings_within n (drop 255 text)) (text ∷ []))
    by true e rest = let long = ltb-true 255 (length text) e in more long (rest (omega (arith, long, length-drop 255 text)))
    by false e rest = one_fit (suc n) text (ltb-false 255 (length text) e)

pub text_fits : (text : List ℕ) → length text ≤ 4096 → IsBodyFit (Txt (strings_of text))
text_fits text h = let fit = strings_fit (length text) text (omega arith) in (fit.0, fit.1, omega (arith, fit.2))

-- ---- the text of a record is an SPF text

pub record_is_spf : (domain label : List ℕ) (terms : List FlatTerm) (k : ℕ) (last : Bool) → is_spf_text (record_text domain label terms k last) ≡ true
unfolding is_spf_text
record_is_spf domain label [] k true = refl
record_is_spf domain label [] k false = refl
record_is_spf domain label (term ∷ terms) k last = refl

pub txt_of_spf : (strings : List (List ℕ)) → is_spf_text (concat strings) ≡ true → spf_text_of (Txt strings) ≡ Some (concat strings)
txt_of_spf strings h = ap (λ b. cond b (Some (concat strings)) None) h
