-- The numbers that digits make.
use Rattle.std.proofs.Common.{◌≡◌, ℕ, ◌+◌, ◌-◌, ◌*◌, ◌<◌, min, true, List, [], ◌∷◌, length, take, get_or, refl, sym, ◌∙◌, arith, lt-ltb, inl, inr}
use Rattle.std.specs.List.{list_all}
use Rattle.std.specs.Char.{digit_value, is_ascii_digit}
use Rattle.std.specs.Int.{IsInRange}
use Rattle.std.specs.Str.Parse.{AllDigits, digits_value}
use Rattle.std.proofs.lemmas.Bool.{and_from, and_parts, cases_Bool, leb-true, le-leb, ltb-true, both_ways, false_from_ne_true}
use Rattle.std.proofs.lemmas.Int.Digits.{digits_value_more}
use Rattle.std.proofs.lemmas.Str.{digit_value_digit}
use Rattle.std.proofs.lemmas.Str.Parse.{digit_from_value}
use Rattle.std.proofs.lemmas.List.Sums.{AllPass-from_list_all}
use Rattle.spf_macros.proofs.OneReading.{is_digit}

in_range : (b : ℕ) → is_ascii_digit b ≡ true → IsInRange 48 57 b
in_range b h = let parts = and_parts _ _ h in (leb-true 48 b parts.0, leb-true b 57 parts.1)

digit_small : (b : ℕ) → is_ascii_digit b ≡ true → digit_value b < 10
digit_small b h = let value = digit_value_digit b (in_range b h) in let range = in_range b h in omega (arith, range.0, range.1)

-- the two tests of a digit are one
pub same_digit : (b : ℕ) → is_digit b ≡ is_ascii_digit b
same_digit b =
    elim (cases_Bool (is_ascii_digit b)) [
      | inl hit ↦ lt-ltb (digit_value b) 10 (digit_small b hit) ∙ sym hit
      | inr miss ↦ false_from_ne_true (is_digit b) (λ hit. let range = digit_from_value b (ltb-true (digit_value b) 10 hit) in both_ways (is_ascii_digit b) miss (and_from _ _ (le-leb 48 b range.0) (le-leb b 57 range.1))) ∙ sym miss
    ]

pub all_ascii : (ds : List ℕ) → list_all is_digit ds ≡ true → list_all is_ascii_digit ds ≡ true
all_ascii [] h = refl
all_ascii (d ∷ ds) h = let parts = and_parts (is_digit d) (list_all is_digit ds) h in and_from _ _ (sym (same_digit d) ∙ parts.0) (all_ascii ds parts.1)

pub digits_all : (ds : List ℕ) → list_all is_ascii_digit ds ≡ true → AllDigits 10 ds
digits_all [] h = tt
digits_all (d ∷ ds) h = let parts = and_parts (is_ascii_digit d) (list_all is_ascii_digit ds) h in (digit_small d parts.0, digits_all ds parts.1)

-- a held number with one more digit
pub next_held : (digits : List ℕ) (i n m r : ℕ) → i < length digits → list_all is_ascii_digit digits ≡ true → n ≡ min (digits_value 10 (take i digits)) 255 → m ≡ min (n * 10) 255
    → r ≡ min (m + (get_or digits i 0 - 48)) 255 → r ≡ min (digits_value 10 (take (i + 1) digits)) 255
next_held digits i n m r within all before times plus =
    let more : digits_value 10 (take (i + 1) digits) ≡ digits_value 10 (take i digits) * 10 + digit_value (get_or digits i 0) = digits_value_more 10 digits i within in
    let value : digit_value (get_or digits i 0) + 48 ≡ get_or digits i 0 = digit_value_digit (get_or digits i 0) (in_range (get_or digits i 0) (AllPass-from_list_all is_ascii_digit digits all i 0 within)) in
    rw more (sum (digits_value 10 (take i digits)) (digit_value (get_or digits i 0)) (get_or digits i 0) n m r value before times plus)
  where
    sum : (v d b n m r : ℕ) → d + 48 ≡ b → n ≡ min v 255 → m ≡ min (n * 10) 255 → r ≡ min (m + (b - 48)) 255 → r ≡ min (v * 10 + d) 255
    sum v d b n m r value before times plus = omega arith
