-- A text spells one address at most.
use Rattle.std.proofs.Common.{◌≡◌, ◌≢◌, ne_eqb, ℕ, ◌/◌, ◌%◌, ◌<◌, ◌^◌, ◌==◌, Bool, true, false, true≢false, ◌||◌, inl, inr, List, [], ◌∷◌, ◌++◌, codes, decimal, refl, sym, ap, ◌∙◌, arith}
use Rattle.std.specs.List.{join_with_byte, list_any}
use Rattle.std.specs.Str.Parse.{AllDigits}
use Rattle.std.proofs.lemmas.Fmt.{decimal_is_IsNumeral}
use Rattle.std.proofs.lemmas.Str.Parse.{digit_from_value}
use Rattle.std.proofs.lemmas.List.Folds.{list_any-append}
use Rattle.addr_bits.specs.declared.address.Address.{Address}
use Rattle.addr_bits.specs.declared.address.Address.TheVariants.{V4, V6}
use Rattle.addr_bits.specs.Address.{SpellsAddress}
use Rattle.addr_bits.specs.Ip4.{SpellsIp4}
use Rattle.addr_bits.specs.Ip6.{SpellsIp6, SpellGroups}
use Rattle.addr_bits.proofs.Texts.{one_4, one_6}

-- the text has a colon
abbrev has_colon : List ℕ → Bool
has_colon text = list_any (λ b. b == 58) text

or_true : (b : Bool) → (b || true) ≡ true
or_true true = refl
or_true false = refl

colon_behind : (front back : List ℕ) → has_colon (front ++ 58 ∷ back) ≡ true
colon_behind front back = list_any-append (λ b. b == 58) front (58 ∷ back) ∙ or_true (has_colon front)

both_plain : (a b : List ℕ) → has_colon a ≡ false → has_colon b ≡ false → has_colon (a ++ b) ≡ false
both_plain a b h k = rw (list_any-append (λ c. c == 58) a b, h, k) refl

digits_plain : (text : List ℕ) → AllDigits 10 text → has_colon text ≡ false
digits_plain [] h = refl
digits_plain (b ∷ text) h =
    let range = digit_from_value b h.0 in
    let other : b ≢ 58 = omega (arith, range.1) in
    rw (ne_eqb b 58 other) (digits_plain text h.1)

-- a decimal number has none
decimal_plain : (n : ℕ) → n < 256 → has_colon (decimal n) ≡ false
decimal_plain n small = digits_plain (decimal n) (decimal_is_IsNumeral n (omega (arith, small))).0.1

four_plain : (text : List ℕ) (a : ℕ) → SpellsIp4 text a → has_colon text ≡ false
four_plain text a h =
    let w = decimal_plain (a / 2 ^ 24) (omega (arith, h.0)) in
    let x = decimal_plain (a / 2 ^ 16 % 256) (omega arith) in
    let y = decimal_plain (a / 2 ^ 8 % 256) (omega arith) in
    let z = decimal_plain (a % 256) (omega arith) in
    rw h.1 (both_plain (decimal (a / 2 ^ 24)) _ w (both_plain (decimal (a / 2 ^ 16 % 256)) _ x (both_plain (decimal (a / 2 ^ 8 % 256)) _ y z)))

-- three groups or more stand in two pieces or more
joined_colon : (pieces : List (List ℕ)) (g h i : ℕ) (groups : List ℕ) → SpellGroups true pieces (g ∷ h ∷ i ∷ groups) → has_colon (join_with_byte 58 pieces) ≡ true
joined_colon [] g h i groups s = absurd (some_none s)
  where
    some_none : (g ∷ h ∷ i ∷ groups) ≡ [] → ⊥
    some_none e = cc
joined_colon (p ∷ []) g h i groups (inl s) = absurd (some_none s.1)
  where
    some_none : (h ∷ i ∷ groups) ≡ [] → ⊥
    some_none e = cc
joined_colon (p ∷ []) g h i groups (inr s) = absurd (two_one s.2.0 s.2.2)
  where
    two_one : (k : ℕ) → (h ∷ i ∷ groups) ≡ k ∷ [] → ⊥
    two_one k e = cc
joined_colon (p ∷ q ∷ pieces) g h i groups s = colon_behind p (join_with_byte 58 (q ∷ pieces))

six_colon : (text : List ℕ) (a : ℕ) → SpellsIp6 text a → has_colon text ≡ true
six_colon text a (small, inl s) = rw s.spelled (joined_colon s.pieces _ _ _ _ s.each)
six_colon text a (small, inr s) =
    rw (s.spelled, list_any-append (λ b. b == 58) (join_with_byte 58 s.before ++ codes "::") (join_with_byte 58 s.after), colon_behind (join_with_byte 58 s.before) (58 ∷ [])) refl

pub one_text : (text : List ℕ) (a b : Address) → SpellsAddress text a → SpellsAddress text b → a ≡ b
one_text text (V4 a) (V4 b) x y = ap (λ (n : ℕ). V4 n) (one_4 text a b x y)
one_text text (V4 a) (V6 b) x y = absurd (true≢false (sym (six_colon text b y) ∙ four_plain text a x))
one_text text (V6 a) (V4 b) x y = absurd (true≢false (sym (six_colon text a x) ∙ four_plain text b y))
one_text text (V6 a) (V6 b) x y = ap (λ (n : ℕ). V6 n) (one_6 text a b x y)
