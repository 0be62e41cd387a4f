-- The labels of reversed names.
use Rattle.std.proofs.Common.{◌≡◌, ℕ, zero, suc, ◌+◌, ◌*◌, ◌/◌, ◌%◌, ◌^◌, ◌<◌, ◌≤◌, cond, List, [], ◌∷◌, ◌++◌, length, map, reverse, decimal, nat_lt, refl, sym, ap, ap₂, subst, ◌∙◌, arith, lt-ltb}
use Rattle.std.specs.Char.{digit_char, digit_value, to_ascii_lowercase}
use Rattle.std.specs.Str.Parse.{AllDigits}
use Rattle.std.proofs.lemmas.Bool.{cond-true}
use Rattle.std.proofs.lemmas.Nat.{shr_below}
use Rattle.std.proofs.lemmas.Fmt.{decimal_injective, decimal_is_IsNumeral, length-decimal-le}
use Rattle.std.proofs.lemmas.Str.{digit_value-digit_char}
use Rattle.std.proofs.lemmas.Str.Parse.{digit_from_value}
use Rattle.addr_bits.specs.Address.{address_of, bits_of}
use Rattle.addr_bits.specs.Ip4.{octets_of}
use Rattle.addr_bits.specs.declared.address.Family.{Family}
use Rattle.addr_bits.specs.declared.address.Family.TheVariants as family
use Rattle.addr_bits.specs.declared.address.Address.{Address}
use Rattle.addr_bits.specs.declared.address.Address.TheVariants.{V4, V6}
use Rattle.dns_name.specs.Name.{IsLabel, lowercase_label}
use Rattle.zone_answers.specs.Reversed.{digit_label, digits_name, last_digits, reversed_labels, reversed_name}

-- ---- legal labels in lower case

small_lower : (b : ℕ) → b < 65 → to_ascii_lowercase b ≡ b
small_lower b small = cond-true (nat_lt b 65) b (cond (nat_lt b 91) (b + 32) b) (lt-ltb b 65 small)

digits_lower : (bs : List ℕ) → AllDigits 10 bs → lowercase_label bs ≡ bs
digits_lower [] h = refl
digits_lower (b ∷ bs) h =
    let range = digit_from_value b h.0 in ap₂ (λ (c : ℕ) (cs : List ℕ). c ∷ cs) (small_lower b (omega (arith, range.1))) (digits_lower bs h.1)

pub octet_lower : (n : ℕ) → n < 256 → lowercase_label (decimal n) ≡ decimal n
octet_lower n small = digits_lower (decimal n) (decimal_is_IsNumeral n (omega arith)).0.1

pub octet_short : (n : ℕ) → n < 256 → length (decimal n) ≤ 3
octet_short n small = length-decimal-le 3 n (omega arith) (omega arith) (omega arith)

pub octet_label : (n : ℕ) → n < 256 → IsLabel (decimal n)
octet_label n small = ((decimal_is_IsNumeral n (omega arith)).0.0, omega (arith, octet_short n small))

-- ---- the octets of an address

pub octets_reversed : (a : ℕ) → a < 2 ^ 32 → reversed_labels (V4 a) ≡ reverse (map decimal (octets_of a))
unfolding reversed_labels
octets_reversed a below = four (a / 2 ^ 8 % 2 ^ 8) (a / 2 ^ 8 / 2 ^ 8 % 2 ^ 8) (a / 2 ^ 8 / 2 ^ 8 / 2 ^ 8 % 2 ^ 8) (omega arith) (omega arith) (omega arith)
  where
    four : (b c d : ℕ) → b ≡ a / 2 ^ 8 % 256 → c ≡ a / 2 ^ 16 % 256 → d ≡ a / 2 ^ 24 → decimal (a % 256) ∷ decimal b ∷ decimal c ∷ decimal d ∷ [] ≡ reverse (map decimal (octets_of a))
    four b c d e f g =
        ap (λ (n : ℕ). decimal (a % 256) ∷ decimal n ∷ decimal c ∷ decimal d ∷ []) e
        ∙ ap (λ (n : ℕ). decimal (a % 256) ∷ decimal (a / 2 ^ 8 % 256) ∷ decimal n ∷ decimal d ∷ []) f
        ∙ ap (λ (n : ℕ). decimal (a % 256) ∷ decimal (a / 2 ^ 8 % 256) ∷ decimal (a / 2 ^ 16 % 256) ∷ decimal n ∷ []) g

-- ---- one name for each address

some : (n : ℕ) → 0 < 2 ^ n
some zero = omega arith
some (suc n) = let h = some n in omega (arith, h)

rest_below : (n r : ℕ) → 0 < r → n % r < r
rest_below n r h = grind arith

whole : (m n r : ℕ) → m / r ≡ n / r → m % r ≡ n % r → m ≡ n
whole m n r e f = grind arith

head_of : {x y : List ℕ} {xs ys : List (List ℕ)} → x ∷ xs ≡ y ∷ ys → x ≡ y
head_of e = cc

tail_of : {x y : List ℕ} {xs ys : List (List ℕ)} → x ∷ xs ≡ y ∷ ys → xs ≡ ys
tail_of e = cc

shorter : (count bits n : ℕ) → n < 2 ^ (suc count * bits) → n / 2 ^ bits < 2 ^ (count * bits)
shorter count bits n h = shr_below n (count * bits) bits (subst (λ k. n < 2 ^ k) (longer count bits) h)
  where
    longer : (count bits : ℕ) → suc count * bits ≡ count * bits + bits
    longer count bits = grind arith

none_left : (bits n : ℕ) → n < 2 ^ (zero * bits) → n ≡ 0
none_left bits n h = below_one (subst (λ k. n < 2 ^ k) (no_bits bits) h)
  where
    no_bits : (bits : ℕ) → zero * bits ≡ 0
    no_bits bits = omega arith

    below_one : n < 2 ^ 0 → n ≡ 0
    below_one g = omega (arith, g)

-- the digits of a number tell it, where their labels tell them
same_digits : (bits : ℕ) (label : ℕ → List ℕ) → ((m n : ℕ) → m < 2 ^ bits → n < 2 ^ bits → label m ≡ label n → m ≡ n)
    → (suffix : List (List ℕ)) (count a b : ℕ) → a < 2 ^ (count * bits) → b < 2 ^ (count * bits)
    → last_digits bits label count a ++ suffix ≡ last_digits bits label count b ++ suffix → a ≡ b
same_digits bits label one suffix zero a b p q e = let x = none_left bits a p in let y = none_left bits b q in omega (arith, x, y)
same_digits bits label one suffix (suc count) a b p q e =
    whole a b (2 ^ bits)
    (same_digits bits label one suffix count (a / 2 ^ bits) (b / 2 ^ bits) (shorter count bits a p) (shorter count bits b q) (tail_of e))
    (one (a % 2 ^ bits) (b % 2 ^ bits) (rest_below a (2 ^ bits) (some bits)) (rest_below b (2 ^ bits) (some bits)) (head_of e))

one_octet : (m n : ℕ) → m < 2 ^ 8 → n < 2 ^ 8 → decimal m ≡ decimal n → m ≡ n
one_octet m n p q e = decimal_injective m n (omega arith) (omega arith) e

one_digit : (m n : ℕ) → m < 2 ^ 4 → n < 2 ^ 4 → digit_label m ≡ digit_label n → m ≡ n
one_digit m n p q e =
    let same : digit_char m ≡ digit_char n = cc in
    sym (digit_value-digit_char m (omega arith)) ∙ ap digit_value same ∙ digit_value-digit_char n (omega arith)

pub one_name : (family : Family) (a b : ℕ) (suffix : List (List ℕ)) → a < 2 ^ bits_of family → b < 2 ^ bits_of family
    → reversed_name (address_of family a) suffix ≡ reversed_name (address_of family b) suffix → a ≡ b
unfolding reversed_labels
one_name family.V4 a b suffix p q e = same_digits 8 decimal one_octet suffix 4 a b p q e
one_name family.V6 a b suffix p q e = same_digits 4 digit_label one_digit suffix 32 a b p q e

-- ---- the name of an address

pub name_of_ip4 : (a : Address) (n m : ℕ) (suffix : List (List ℕ)) → a ≡ V4 n → m ≡ n → digits_name family.V4 4 m suffix ≡ reversed_name a suffix
unfolding reversed_labels
name_of_ip4 a n m suffix e f = ap (λ (k : ℕ). digits_name family.V4 4 k suffix) f ∙ ap (λ (x : Address). reversed_labels x ++ suffix) (sym e)

pub name_of_ip6 : (a : Address) (n : ℕ) (suffix : List (List ℕ)) → a ≡ V6 n → digits_name family.V6 32 n suffix ≡ reversed_name a suffix
unfolding reversed_labels
name_of_ip6 a n suffix e = ap (λ (x : Address). reversed_labels x ++ suffix) (sym e)
