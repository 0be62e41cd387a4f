-- Words and numbers, octet by octet.
use Rattle.std.proofs.Common.{◌≡◌, ◌≢◌, ℕ, suc, ◌+◌, ◌-◌, ◌*◌, ◌<◌, ◌≤◌, min, Bool, true, false, ◌&&◌, List, [], ◌∷◌, ◌++◌, length, take, get_or, sym, ap, ap₂, ◌∙◌, arith, bytes_eq, nat_lt, lt-ltb}
use Rattle.std.proofs.Math.Seq.{take-suc, take_all}
use Rattle.std.proofs.lemmas.List.{get_or-map, length-map}
use Rattle.std.proofs.lemmas.List.Folds.{list_all-map}
use Rattle.std.proofs.lemmas.List.Sums.{AllPass-from_list_all}
use Rattle.std.proofs.lemmas.Bool.{and_parts, leb-true, false_from_ne_true}
use Rattle.std.proofs.lemmas.Int.Digits.{digits_value_more}
use Rattle.std.proofs.lemmas.Str.{digit_value_digit}
use Rattle.std.specs.Cmp.Lexicographic.{bytes_decides}
use Rattle.std.specs.Char.{to_ascii_lowercase, is_ascii_digit, digit_value}
use Rattle.std.specs.Int.{IsInRange}
use Rattle.std.specs.List.{list_all}
use Rattle.std.specs.Str.{str_to_ascii_lowercase}
use Rattle.std.specs.Str.Parse.{digits_value}
use Rattle.master_lex.specs.declared.entry.Octet.{Octet}
use Rattle.master_reader.specs.Tokens.{bytes_in, are_digits}

abbrev pub no_octet : Octet
no_octet = record { byte = 0; escaped = false }

pub byte_at : (units : List Octet) (i : ℕ) → i < length units → get_or (bytes_in units) i 0 ≡ (get_or units i no_octet).byte
byte_at units i h = get_or-map (λ (o : Octet). o.byte) units i no_octet 0 h

pub length-bytes_in : (units : List Octet) → length (bytes_in units) ≡ length units
length-bytes_in units = length-map units (λ (o : Octet). o.byte)

pub length-lower : (units : List Octet) → length (str_to_ascii_lowercase (bytes_in units)) ≡ length units
length-lower units = length-map (bytes_in units) to_ascii_lowercase ∙ length-bytes_in units

pub lower_at : (units : List Octet) (i : ℕ) → i < length units → get_or (str_to_ascii_lowercase (bytes_in units)) i 0 ≡ to_ascii_lowercase (get_or units i no_octet).byte
lower_at units i h =
    get_or-map to_ascii_lowercase (bytes_in units) i 0 0 (omega (arith, length-bytes_in units)) ∙ ap to_ascii_lowercase (byte_at units i h)

pub bytes_differ : (a b : List ℕ) → a ≢ b → false ≡ bytes_eq a b
bytes_differ a b h = sym (false_from_ne_true (bytes_eq a b) (λ e. h ((bytes_decides a b).0 e)))

pub bytes_same : (a b : List ℕ) → a ≡ b → true ≡ bytes_eq a b
bytes_same a b e = sym ((bytes_decides a b).1 e)

-- words that are the same so far, and at one place more
pub same_more : (a b : List ℕ) (i : ℕ) → i < length a → i < length b → take i a ≡ take i b → get_or a i 0 ≡ get_or b i 0 → take (i + 1) a ≡ take (i + 1) b
same_more a b i h k e at = ap (λ n. take n a) next ∙ take-suc a i 0 h ∙ ap₂ (λ (x : List ℕ) (y : ℕ). x ++ y ∷ []) e at ∙ sym (ap (λ n. take n b) next ∙ take-suc b i 0 k)
  where
    next : i + 1 ≡ suc i
    next = omega arith

pub same_whole : (a b : List ℕ) (i : ℕ) → length a ≤ i → length b ≤ i → take i a ≡ take i b → a ≡ b
same_whole a b i h k e = sym (take_all i a h) ∙ e ∙ take_all i b k

pub digits_from : (units : List Octet) (a : Bool) → 0 < length units → a ≡ list_all (λ (o : Octet). is_ascii_digit o.byte) units → a ≡ are_digits (bytes_in units)
digits_from units a h k =
    k ∙ sym (list_all-map is_ascii_digit (λ (o : Octet). o.byte) units)
    ∙ ap (λ t. t && list_all is_ascii_digit (bytes_in units)) (sym (lt-ltb 0 (length (bytes_in units)) (omega (arith, length-bytes_in units))))

-- ---- numbers

in_range : (b : ℕ) → is_ascii_digit b ≡ true → IsInRange 48 57 b
in_range b h = let parts = and_parts _ _ h in (leb-true 48 b parts.0, leb-true b 57 parts.1)

pub digit_at : (units : List Octet) (i : ℕ) → i < length units → are_digits (bytes_in units) ≡ true → is_ascii_digit (get_or units i no_octet).byte ≡ true
digit_at units i h all =
    let each = (and_parts (nat_lt 0 (length (bytes_in units))) (list_all is_ascii_digit (bytes_in units)) all).1 in
    ap is_ascii_digit (sym (byte_at units i h)) ∙ AllPass-from_list_all is_ascii_digit (bytes_in units) each i 0 (omega (arith, length-bytes_in units))

pub digit_from_48 : (units : List Octet) (i : ℕ) → i < length units → are_digits (bytes_in units) ≡ true → 48 ≤ (get_or units i no_octet).byte
digit_from_48 units i h all = (in_range _ (digit_at units i h all)).0

-- a held number with one digit more
pub number_more : (units : List Octet) (cap i n r : ℕ) → i < length units → are_digits (bytes_in units) ≡ true → n ≡ min (digits_value 10 (take i (bytes_in units))) cap
    → r ≡ min cap (10 * n + ((get_or units i no_octet).byte - 48)) → r ≡ min (digits_value 10 (take (i + 1) (bytes_in units))) cap
number_more units cap i n r h all before is =
    let b = (get_or units i no_octet).byte in
    let more : digits_value 10 (take (i + 1) (bytes_in units)) ≡ digits_value 10 (take i (bytes_in units)) * 10 + digit_value (get_or (bytes_in units) i 0) = digits_value_more 10 (bytes_in units) i (omega (arith, length-bytes_in units)) in
    let value : digit_value (get_or (bytes_in units) i 0) + 48 ≡ b = ap (λ x. digit_value x + 48) (byte_at units i h) ∙ digit_value_digit b (in_range b (digit_at units i h all)) in
    rw more (sum (digits_value 10 (take i (bytes_in units))) (digit_value (get_or (bytes_in units) i 0)) b n r value before is)
  where
    sum : (v d b n r : ℕ) → d + 48 ≡ b → n ≡ min v cap → r ≡ min cap (10 * n + (b - 48)) → r ≡ min (v * 10 + d) cap
    sum v d b n r value before is = omega arith
