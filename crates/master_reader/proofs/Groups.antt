-- The groups of a TTL, one by one.
use Rattle.std.proofs.Common.{◌≡◌, ℕ, suc, zero, ◌+◌, ◌-◌, ◌*◌, ◌<◌, ◌≤◌, ◌^◌, min, Bool, true, false, cond, not, ◌&&◌, ◌||◌, List, [], ◌∷◌, ◌++◌, length, take, drop, get_or, refl, sym, ap, ap₂, ◌∙◌, arith, nat_lt, Some, None, take-append-drop, add-zero, zero-add, length-drop, ltb-true, add_assoc}
use Rattle.std.specs.Prelude.{sum_by, nat_le}
use Rattle.std.specs.List.{list_any, list_all, onto_first, position, position_or_len, prefix_len}
use Rattle.std.specs.Str.Parse.{digits_value}
use Rattle.std.proofs.Math.Seq.{take_all}
use Rattle.std.proofs.lemmas.Bool.{ltb-false, le-leb, leb-true, false_from_ne_true}
use Rattle.std.proofs.lemmas.List.{get_or-drop, get_or-take, length-take}
use Rattle.std.proofs.lemmas.List.Quantifiers.{position-Some}
use Rattle.std.proofs.lemmas.List.Folds.{list_any_none}
use Rattle.std.proofs.Math.Nat.{le-mul_of_pos_right}
use Rattle.std.proofs.lemmas.List.{map-append}
use Rattle.std.proofs.lemmas.List.Sums.{sum_by-cons}
use Rattle.dns_name.specs.Parts.{without_final}
use Rattle.dns_name.proofs.Splits.{without_final_yes}
use Rattle.master_lex.specs.declared.entry.Octet.{Octet}
use Rattle.master_reader.specs.Tokens.{bytes_in, are_digits}
use Rattle.master_reader.specs.Ttl.{seconds_in, is_unit, groups_in, unit_of, is_group, seconds_of, are_groups}
use Rattle.master_reader.proofs.Spelling.{no_octet, length-bytes_in}

-- a group is cut behind the first unit letter
first_group : (front : List ℕ) (u : ℕ) (behind : List ℕ) → list_any is_unit front ≡ false → is_unit u ≡ true → groups_in (front ++ u ∷ behind) ≡ (front ++ u ∷ []) ∷ groups_in behind
first_group [] u behind none unit = ap (λ t. cond t ((u ∷ []) ∷ groups_in behind) (onto_first u (groups_in behind))) unit
first_group (b ∷ front) u behind none unit = by (is_unit b) (list_any is_unit front) refl refl none (first_group front u behind)
  where
    by : (s t : Bool) → is_unit b ≡ s → list_any is_unit front ≡ t → (s || t) ≡ false
        → (list_any is_unit front ≡ false → is_unit u ≡ true → groups_in (front ++ u ∷ behind) ≡ (front ++ u ∷ []) ∷ groups_in behind)
        → groups_in (b ∷ (front ++ u ∷ behind)) ≡ (b ∷ (front ++ u ∷ [])) ∷ groups_in behind
    by true t is k h rest = absurd cc
    by false true is k h rest = absurd cc
    by false false is k h rest =
        ap (λ s. cond s ((b ∷ []) ∷ groups_in (front ++ u ∷ behind)) (onto_first b (groups_in (front ++ u ∷ behind)))) is ∙ ap (onto_first b) (rest k unit)

last_unit : (front : List ℕ) (u : ℕ) → unit_of (front ++ u ∷ []) ≡ seconds_in u
last_unit [] u = refl
last_unit (b ∷ []) u = refl
last_unit (b ∷ c ∷ front) u = last_unit (c ∷ front) u

group_is : (front : List ℕ) (u : ℕ) → is_unit u ≡ true → is_group (front ++ u ∷ []) ≡ are_digits front
group_is front u unit =
    ap₂ (λ n (l : List ℕ). nat_lt 0 n && are_digits l) (last_unit front u) (without_final_yes is_unit front u unit) ∙ ap (λ t. t && are_digits front) unit

seconds_is : (front : List ℕ) (u : ℕ) → is_unit u ≡ true → seconds_of (front ++ u ∷ []) ≡ digits_value 10 front * seconds_in u
seconds_is front u unit = ap₂ (λ (l : List ℕ) n. digits_value 10 l * n) (without_final_yes is_unit front u unit) (last_unit front u)

-- bytes without a unit letter are no group
no_unit : (bytes : List ℕ) → list_any is_unit bytes ≡ false → nat_lt 0 (unit_of bytes) ≡ false
no_unit [] h = refl
no_unit (b ∷ []) h = by (is_unit b) h
  where
    by : (s : Bool) → (s || false) ≡ false → s ≡ false
    by true h = h
    by false h = h
no_unit (b ∷ c ∷ bytes) h = no_unit (c ∷ bytes) (by (is_unit b) (list_any is_unit (c ∷ bytes)) h)
  where
    by : (s t : Bool) → (s || t) ≡ false → t ≡ false
    by true t h = absurd cc
    by false t h = h

one_group : (b : ℕ) (bytes : List ℕ) → list_any is_unit (b ∷ bytes) ≡ false → groups_in (b ∷ bytes) ≡ (b ∷ bytes) ∷ []
one_group b [] h = by (is_unit b)
  where
    by : (s : Bool) → cond s ((b ∷ []) ∷ []) (onto_first b []) ≡ (b ∷ []) ∷ []
    by true = refl
    by false = refl
one_group b (c ∷ bytes) h = by (is_unit b) (list_any is_unit (c ∷ bytes)) refl refl h (one_group c bytes)
  where
    by : (s t : Bool) → is_unit b ≡ s → list_any is_unit (c ∷ bytes) ≡ t → (s || t) ≡ false → (list_any is_unit (c ∷ bytes) ≡ false → groups_in (c ∷ bytes) ≡ (c ∷ bytes) ∷ []) → groups_in (b ∷ c ∷ bytes) ≡ (b ∷ c ∷ bytes) ∷ []
    by true t is k h rest = absurd cc
    by false true is k h rest = absurd cc
    by false false is k h rest = ap (λ s. cond s ((b ∷ []) ∷ groups_in (c ∷ bytes)) (onto_first b (groups_in (c ∷ bytes)))) is ∙ ap (onto_first b) (rest k)

pub no_groups : (bytes : List ℕ) → 0 < length bytes → list_any is_unit bytes ≡ false → list_all is_group (groups_in bytes) ≡ false
no_groups [] some h = absurd (omega arith)
no_groups (b ∷ bytes) some h =
    ap (list_all is_group) (one_group b bytes h) ∙ ap (λ t. (t && are_digits (without_final is_unit (b ∷ bytes))) && true) (no_unit (b ∷ bytes) h)

-- ---- the octets of a group

any_unit : (units : List Octet) → list_any is_unit (bytes_in units) ≡ list_any (λ (o : Octet). is_unit o.byte) units
any_unit [] = refl
any_unit (o ∷ units) = ap (λ t. is_unit o.byte || t) (any_unit units)

none_before : (test : Octet → Bool) (n : ℕ) (xs : List Octet) → n ≤ prefix_len (λ x. not (test x)) xs → list_any test (take n xs) ≡ false
none_before test zero xs h = refl
none_before test (suc n) [] h = refl
none_before test (suc n) (x ∷ xs) h = by (test x) refl h (none_before test n xs)
  where
    by : (t : Bool) → test x ≡ t → suc n ≤ cond (not t) (1 + prefix_len (λ x. not (test x)) xs) 0 → (n ≤ prefix_len (λ x. not (test x)) xs → list_any test (take n xs) ≡ false) → (test x || list_any test (take n xs)) ≡ false
    by true is h rest = absurd (omega arith)
    by false is h rest = ap (λ t. t || list_any test (take n xs)) is ∙ rest (omega arith)

none_of_position : (test : Octet → Bool) (xs : List Octet) → position test xs ≡ None → length xs ≤ position_or_len test xs
none_of_position test xs h = by (nat_lt (position_or_len test xs) (length xs)) refl h
  where
    by : (t : Bool) → nat_lt (position_or_len test xs) (length xs) ≡ t → cond t (Some (position_or_len test xs)) None ≡ None → length xs ≤ position_or_len test xs
    by true is h = absurd cc
    by false is h = ltb-false (position_or_len test xs) (length xs) is

-- octets without a unit letter are no groups
pub groups_fail : (units rest : List Octet) → list_all is_group (groups_in (bytes_in units)) ≡ list_all is_group (groups_in (bytes_in rest)) → 0 < length rest → position (λ (o : Octet). is_unit o.byte) rest ≡ None
    → false ≡ are_groups (bytes_in units)
groups_fail units rest same some none =
    sym (ap (λ t. (nat_lt 0 (length (bytes_in units)) && t) && nat_le (sum_by seconds_of (groups_in (bytes_in units))) 4294967295) (same ∙ no_groups (bytes_in rest) (omega (arith, length-bytes_in rest)) (any_unit rest ∙ whole))
    ∙ never (nat_lt 0 (length (bytes_in units))) (nat_le (sum_by seconds_of (groups_in (bytes_in units))) 4294967295))
  where
    long : length rest ≤ prefix_len (λ (o : Octet). not (is_unit o.byte)) rest
    long = none_of_position (λ (o : Octet). is_unit o.byte) rest none

    whole : list_any (λ (o : Octet). is_unit o.byte) rest ≡ false
    whole = ap (list_any (λ (o : Octet). is_unit o.byte)) (sym (take_all (length rest) rest (omega arith))) ∙ none_before (λ (o : Octet). is_unit o.byte) (length rest) rest long

    never : (a b : Bool) → ((a && false) && b) ≡ false
    never true b = refl
    never false b = refl

-- octets that are no group in front
pub group_fails : (units : List Octet) (group : List ℕ) (groups : List (List ℕ)) → list_all is_group (groups_in (bytes_in units)) ≡ list_all is_group (group ∷ groups) → is_group group ≡ false → false ≡ are_groups (bytes_in units)
group_fails units group groups same none =
    sym (ap (λ t. (nat_lt 0 (length (bytes_in units)) && t) && nat_le (sum_by seconds_of (groups_in (bytes_in units))) 4294967295) (same ∙ ap (λ t. t && list_all is_group groups) none)
    ∙ never (nat_lt 0 (length (bytes_in units))) (nat_le (sum_by seconds_of (groups_in (bytes_in units))) 4294967295))
  where
    never : (a b : Bool) → ((a && false) && b) ≡ false
    never true b = refl
    never false b = refl

-- the first group, and what is behind it
pub record FirstGroup (rest digits behind : List Octet) : Type 0 where
  pub cut : groups_in (bytes_in rest) ≡ (bytes_in digits ++ (get_or behind 0 no_octet).byte ∷ []) ∷ groups_in (bytes_in (take (length behind - 1) (drop 1 behind)))
  pub group : is_group (bytes_in digits ++ (get_or behind 0 no_octet).byte ∷ []) ≡ are_digits (bytes_in digits)
  pub seconds : seconds_of (bytes_in digits ++ (get_or behind 0 no_octet).byte ∷ []) ≡ digits_value 10 (bytes_in digits) * seconds_in (get_or behind 0 no_octet).byte
  pub unit : 0 < seconds_in (get_or behind 0 no_octet).byte

split_one : (behind : List Octet) → 0 < length behind → behind ≡ get_or behind 0 no_octet ∷ take (length behind - 1) (drop 1 behind)
split_one [] h = absurd (omega arith)
split_one (o ∷ behind) h = ap (λ (l : List Octet). o ∷ l) (sym (take_all (length (o ∷ behind) - 1) behind (omega arith)))

pub first_group_is : (rest digits behind : List Octet) (i : ℕ) → position (λ (o : Octet). is_unit o.byte) rest ≡ Some i → digits ≡ take i rest → behind ≡ drop i rest → FirstGroup rest digits behind
first_group_is rest digits behind i at front back =
    let found = position-Some (λ (o : Octet). is_unit o.byte) rest i no_octet at in
    by found.0 found.1 found.2
  where
    by : i < length rest → is_unit (get_or rest i no_octet).byte ≡ true → ((k : ℕ) → k < i → is_unit (get_or rest k no_octet).byte ≡ false) → FirstGroup rest digits behind
    by within hit before =
        let unit : is_unit (get_or behind 0 no_octet).byte ≡ true = ap (λ (l : List Octet). is_unit (get_or l 0 no_octet).byte) back ∙ ap (λ (o : Octet). is_unit o.byte) (get_or-drop i rest 0 no_octet) ∙ ap (λ n. is_unit (get_or rest n no_octet).byte) (add-zero i) ∙ hit in
        let none : list_any is_unit (bytes_in digits) ≡ false = ap (λ l. list_any is_unit (bytes_in l)) front ∙ any_unit (take i rest) ∙ list_any_none (λ (o : Octet). is_unit o.byte) (take i rest) (λ k d l. let few : k < i = omega (arith, length-take i rest) in ap (λ (o : Octet). is_unit o.byte) (get_or-take i rest k d few) ∙ (position-Some (λ (o : Octet). is_unit o.byte) rest i d at).2 k few) in
        let whole : rest ≡ digits ++ get_or behind 0 no_octet ∷ take (length behind - 1) (drop 1 behind) =
        sym (take-append-drop i rest) ∙ ap₂ (λ (a b : List Octet). a ++ b) (sym front) (sym back ∙ split_one behind (omega (arith, ap length back, length-drop i rest))) in
        record {
          cut = ap (λ l. groups_in (bytes_in l)) whole ∙ ap groups_in (map-append (λ (o : Octet). o.byte) digits (get_or behind 0 no_octet ∷ take (length behind - 1) (drop 1 behind))) ∙ first_group (bytes_in digits) (get_or behind 0 no_octet).byte (bytes_in (take (length behind - 1) (drop 1 behind))) none unit;
          group = group_is (bytes_in digits) (get_or behind 0 no_octet).byte unit;
          seconds = seconds_is (bytes_in digits) (get_or behind 0 no_octet).byte unit;
          unit = ltb-true 0 (seconds_in (get_or behind 0 no_octet).byte) unit;
        }

-- ---- the sum

-- a held sum with one product more
held_more : (total value sec n s : ℕ) → 0 < sec → n ≡ min value (2 ^ 32) → s ≡ min total (2 ^ 32) → min (2 ^ 32) (s + n * sec) ≡ min (total + value * sec) (2 ^ 32)
held_more total value sec n s some number sum = by (value - 2 ^ 32) refl
  where
    by : (k : ℕ) → value - 2 ^ 32 ≡ k → min (2 ^ 32) (s + n * sec) ≡ min (total + value * sec) (2 ^ 32)
    by zero e = let same : n ≡ value = omega (arith, number, e) in rw same (omega (arith, sum))
    by (suc k) e =
        let held : n ≡ 2 ^ 32 = omega (arith, number, e) in
        let a : 2 ^ 32 ≤ n * sec = omega (arith, held, le-mul_of_pos_right n some) in
        let b : 2 ^ 32 ≤ value * sec = omega (arith, e, le-mul_of_pos_right value some) in
        omega (arith, a, b)

pub record Summed (units rest : List Octet) (seconds : ℕ) : Type 0 where
  pub total : ℕ
  pub held : seconds ≡ min total (2 ^ 32)
  pub groups : list_all is_group (groups_in (bytes_in units)) ≡ list_all is_group (groups_in (bytes_in rest))
  pub sum : sum_by seconds_of (groups_in (bytes_in units)) ≡ total + sum_by seconds_of (groups_in (bytes_in rest))

pub summed_more : (units rest digits behind : List Octet) (i seconds number more : ℕ) → Summed units rest seconds → FirstGroup rest digits behind → are_digits (bytes_in digits) ≡ true → number ≡ min (digits_value 10 (bytes_in digits)) (2 ^ 32)
    → more ≡ min (2 ^ 32) (seconds + number * seconds_in (get_or behind 0 no_octet).byte) → Summed units (take (length behind - 1) (drop 1 behind)) more
summed_more units rest digits behind i seconds number more s f all is sum = record {
  total = s.total + digits_value 10 (bytes_in digits) * seconds_in (get_or behind 0 no_octet).byte;
  held = sum ∙ held_more s.total (digits_value 10 (bytes_in digits)) (seconds_in (get_or behind 0 no_octet).byte) number seconds f.unit is s.held;
  groups = s.groups ∙ ap (list_all is_group) f.cut ∙ ap (λ t. t && list_all is_group (groups_in (bytes_in (take (length behind - 1) (drop 1 behind))))) (f.group ∙ all);
  sum = s.sum ∙ ap (λ (l : List (List ℕ)). s.total + sum_by seconds_of l) f.cut
      ∙ ap (λ n. s.total + n) (sum_by-cons seconds_of (bytes_in digits ++ (get_or behind 0 no_octet).byte ∷ []) (groups_in (bytes_in (take (length behind - 1) (drop 1 behind)))) ∙ ap (λ n. n + sum_by seconds_of (groups_in (bytes_in (take (length behind - 1) (drop 1 behind))))) f.seconds)
      ∙ sym (add_assoc s.total (digits_value 10 (bytes_in digits) * seconds_in (get_or behind 0 no_octet).byte) (sum_by seconds_of (groups_in (bytes_in (take (length behind - 1) (drop 1 behind))))));
}

pub summed_first : (units : List Octet) → Summed units units 0
summed_first units = record { total = 0; held = refl; groups = refl; sum = sym (zero-add (sum_by seconds_of (groups_in (bytes_in units)))) }

few : (s n : ℕ) → s ≡ min n (2 ^ 32) → nat_lt s (2 ^ 32) ≡ nat_le n 4294967295
few s n e = by (nat_lt s (2 ^ 32)) refl
  where
    by : (t : Bool) → nat_lt s (2 ^ 32) ≡ t → t ≡ nat_le n 4294967295
    by true is = sym (le-leb n 4294967295 (omega (arith, e, ltb-true s (2 ^ 32) is)))
    by false is = sym (false_from_ne_true (nat_le n 4294967295) (λ h. omega (arith, e, ltb-false s (2 ^ 32) is, leb-true n 4294967295 h)))
