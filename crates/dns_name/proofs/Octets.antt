-- Octets below 256, and lower case.
use Rattle.std.proofs.Common.{◌≡◌, ℕ, suc, ◌+◌, ◌<◌, Bool, true, false, cond, List, [], ◌∷◌, ◌++◌, get_or, map, refl, ap₂, arith, nat_lt, ltb-true, Fits, w8}
use Rattle.std.proofs.lemmas.Str.Ascii.{lowercase-lowercase}
use Rattle.std.specs.List.{AllByRecursion}
use Rattle.std.specs.Char.{to_ascii_lowercase}
use Rattle.std.proofs.Math.Facts.{Fits-lt-pow}
use Rattle.dns_name.specs.Name.{lowercase_label}

-- what is known of a slice of bytes
pub octets_from_fits : (bytes : List ℕ) → ((i : ℕ) → Fits w8 (get_or bytes i 0)) → AllByRecursion (λ b. b < 256) bytes
octets_from_fits [] h = tt
octets_from_fits (b ∷ bytes) h = (Fits-lt-pow (h 0), octets_from_fits bytes (λ i. h (suc i)))

lowercase-small : (b : ℕ) → b < 256 → to_ascii_lowercase b < 256
lowercase-small b h = by (nat_lt b 65) (nat_lt b 91) refl
  where
    by : (s t : Bool) → nat_lt b 91 ≡ t → cond s b (cond t (b + 32) b) < 256
    by true t e = h
    by false false e = h
    by false true e = let l : b < 91 = ltb-true b 91 e in omega arith

pub lowercase_octets : (label : List ℕ) → AllByRecursion (λ b. b < 256) label → AllByRecursion (λ b. b < 256) (lowercase_label label)
lowercase_octets [] h = tt
lowercase_octets (b ∷ label) h = (lowercase-small b h.0, lowercase_octets label h.1)

pub lowercase_twice : (label : List ℕ) → lowercase_label (lowercase_label label) ≡ lowercase_label label
lowercase_twice [] = refl
lowercase_twice (b ∷ label) = ap₂ (λ (x : ℕ) (l : List ℕ). x ∷ l) (lowercase-lowercase b) (lowercase_twice label)

pub all_append : {A : Type 0} (P : A → Type 0) (xs ys : List A) → AllByRecursion P xs → AllByRecursion P ys → AllByRecursion P (xs ++ ys)
all_append P [] ys h k = k
all_append P (x ∷ xs) ys h k = (h.0, all_append P xs ys h.1 k)

pub all_front : {A : Type 0} (P : A → Type 0) (xs ys : List A) → AllByRecursion P (xs ++ ys) → AllByRecursion P xs
all_front P [] ys h = tt
all_front P (x ∷ xs) ys h = (h.0, all_front P xs ys h.1)

pub all_back : {A : Type 0} (P : A → Type 0) (xs ys : List A) → AllByRecursion P (xs ++ ys) → AllByRecursion P ys
all_back P [] ys h = h
all_back P (x ∷ xs) ys h = all_back P xs ys h.1

pub lower_back : (front back : List ℕ) → map to_ascii_lowercase (front ++ back) ≡ front ++ back → map to_ascii_lowercase back ≡ back
lower_back [] back h = h
lower_back (b ∷ front) back h = let rest : map to_ascii_lowercase (front ++ back) ≡ front ++ back = cc in lower_back front back rest
