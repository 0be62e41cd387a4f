-- Records of a list at one name, where equal ones come once.
use Rattle.std.proofs.Common.{◌≡◌, Bool, true, false, not, cond, List, [], ◌∷◌, ◌++◌, map, filter, find, refl, sym, ap, ◌∙◌, None, Some}
use Rattle.std.specs.List.{list_any, AllByRecursion}
use Rattle.std.proofs.lemmas.Bool.{or_parts, or_from}
use Rattle.std.proofs.lemmas.List.Elements.{filter-append}
use Rattle.master_reader.specs.declared.record.Record.{Record}
use Rattle.zone_answers.specs.Same.{same_record, distinct_records}
use Rattle.zone_answers.proofs.Distinct.{record_same}

-- ---- what holds of all

pub all_weaker : {X : Type 0} (P Q : X → Type 0) (xs : List X) → ((x : X) → P x → Q x) → AllByRecursion P xs → AllByRecursion Q xs
all_weaker P Q [] f h = tt
all_weaker P Q (x ∷ xs) f h = (f x h.0, all_weaker P Q xs f h.1)

pub all_kept : {X : Type 0} (P Q : X → Type 0) (p : X → Bool) (xs : List X) → ((x : X) → p x ≡ true → P x → Q x) → AllByRecursion P xs → AllByRecursion Q (filter p xs)
all_kept P Q p [] f h = tt
all_kept P Q p (x ∷ xs) f h = by (p x) (f x) (all_kept P Q p xs f h.1)
  where
    by : (t : Bool) → (t ≡ true → P x → Q x) → AllByRecursion Q (filter p xs) → AllByRecursion Q (cond t (x ∷ filter p xs) (filter p xs))
    by true g rest = (g refl h.0, rest)
    by false g rest = rest

pub all_mapped : {X Y : Type 0} (P : Y → Type 0) (f : X → Y) (xs : List X) → AllByRecursion (λ x. P (f x)) xs → AllByRecursion P (map f xs)
all_mapped P f [] h = tt
all_mapped P f (x ∷ xs) h = (h.0, all_mapped P f xs h.1)

pub each_false : {X : Type 0} (p : X → Bool) (xs : List X) → list_any p xs ≡ false → AllByRecursion (λ x. p x ≡ false) xs
each_false p [] h = tt
each_false p (x ∷ xs) h = let parts = or_parts (p x) (list_any p xs) h in (parts.0, each_false p xs parts.1)

pub any_false : {X : Type 0} (p : X → Bool) (xs : List X) → AllByRecursion (λ x. p x ≡ false) xs → list_any p xs ≡ false
any_false p [] h = refl
any_false p (x ∷ xs) h = or_from (p x) (list_any p xs) h.0 (any_false p xs h.1)

pub none_kept : {X : Type 0} (p : X → Bool) (xs : List X) → AllByRecursion (λ x. p x ≡ false) xs → filter p xs ≡ []
none_kept p [] h = refl
none_kept p (x ∷ xs) h = ap (λ b. cond b (x ∷ filter p xs) (filter p xs)) h.0 ∙ none_kept p xs h.1

pub none_found : {X : Type 0} (p : X → Bool) (xs : List X) → AllByRecursion (λ x. p x ≡ false) xs → find p xs ≡ None
none_found p [] h = refl
none_found p (x ∷ xs) h = ap (λ b. cond b (Some x) (find p xs)) h.0 ∙ none_found p xs h.1

pub one_passes : {X : Type 0} (p : X → Bool) (xs ys : List X) (y : X) → filter p xs ≡ ys ++ y ∷ [] → list_any p xs ≡ true
one_passes {X = X} p xs ys y e = by (list_any p xs) refl
  where
    some : (zs : List X) → [] ≡ zs ++ y ∷ [] → ⊥
    some [] e = cc
    some (z ∷ zs) e = cc

    by : (t : Bool) → list_any p xs ≡ t → t ≡ true
    by true f = refl
    by false f = absurd (some ys (sym (none_kept p xs (each_false p xs f)) ∙ e))

-- ---- two filters

filter_cond : {X : Type 0} (p : X → Bool) (x : X) (xs : List X) (t : Bool) → filter p (cond t (x ∷ xs) xs) ≡ cond t (cond (p x) (x ∷ filter p xs) (filter p xs)) (filter p xs)
filter_cond p x xs true = refl
filter_cond p x xs false = refl

swapped : {X : Type 0} (x : X) (xs : List X) (s t : Bool) → cond t (cond s (x ∷ xs) xs) xs ≡ cond s (cond t (x ∷ xs) xs) xs
swapped x xs true true = refl
swapped x xs true false = refl
swapped x xs false true = refl
swapped x xs false false = refl

filters_swap : {X : Type 0} (p q : X → Bool) (xs : List X) → filter p (filter q xs) ≡ filter q (filter p xs)
filters_swap p q [] = refl
filters_swap p q (x ∷ xs) =
    filter_cond p x (filter q xs) (q x)
    ∙ ap (λ l. cond (q x) (cond (p x) (x ∷ l) l) l) (filters_swap p q xs)
    ∙ swapped x (filter q (filter p xs)) (p x) (q x)
    ∙ sym (filter_cond q x (filter p xs) (p x))

-- ---- equal records

abbrev others : Record → List Record → List Record
others r records = filter (λ s. not (same_record r s)) records

others_kept : (p : Record → Bool) (r : Record) (records : List Record) → p r ≡ false → filter p (others r records) ≡ filter p records
others_kept p r [] h = refl
others_kept p r (s ∷ records) h =
    filter_cond p s (others r records) (not (same_record r s))
    ∙ ap (λ l. cond (not (same_record r s)) (cond (p s) (s ∷ l) l) l) (others_kept p r records h)
    ∙ by (same_record r s) refl
  where
    by : (t : Bool) → same_record r s ≡ t → cond (not t) (cond (p s) (s ∷ filter p records) (filter p records)) (filter p records) ≡ cond (p s) (s ∷ filter p records) (filter p records)
    by false e = refl
    by true e = sym (ap (λ b. cond b (s ∷ filter p records) (filter p records)) (sym (ap p (record_same r s e)) ∙ h))

pub distinct_kept : (p : Record → Bool) (records : List Record) → filter p (distinct_records records) ≡ distinct_records (filter p records)
distinct_kept p [] = refl
distinct_kept p (r ∷ records) = by (p r) refl (distinct_kept p records)
  where
    by : (t : Bool) → p r ≡ t → filter p (distinct_records records) ≡ distinct_records (filter p records)
        → cond t (r ∷ filter p (others r (distinct_records records))) (filter p (others r (distinct_records records))) ≡ distinct_records (cond t (r ∷ filter p records) (filter p records))
    by true e rest = ap (λ l. r ∷ l) (filters_swap p (λ s. not (same_record r s)) (distinct_records records) ∙ ap (others r) rest)
    by false e rest = others_kept p r (distinct_records records) e ∙ rest

pub distinct_one : (records : List Record) (r : Record) → AllByRecursion (λ s. same_record s r ≡ false) records → distinct_records (records ++ r ∷ []) ≡ distinct_records records ++ r ∷ []
distinct_one [] r h = refl
distinct_one (s ∷ records) r h =
    ap (λ l. s ∷ l)
    (ap (others s) (distinct_one records r h.1)
    ∙ filter-append (λ x. not (same_record s x)) (distinct_records records) (r ∷ [])
    ∙ ap (λ b. others s (distinct_records records) ++ cond (not b) (r ∷ []) []) h.0)
