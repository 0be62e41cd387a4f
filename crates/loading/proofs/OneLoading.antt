-- Files come to one thing.
use Rattle.std.proofs.Common.{◌≡◌, ◌≢◌, ℕ, Bool, List, [], ◌∷◌, length, Some, Ok, Err, Result}
use Rattle.std.proofs.Common.{IsTrue, IsFalse, ap, sym, ◌∙◌, arith, subst, refl}
use Rattle.std.specs.declared.option.Option.{Option}
use Rattle.std.specs.declared.cmp.Ordering.{Ordering}
use Rattle.std.specs.declared.cmp.Ordering.TheVariants.{Less, Equal, Greater}
use Rattle.std.specs.Ordering.{nat_cmp, ordering_reverse}
use Rattle.std.specs.Cmp.Lexicographic.{slice_cmp}
use Rattle.std.proofs.lemmas.Cmp.{nat_list_cmp_total}
use Rattle.std.proofs.lemmas.Map.Lookups.{exact_bytes}
use Rattle.dns_name.proofs.Printing.{names_differ}
use Rattle.dns_name.specs.Printed.{printed_name}
use Rattle.master_reader.specs.declared.fault.Kind.{Kind}
use Rattle.master_reader.specs.declared.record.Record.{Record}
use Rattle.master_reader.proofs.Once.{reads_once, faults_once, reads_not_faults}
use Rattle.zone_answers.specs.Zone.{Zone}
use Rattle.spfc_outer.specs.Seen.{Contents}
use Rattle.spfc_words.specs.declared.input.Input.{Input}
use Rattle.spfc_words.specs.declared.input.Place.{Place}
use Rattle.spfc_words.specs.declared.input.Place.TheVariants as place
use Rattle.loading.specs.declared.loaded.Loaded.{Loaded}
use Rattle.loading.specs.declared.refusal.Refusal.{Refusal}
use Rattle.loading.specs.declared.refusal.Refusal.TheVariants.{BadZone, AliasAndOther}
use Rattle.loading.specs.Loading.{FileDue, no_file, long_file, whole, ReadingDue, bad_zone, read}
use Rattle.loading.specs.Loading.{LendDue, too_many, clash, lent}
use Rattle.loading.specs.Loading.{Then, RecordsDue, ZonesDue, nothing, PlaceDue, InputsDue, Loads}

some_is : {x y : List ℕ} → Some x ≡ Some y → x ≡ y
some_is e = cc

same_held : (held : Option (List ℕ)) (a b : List ℕ) → held ≡ Some a → held ≡ Some b → a ≡ b
same_held held a b x y = some_is (sym x ∙ y)

-- ---- one file
one_file : (held : Option (List ℕ)) (file : List ℕ) (x y : Result (List ℕ) Refusal) → FileDue held file x
    → FileDue held file y → x ≡ y
one_file held file x y (no_file a e) (no_file b f) = e ∙ sym f
one_file held file x y (no_file a e) (long_file c b more f) = absurd cc
one_file held file x y (no_file a e) (whole c b few f) = absurd cc
one_file held file x y (long_file c a more e) (no_file b f) = absurd cc
one_file held file x y (long_file c a more e) (long_file d b more' f) = e ∙ sym f
one_file held file x y (long_file c a more e) (whole d b few f) =
    absurd (omega (arith, more, few, ap (λ (l : List ℕ). length l) (same_held held c d a b)))
one_file held file x y (whole c a few e) (no_file b f) = absurd cc
one_file held file x y (whole c a few e) (long_file d b more f) =
    absurd (omega (arith, more, few, ap (λ (l : List ℕ). length l) (same_held held c d a b)))
one_file held file x y (whole c a few e) (whole d b few' f) = e ∙ (ap Ok (same_held held c d a b) ∙ sym f)

same_bad : (file : List ℕ) (l m : ℕ) (k j : Kind) → (l ≡ m) × (k ≡ j) → BadZone file l k ≡ BadZone file m j
same_bad file l m k j same = cc

pub one_reading : (origin : List (List ℕ)) (file contents : List ℕ) (x y : Result (List Record) Refusal)
    → ReadingDue origin file contents x → ReadingDue origin file contents y → x ≡ y
one_reading origin file c x y (bad_zone l k bad e) (bad_zone m j bad' f) =
    e ∙ (ap Err (same_bad file l m k j (faults_once origin c l m k j bad bad')) ∙ sym f)
one_reading origin file c x y (bad_zone l k bad e) (read r reads f) = absurd (reads_not_faults origin c r l k reads bad)
one_reading origin file c x y (read r reads e) (bad_zone l k bad f) = absurd (reads_not_faults origin c r l k reads bad)
one_reading origin file c x y (read r reads e) (read s reads' f) =
    e ∙ (ap Ok (reads_once origin c r s reads reads') ∙ sym f)

-- ---- lending
-- texts of which none is above the other are equal
both_at_most : (xs ys : List ℕ) → slice_cmp nat_cmp xs ys ≢ Greater → slice_cmp nat_cmp ys xs ≢ Greater → xs ≡ ys
both_at_most xs ys a b = by (slice_cmp nat_cmp xs ys) refl
  where
    by : (o : Ordering) → slice_cmp nat_cmp xs ys ≡ o → xs ≡ ys
    by Less is = absurd (b (nat_list_cmp_total.antisymm ys xs ∙ ap ordering_reverse is))
    by Equal is = exact_bytes xs ys is
    by Greater is = absurd (a is)

no_clash : (b : Bool) → IsFalse b → IsTrue b → ⊥
no_clash b f t = cc

pub one_lend : (zones : List Zone) (origin : List (List ℕ)) (records : List Record) (x y : Result (List Zone) Refusal)
    → LendDue zones origin records x → LendDue zones origin records y → x ≡ y
one_lend zones origin records x y (too_many n a e) (too_many m b f) = e ∙ sym f
one_lend zones origin records x y (too_many n a e) (clash name legal b f) = absurd (omega (arith, a.1, a.2, b.1))
one_lend zones origin records x y (too_many n a e) (lent free f) = absurd (omega (arith, a.1, a.2, free.room))
one_lend zones origin records x y (clash name legal a e) (too_many n b f) = absurd (omega (arith, b.1, b.2, a.1))
one_lend zones origin records x y (clash name legal a e) (clash other legal' b f) =
    let same : printed_name name ≡ printed_name other = both_at_most (printed_name name) (printed_name other)
    (a.2.least other b.2.clashes) (b.2.least name a.2.clashes) in
    e ∙ (ap (λ n. Err (AliasAndOther origin n)) (names_differ name other legal legal' same) ∙ sym f)
one_lend zones origin records x y (clash name legal a e) (lent free f) =
    absurd (no_clash _ (free.no_clash name) a.2.clashes)
one_lend zones origin records x y (lent free e) (too_many n b f) = absurd (omega (arith, b.1, b.2, free.room))
one_lend zones origin records x y (lent free e) (clash name legal b f) =
    absurd (no_clash _ (free.no_clash name) b.2.clashes)
one_lend zones origin records x y (lent free e) (lent free' f) = e ∙ sym f

-- ---- steps
-- steps that come to one thing each come to one thing together
pub one_then : {A B : Type 0} (x y : Result A Refusal) (Next : A → Result B Refusal → Type 0) (a b : Result B Refusal)
    → x ≡ y → ((v : A) (c d : Result B Refusal) → Next v c → Next v d → c ≡ d) → Then x Next a → Then y Next b → a ≡ b
one_then {A = A} {B = B} x y Next a b same one p q = one_at x a b p (subst (λ z. Then z Next b) (sym same) q)
  where
    one_at : (x : Result A Refusal) (a b : Result B Refusal) → Then x Next a → Then x Next b → a ≡ b
    one_at (Ok v) a b p q = one v a b p q
    one_at (Err why) a b p q = p ∙ sym q

one_records : (held : Option (List ℕ)) (origin : List (List ℕ)) (file : List ℕ) (x y : Result (List Record) Refusal)
    → RecordsDue held origin file x → RecordsDue held origin file y → x ≡ y
one_records held origin file x y a b =
    one_then a.0 b.0 (ReadingDue origin file) x y (one_file held file a.0 b.0 a.1 b.1)
    (λ contents c d p q. one_reading origin file contents c d p q) a.2 b.2

one_zones : (held : Option (List ℕ)) (zones : List Zone) (origin : List (List ℕ)) (file : List ℕ)
    (x y : Result (List Zone) Refusal) → ZonesDue held zones origin file x → ZonesDue held zones origin file y → x ≡ y
one_zones held zones origin file x y a b =
    one_then a.0 b.0 (LendDue zones origin) x y (one_records held origin file a.0 b.0 a.1 b.1)
    (λ records c d p q. one_lend zones origin records c d p q) a.2 b.2

one_place : (at : Place) (held : Option (List ℕ)) (loaded : Loaded) (file : List ℕ) (x y : Result Loaded Refusal)
    → PlaceDue at held loaded file x → PlaceDue at held loaded file y → x ≡ y
one_place (place.Zone origin) held loaded file x y a b =
    one_then a.0 b.0 (λ all due. due ≡ Ok (record loaded { zones = all })) x y
    (one_zones held loaded.zones origin file a.0 b.0 a.1 b.1) (λ v c d p q. p ∙ sym q) a.2 b.2
one_place (place.Other origin) held loaded file x y a b =
    one_then a.0 b.0 (λ all due. due ≡ Ok (record loaded { others = all })) x y
    (one_zones held loaded.others origin file a.0 b.0 a.1 b.1) (λ v c d p q. p ∙ sym q) a.2 b.2
one_place place.File held loaded file x y a b =
    one_then a.0 b.0 (λ bytes due. due ≡ Ok (record loaded { file = bytes })) x y
    (one_file held file a.0 b.0 a.1 b.1) (λ v c d p q. p ∙ sym q) a.2 b.2

-- ---- files in order
one_of : (held : Contents) (inputs : List Input) (loaded : Loaded) (a b : Result Loaded Refusal)
    → InputsDue held loaded inputs a → InputsDue held loaded inputs b → a ≡ b
one_of held [] loaded a b x y = x ∙ sym y
one_of held (input ∷ inputs) loaded a b x y =
    one_then x.0 y.0 (λ more due. InputsDue held more inputs due) a b
    (one_place input.place (held input.file) loaded input.file x.0 y.0 x.1 y.1)
    (λ v c d p q. one_of held inputs v c d p q) x.2 y.2

pub one_loading : (held : Contents) (inputs : List Input) (a b : Result Loaded Refusal) → Loads held inputs a
    → Loads held inputs b → a ≡ b
one_loading held inputs a b x y = one_of held inputs nothing a b x y
