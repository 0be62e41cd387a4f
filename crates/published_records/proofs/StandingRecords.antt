-- The records of a chain: one stands at each of their names.
use Rattle.std.proofs.Common.{◌≡◌, ℕ, ◌+◌, ◌<◌, ◌≤◌, ◌==◌, Bool, true, false, cond, List, [], ◌∷◌, ◌++◌, length, filter, refl, sym, ap, ap₂, ◌∙◌, arith, append_assoc, eqb-true}
use Rattle.std.specs.Prelude.{decimal}
use Rattle.std.specs.List.{AllByRecursion}
use Rattle.std.proofs.lemmas.Bool.{false_from_ne_true}
use Rattle.std.proofs.lemmas.Fmt.{decimal_injective}
use Rattle.std.proofs.lemmas.List.{append_cancel_left}
use Rattle.std.proofs.lemmas.List.Elements.{filter-append}
use Rattle.dns_name.proofs.Octets.{all_append}
use Rattle.master_reader.specs.declared.record.Record.{Record}
use Rattle.zone_answers.specs.Same.{same_name}
use Rattle.zone_answers.proofs.Nodes.{same_true, same_self}
use Rattle.spf_grammar.specs.declared.flat.FlatTerm.{FlatTerm}
use Rattle.spf_model.specs.Run.{Answering}
use Rattle.record_pack.specs.Records.{record_text}
use Rattle.zone_writer.specs.Fragment.{is_none}
use Rattle.zone_writer.specs.Written.{record_owner, written_records}
use Rattle.published_records.specs.Chain.{Holds, HoldRecords}
use Rattle.published_records.proofs.StandingFound.{cuts, txt_record}
use Rattle.published_records.proofs.StandingLists.{all_weaker, none_kept}

-- ---- owners

pub owner_first : (name : List (List ℕ)) (label : List ℕ) (k : ℕ) → (k == 0) ≡ true → record_owner name label k ≡ name
owner_first name label k e = ap (λ b. cond b name ((label ++ decimal k) ∷ name)) e

pub owner_later : (name : List (List ℕ)) (label : List ℕ) (k : ℕ) → (k == 0) ≡ false → record_owner name label k ≡ (label ++ decimal k) ∷ name
owner_later name label k e = ap (λ b. cond b name ((label ++ decimal k) ∷ name)) e

pub longer : (name : List (List ℕ)) (front : List ℕ) → name ≡ front ∷ name → ⊥
longer name front e = absurd (omega (arith, ap length e))

label_same : (label : List ℕ) (i j : ℕ) (name : List (List ℕ)) → i ≤ 11 → j ≤ 11 → (label ++ decimal i) ∷ name ≡ (label ++ decimal j) ∷ name → i ≡ j
label_same label i j name few_i few_j e =
    decimal_injective i j (omega (arith, few_i)) (omega (arith, few_j)) (append_cancel_left label (decimal i) (decimal j) (heads e))
  where
    heads : {a b : List ℕ} {x y : List (List ℕ)} → a ∷ x ≡ b ∷ y → a ≡ b
    heads e = cc

owner_same : (name : List (List ℕ)) (label : List ℕ) (i j : ℕ) → i ≤ 11 → j ≤ 11 → record_owner name label i ≡ record_owner name label j → i ≡ j
owner_same name label i j few_i few_j e = by (i == 0) (j == 0) refl refl
  where
    by : (s t : Bool) → (i == 0) ≡ s → (j == 0) ≡ t → i ≡ j
    by true true f g = let a = eqb-true i 0 f in let b = eqb-true j 0 g in omega arith
    by true false f g = absurd (longer name (label ++ decimal j) (sym (owner_first name label i f) ∙ e ∙ owner_later name label j g))
    by false true f g = absurd (longer name (label ++ decimal i) (sym (owner_first name label j g) ∙ sym e ∙ owner_later name label i f))
    by false false f g = label_same label i j name few_i few_j (sym (owner_later name label i f) ∙ e ∙ owner_later name label j g)

-- the owner is that of a record between these numbers
abbrev pub IsBetween : (name : List (List ℕ)) → (label : List ℕ) → (low high : ℕ) → Record → Type 0
IsBetween name label low high r = (i : ℕ) × (low ≤ i) × (i < high) × (r.owner ≡ record_owner name label i)

apart : (name : List (List ℕ)) (label : List ℕ) (low high k : ℕ) (r : Record) → high ≤ 11 → k ≤ 11 → (low ≤ k → k < high → ⊥) → IsBetween name label low high r
    → same_name r.owner (record_owner name label k) ≡ false
apart name label low high k r few_high few_k none (i, above, below, own) =
    false_from_ne_true _ (λ (same : same_name r.owner (record_owner name label k) ≡ true).
    let e : i ≡ k = owner_same name label i k (omega arith) few_k (sym own ∙ same_true r.owner (record_owner name label k) same) in
    none (omega (arith, e)) (omega (arith, e)))

pub none_between : (name : List (List ℕ)) (label : List ℕ) (low high k : ℕ) (records : List Record) → high ≤ 11 → k ≤ 11 → (low ≤ k → k < high → ⊥)
    → AllByRecursion (IsBetween name label low high) records → filter (λ r. same_name r.owner (record_owner name label k)) records ≡ []
none_between name label low high k records few_high few_k none h =
    none_kept (λ r. same_name r.owner (record_owner name label k)) records
    (all_weaker (IsBetween name label low high) (λ r. same_name r.owner (record_owner name label k) ≡ false) records (λ r. apart name label low high k r few_high few_k none) h)

written_between : (domain label : List ℕ) (name : List (List ℕ)) (k high : ℕ) (lists : List (List FlatTerm)) → k + length lists ≤ high
    → AllByRecursion (IsBetween name label k high) (written_records domain label name k lists)
written_between domain label name k high [] h = tt
written_between domain label name k high (terms ∷ lists) h = (
  (k, omega arith, omega (arith, h), refl),
  all_weaker (IsBetween name label (k + 1) high) (IsBetween name label k high) (written_records domain label name (k + 1) lists) (λ r b. (b.0, omega (arith, b.1), b.2, b.3))
      (written_between domain label name (k + 1) high lists (omega (arith, h))),
)

-- ---- one record at each name

-- the record with this number, as all of them have it
abbrev pub nth_record : (domain label : List ℕ) → (name : List (List ℕ)) → (k : ℕ) → (terms : List FlatTerm) → (lists : List (List FlatTerm)) → Record
nth_record domain label name k terms lists = txt_record (record_owner name label k) (record_text domain label terms k (is_none lists))

only_one : (domain label : List ℕ) (name : List (List ℕ)) (k : ℕ) (front : List Record) (terms : List FlatTerm) (lists : List (List FlatTerm)) → k + length (terms ∷ lists) ≤ 11
    → AllByRecursion (IsBetween name label 0 k) front
    → filter (λ r. same_name r.owner (record_owner name label k)) (front ++ written_records domain label name k (terms ∷ lists)) ≡ nth_record domain label name k terms lists ∷ []
only_one domain label name k front terms lists few h =
    let here : Record → Bool = λ (r : Record). same_name r.owner (record_owner name label k) in
    let behind : List Record = written_records domain label name (k + 1) lists in
    let own : Record = nth_record domain label name k terms lists in
    filter-append here front (own ∷ behind)
    ∙ ap₂ (λ (xs : List Record) (b : Bool). xs ++ cond b (own ∷ filter here behind) (filter here behind))
    (none_between name label 0 k k front (omega (arith, few)) (omega (arith, few)) (λ low high. absurd (omega arith)) h)
    (same_self (record_owner name label k) (record_owner name label k) refl)
    ∙ ap (λ xs. own ∷ xs)
    (none_between name label (k + 1) 11 k behind (omega arith) (omega (arith, few)) (λ low high. absurd (omega arith)) (written_between domain label name (k + 1) 11 lists (omega (arith, few))))

-- what is said of a record of the whole list at its name
abbrev pub HoldAt : Answering → (domain label : List ℕ) → (name : List (List ℕ)) → (count : ℕ) → (all : List Record) → Type 0
HoldAt zones domain label name count all =
    (k : ℕ) (terms : List FlatTerm) (lists : List (List FlatTerm)) → k < count
    → filter (λ r. same_name r.owner (record_owner name label k)) all ≡ nth_record domain label name k terms lists ∷ []
    → Holds zones (record_owner name label k) (record_text domain label terms k (is_none lists))

hold_behind : (zones : Answering) (domain label : List ℕ) (name : List (List ℕ)) (count : ℕ) (all front : List Record) (k : ℕ) (lists : List (List FlatTerm)) → count ≤ 11
    → k + length lists ≤ count → all ≡ front ++ written_records domain label name k lists → AllByRecursion (IsBetween name label 0 k) front
    → HoldAt zones domain label name count all → HoldRecords zones domain label name k lists
hold_behind zones domain label name count all front k [] few fits whole h at = tt
hold_behind zones domain label name count all front k (terms ∷ lists) few fits whole h at = (
  at k terms lists (omega (arith, fits))
      (ap (filter (λ r. same_name r.owner (record_owner name label k))) whole ∙ only_one domain label name k front terms lists (omega (arith, fits, few)) h),
  hold_behind zones domain label name count all (front ++ own ∷ []) (k + 1) lists few (omega (arith, fits)) (whole ∙ sym (append_assoc front (own ∷ []) behind))
      (all_append (IsBetween name label 0 (k + 1)) front (own ∷ [])
      (all_weaker (IsBetween name label 0 k) (IsBetween name label 0 (k + 1)) front (λ r b. (b.0, b.1, omega (arith, b.2), b.3)) h)
      ((k, omega arith, omega arith, refl), tt)) at,
)
  where
    own : Record
    own = nth_record domain label name k terms lists

    behind : List Record
    behind = written_records domain label name (k + 1) lists

pub hold_all : (zones : Answering) (domain label : List ℕ) (name : List (List ℕ)) (lists : List (List FlatTerm)) → length lists ≤ 11
    → HoldAt zones domain label name (length lists) (written_records domain label name 0 lists) → HoldRecords zones domain label name 0 lists
hold_all zones domain label name lists few at =
    hold_behind zones domain label name (length lists) (written_records domain label name 0 lists) [] 0 lists few (omega arith) refl tt at

-- ---- none of them delegates

pub written_uncut : (domain label : List ℕ) (name origin below : List (List ℕ)) (k : ℕ) (lists : List (List FlatTerm))
    → AllByRecursion (λ r. cuts origin below r ≡ false) (written_records domain label name k lists)
written_uncut domain label name origin below k [] = tt
written_uncut domain label name origin below k (terms ∷ lists) = (refl, written_uncut domain label name origin below (k + 1) lists)
