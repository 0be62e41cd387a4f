-- Names of the labels of a token.
use Rattle.std.proofs.Common.{subst, ◌≡◌, ◌≢◌, ℕ, ◌<◌, Bool, true, false, cond, Ok, Err, List, [], ◌∷◌, ◌++◌, length}
use Rattle.std.proofs.Common.{map, Option, Some, None, Result, refl, sym, ap, ap₂, ◌∙◌, arith, append_assoc}
use Rattle.std.proofs.Common.{length-append, nat_lt, le-ltb, ltb-true, lt-ltb, ne_eqb}
use Rattle.std.proofs.lemmas.List.{length-map, map-append}
use Rattle.dns_name.specs.declared.fault.NameFault.{NameFault}
use Rattle.dns_name.specs.declared.fault.NameFault.TheVariants.{EmptyLabel, LabelLong, NameLong}
use Rattle.dns_name.specs.Wire.{wire_form}
use Rattle.dns_name.specs.Name.{IsLabel, IsName, lowercase_label, label_fault, extended_of, joined_of, fault_or}
use Rattle.dns_name.specs.Name.{first_fault, earlier_fault, name_of_labels}
use Rattle.dns_name.specs.Parts.{ends_so}
use Rattle.dns_name.proofs.Joins.{joined_len}
use Rattle.dns_name.proofs.Names.{back_name, no_fault_from_label}
use Rattle.dns_name.proofs.Wire.{length-wire_form}
use Rattle.std.specs.List.{AllByRecursion}
use Rattle.master_reader.specs.declared.fault.Kind.TheVariants.{BadName}
use Rattle.master_reader.specs.Tokens.{or_bad_name}

pub ends_so-last : {A : Type 0} (test : A → Bool) (xs : List A) (x : A) → ends_so test (xs ++ x ∷ []) ≡ test x
ends_so-last test [] x = refl
ends_so-last test (y ∷ []) x = refl
ends_so-last test (y ∷ z ∷ xs) x = ends_so-last test (z ∷ xs) x

-- ---- labels that are no name

-- a fault among the labels is BadName
fault_is_bad : (fault : Option NameFault) (r : Result (List (List ℕ)) NameFault) → fault ≢ None → Err BadName ≡ or_bad_name (fault_or fault r)
fault_is_bad None r h = absurd (h refl)
fault_is_bad (Some f) r h = refl

length_is_bad : (fault : Option NameFault) (name : List (List ℕ)) → Err BadName ≡ or_bad_name (fault_or fault (Err NameLong))
length_is_bad None name = refl
length_is_bad (Some f) name = refl

some_fault : (front : List (List ℕ)) (label : List ℕ) (behind : List (List ℕ)) (fault : NameFault) → label_fault label ≡ Some fault → first_fault (front ++ label ∷ behind) ≢ None
some_fault [] label behind fault h e = let own : earlier_fault (Some fault) (first_fault behind) ≡ None = sym (ap (λ f. earlier_fault f (first_fault behind)) h) ∙ e in absurd cc
some_fault (first ∷ front) label behind fault h e = some_behind (label_fault first) (first_fault (front ++ label ∷ behind)) (some_fault front label behind fault h) e
  where
    some_behind : (f g : Option NameFault) → g ≢ None → earlier_fault f g ≡ None → ⊥
    some_behind None g h k = h k
    some_behind (Some f) g h k = absurd cc

length-lower : (labels base : List (List ℕ)) → length (wire_form (map lowercase_label labels ++ base)) ≡ length (wire_form (labels ++ base))
length-lower [] base = refl
length-lower (label ∷ labels) base =
    let same : length (lowercase_label label) ≡ length label = simp length-map in
    omega (arith, same, length-lower labels base, length-append label (wire_form (labels ++ base)), length-append (lowercase_label label) (wire_form (map lowercase_label labels ++ base)))

-- a label that is none
no_label : (front : List (List ℕ)) (label : List ℕ) (behind : List (List ℕ)) (fault : NameFault)
    → label_fault label ≡ Some fault → Err BadName ≡ or_bad_name (name_of_labels (front ++ label ∷ behind))
no_label front label behind fault is =
    let labels = front ++ label ∷ behind in
    fault_is_bad (first_fault labels)
    (cond (nat_lt 255 (length (wire_form labels))) (Err NameLong) (Ok (map lowercase_label labels)))
    (some_fault front label behind fault is)

-- labels that are too long together
too_long : (labels : List (List ℕ)) → 255 < length (wire_form labels)
    → Err BadName ≡ or_bad_name (name_of_labels labels)
too_long labels long =
    length_is_bad (first_fault labels) labels
    ∙ ap (λ t. or_bad_name (fault_or (first_fault labels) (cond t (Err NameLong) (Ok (map lowercase_label labels)))))
    (sym (lt-ltb 255 (length (wire_form labels)) long))

-- a label that is none, or that makes the name too long
pub label_is_bad : (labels front : List (List ℕ)) (label : List ℕ) (more base name : List (List ℕ))
    (fault : NameFault) → labels ≡ front ++ label ∷ more → name ≡ map lowercase_label front
    → extended_of name label ≡ Err fault → Err BadName ≡ or_bad_name (name_of_labels (labels ++ base))
label_is_bad labels front label more base name fault cut low fails =
    by (label_fault label) (nat_lt 255 (length (wire_form (name ++ label ∷ [])))) refl refl fails
    ∙ ap (λ l. or_bad_name (name_of_labels l)) (sym whole)
  where
    rest : List (List ℕ)
    rest = more ++ base

    whole : labels ++ base ≡ front ++ label ∷ rest
    whole = ap (λ l. l ++ base) cut ∙ append_assoc front (label ∷ more) base

    longer : 255 < length (wire_form (name ++ label ∷ [])) → 255 < length (wire_form (front ++ label ∷ rest))
    longer h = omega (
      arith,
      h,
      ap (λ l. length (wire_form (l ++ label ∷ []))) low,
      length-lower front (label ∷ []),
      joined_len front (label ∷ []),
      joined_len front (label ∷ rest),
      length-append label (0 ∷ []),
      length-append label (wire_form rest),
      length-wire_form rest,
    )

    by : (f : Option NameFault) (t : Bool) → label_fault label ≡ f
        → nat_lt 255 (length (wire_form (name ++ label ∷ []))) ≡ t
        → fault_or f (cond t (Err NameLong) (Ok (name ++ lowercase_label label ∷ []))) ≡ Err fault
        → Err BadName ≡ or_bad_name (name_of_labels (front ++ label ∷ rest))
    by (Some f) t is long e = no_label front label rest f is
    by None true is long e =
        too_long (front ++ label ∷ rest) (longer (ltb-true 255 (length (wire_form (name ++ label ∷ []))) long))
    by None false is long e = absurd cc

-- a label of more than 63 octets
pub long_label : (label : List ℕ) (name : List (List ℕ)) → 63 < length label → extended_of name label ≡ Err LabelLong
long_label label name h =
    ap (λ t. fault_or (cond t (Some EmptyLabel) (cond (nat_lt 63 (length label)) (Some LabelLong) None)) other)
    (ne_eqb (length label) 0 (λ e. omega (arith, e, h)))
    ∙ ap (λ t. fault_or (cond t (Some LabelLong) None) other) (lt-ltb 63 (length label) h)
  where
    other : Result (List (List ℕ)) NameFault
    other = cond (nat_lt 255 (length (wire_form (name ++ label ∷ [])))) (Err NameLong)
        (Ok (name ++ lowercase_label label ∷ []))

-- a name behind that makes the whole too long
pub base_is_bad : (labels base name : List (List ℕ)) (fault : NameFault) → name ≡ map lowercase_label labels
    → joined_of name base ≡ Err fault → Err BadName ≡ or_bad_name (name_of_labels (labels ++ base))
base_is_bad labels base name fault low fails = by (nat_lt 255 (length (wire_form (name ++ base)))) refl fails
  where
    by : (t : Bool) → nat_lt 255 (length (wire_form (name ++ base))) ≡ t
        → cond t (Err NameLong) (Ok (name ++ base)) ≡ Err fault
        → Err BadName ≡ or_bad_name (name_of_labels (labels ++ base))
    by true long e = too_long (labels ++ base) (omega (
      arith,
      ltb-true 255 (length (wire_form (name ++ base))) long,
      ap (λ l. length (wire_form (l ++ base))) low,
      length-lower labels base,
    ))
    by false long e = absurd cc

-- the labels of both
pub joined_is : (front name whole : List (List ℕ)) → joined_of front name ≡ Ok whole → whole ≡ front ++ name
joined_is front name whole made = by (nat_lt 255 (length (wire_form (front ++ name)))) made
  where
    by : (t : Bool) → cond t (Err NameLong) (Ok (front ++ name)) ≡ Ok whole → whole ≡ front ++ name
    by true e = absurd cc
    by false e = cc

-- ---- labels that are a name

no_fault : (labels base : List (List ℕ)) → AllByRecursion IsLabel (map lowercase_label labels ++ base) → first_fault (labels ++ base) ≡ None
no_fault [] [] h = refl
no_fault [] (label ∷ base) h = ap₂ (λ f g. earlier_fault f g) (no_fault_from_label label h.0) (no_fault [] base h.1)
no_fault (label ∷ labels) base h =
    let same : length (lowercase_label label) ≡ length label = simp length-map in
    ap₂ (λ f g. earlier_fault f g) (no_fault_from_label label (omega (arith, same, h.0.0), omega (arith, same, h.0.1))) (no_fault labels base h.1)

pub name_is_made : (labels base name : List (List ℕ)) → name ≡ map lowercase_label labels ++ base → IsName name → Ok name ≡ or_bad_name (name_of_labels (labels ++ base))
name_is_made labels base name low legal = made (subst_name legal)
  where
    subst_name : IsName name → IsName (map lowercase_label labels ++ base)
    subst_name n = subst IsName low n

    made : IsName (map lowercase_label labels ++ base) → Ok name ≡ or_bad_name (name_of_labels (labels ++ base))
    made n =
        let all : map lowercase_label (labels ++ base) ≡ name = map-append lowercase_label labels base ∙ ap (λ l. map lowercase_label labels ++ l) (back_name (map lowercase_label labels) base n).lower ∙ sym low in
        ap Ok (sym all)
        ∙ sym (ap (λ f. or_bad_name (fault_or f (cond (nat_lt 255 (length (wire_form (labels ++ base)))) (Err NameLong) (Ok (map lowercase_label (labels ++ base)))))) (no_fault labels base n.labels)
        ∙ ap (λ t. or_bad_name (cond t (Err NameLong) (Ok (map lowercase_label (labels ++ base))))) (le-ltb 255 (length (wire_form (labels ++ base))) (omega (arith, n.short, length-lower labels base))))
