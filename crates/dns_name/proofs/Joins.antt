-- Names that are put behind one another.
use Rattle.std.proofs.Common.{◌≡◌, ℕ, ◌+◌, ◌-◌, ◌<◌, ◌≤◌, Bool, false, cond, Ok, Err, List, [], ◌∷◌, ◌++◌, length, take}
use Rattle.std.proofs.Common.{map, None, Result, refl, sym, ap, ap₂, ◌∙◌, arith, length-append, append_assoc, nat_lt}
use Rattle.std.proofs.Common.{lt-ltb, le-ltb}
use Rattle.std.proofs.Math.Seq.{take-append_seam}
use Rattle.std.proofs.lemmas.List.{map-append, length-map}
use Rattle.std.specs.List.{AllByRecursion}
use Rattle.dns_name.specs.declared.fault.NameFault.{NameFault}
use Rattle.dns_name.specs.declared.fault.NameFault.TheVariants.{NameLong}
use Rattle.dns_name.specs.Wire.{wire_form, labels_in}
use Rattle.dns_name.specs.Name.{IsLabel, IsName, lowercase_label, label_fault, fault_or, extended_of, joined_of}
use Rattle.dns_name.proofs.Wire.{labels_in-wire_form}
use Rattle.dns_name.proofs.Octets.{all_append, lowercase_octets, lowercase_twice}
use Rattle.dns_name.proofs.Names.{label_from_no_fault, no_fault_from_label}

-- ---- the wire form without the octet of the root

abbrev pub front_form : List (List ℕ) → List ℕ
front_form [] = []
front_form (label ∷ name) = length label ∷ (label ++ front_form name)

pub wire_join : (front name : List (List ℕ)) → wire_form (front ++ name) ≡ front_form front ++ wire_form name
wire_join [] name = refl
wire_join (label ∷ front) name =
    ap (λ (l : List ℕ). length label ∷ (label ++ l)) (wire_join front name)
    ∙ ap (λ (l : List ℕ). length label ∷ l) (sym (append_assoc label (front_form front) (wire_form name)))

root_last : (name : List (List ℕ)) → wire_form name ≡ front_form name ++ 0 ∷ []
root_last [] = refl
root_last (label ∷ name) =
    ap (λ (l : List ℕ). length label ∷ (label ++ l)) (root_last name)
    ∙ ap (λ (l : List ℕ). length label ∷ l) (sym (append_assoc label (front_form name) (0 ∷ [])))

pub front_len : (name : List (List ℕ)) → length (front_form name) + 1 ≡ length (wire_form name)
front_len name = omega (arith, ap length (root_last name), length-append (front_form name) (0 ∷ []))

pub joined_len : (front name : List (List ℕ))
    → length (wire_form (front ++ name)) + 1 ≡ length (wire_form front) + length (wire_form name)
joined_len front name =
    omega (arith, ap length (wire_join front name), length-append (front_form front) (wire_form name), front_len front)

pub extended_len : (name : List (List ℕ)) (label : List ℕ)
    → length (wire_form (name ++ label ∷ [])) ≡ length (wire_form name) + length label + 1
extended_len name label = omega (arith, joined_len name (label ∷ []), length-append label (0 ∷ []))

-- what is left without the last octet
pub rootless : (name : List (List ℕ)) (wire : List ℕ) → wire ≡ wire_form name
    → take (length wire - 1) wire ≡ front_form name
rootless name wire is =
    let len : length wire - 1 ≡ length (front_form name) = omega (arith, ap length is, front_len name) in
    ap₂ (λ (n : ℕ) (l : List ℕ). take n l) len (is ∙ root_last name) ∙ take-append_seam (front_form name) (0 ∷ [])

-- ---- one name behind the other

pub record IsJoined (front name : List (List ℕ)) (wire : List ℕ) : Type 0 where
  pub legal : IsName (front ++ name)
  pub labels : labels_in wire ≡ front ++ name
  pub form : wire ≡ wire_form (labels_in wire)
  pub short : nat_lt 255 (length (wire_form (front ++ name))) ≡ false

pub joined : (front name : List (List ℕ)) (wire : List ℕ) → IsName front → IsName name
    → wire ≡ front_form front ++ wire_form name → length (wire_form front) + length (wire_form name) ≤ 256
    → IsJoined front name wire
joined front name wire f n is fits = record {
  legal = legal;
  labels = labels;
  form = form ∙ ap wire_form (sym labels);
  short = le-ltb 255 (length (wire_form (front ++ name))) legal.short;
}
  where
    form : wire ≡ wire_form (front ++ name)
    form = is ∙ sym (wire_join front name)

    legal : IsName (front ++ name)
    legal = record {
      labels = all_append IsLabel front name f.labels n.labels;
      octets = all_append (AllByRecursion (λ b. b < 256)) front name f.octets n.octets;
      lower = map-append lowercase_label front name ∙ ap₂ (λ (a b : List (List ℕ)). a ++ b) f.lower n.lower;
      short = omega (arith, fits, joined_len front name);
    }

    labels : labels_in wire ≡ front ++ name
    labels = ap labels_in form ∙ labels_in-wire_form (front ++ name) legal.labels

pub joined_answer : (front name : List (List ℕ)) (wire : List ℕ) → IsJoined front name wire
    → joined_of front name ≡ Ok (labels_in wire)
joined_answer front name wire j = ap (λ t. cond t (Err NameLong) (Ok (front ++ name))) j.short ∙ ap Ok (sym j.labels)

pub joined_long : (front name : List (List ℕ)) → 256 < length (wire_form front) + length (wire_form name)
    → joined_of front name ≡ Err NameLong
joined_long front name long =
    ap (λ t. cond t (Err NameLong) (Ok (front ++ name)))
    (lt-ltb 255 (length (wire_form (front ++ name))) (omega (arith, long, joined_len front name)))

-- ---- a label behind the last one

pub label_name : (label : List ℕ) → label_fault label ≡ None → AllByRecursion (λ b. b < 256) label
    → IsName (lowercase_label label ∷ [])
label_name label no_fault octets =
    let l : IsLabel label = label_from_no_fault label no_fault in
    let same : length (lowercase_label label) ≡ length label = simp length-map in
    record {
      labels = ((omega (arith, same, l.0), omega (arith, same, l.1)), tt);
      octets = (lowercase_octets label octets, tt);
      lower = ap (λ (x : List ℕ). x ∷ []) (lowercase_twice label);
      short = omega (arith, same, l.1, length-append (lowercase_label label) (0 ∷ []));
    }

abbrev answer_of : List (List ℕ) → List ℕ → Bool → Result (List (List ℕ)) NameFault
answer_of name label long = cond long (Err NameLong) (Ok (name ++ lowercase_label label ∷ []))

same_short : (name : List (List ℕ)) (label : List ℕ)
    → length (wire_form (name ++ label ∷ [])) ≡ length (wire_form (name ++ lowercase_label label ∷ []))
same_short name label =
    let same : length (lowercase_label label) ≡ length label = simp length-map in
    omega (arith, same, extended_len name label, extended_len name (lowercase_label label))

pub extended_answer : (name : List (List ℕ)) (label wire : List ℕ) → label_fault label ≡ None
    → IsJoined name (lowercase_label label ∷ []) wire → extended_of name label ≡ Ok (labels_in wire)
extended_answer name label wire no_fault j =
    ap (λ f. fault_or f (answer_of name label (nat_lt 255 (length (wire_form (name ++ label ∷ [])))))) no_fault
    ∙ ap (λ (n : ℕ). answer_of name label (nat_lt 255 n)) (same_short name label)
    ∙ ap (answer_of name label) j.short ∙ ap Ok (sym j.labels)

pub extended_long : (name : List (List ℕ)) (label : List ℕ) → label_fault label ≡ None
    → 255 < length (wire_form name) + 1 + length label → extended_of name label ≡ Err NameLong
extended_long name label no_fault long =
    ap (λ f. fault_or f (answer_of name label (nat_lt 255 (length (wire_form (name ++ label ∷ [])))))) no_fault
    ∙ ap (answer_of name label)
    (lt-ltb 255 (length (wire_form (name ++ label ∷ []))) (omega (arith, long, extended_len name label)))

-- ---- what fits

pub joined_ok : (front name : List (List ℕ)) → length (wire_form front) + length (wire_form name) ≤ 256
    → joined_of front name ≡ Ok (front ++ name)
joined_ok front name fits =
    ap (λ t. cond t (Err NameLong) (Ok (front ++ name)))
    (le-ltb 255 (length (wire_form (front ++ name))) (omega (arith, fits, joined_len front name)))

pub extended_ok : (name : List (List ℕ)) (label : List ℕ) → IsLabel label → lowercase_label label ≡ label
    → length (wire_form name) + length label + 1 ≤ 255 → extended_of name label ≡ Ok (name ++ label ∷ [])
extended_ok name label l low fits =
    ap (λ f. fault_or f (answer_of name label (nat_lt 255 (length (wire_form (name ++ label ∷ []))))))
    (no_fault_from_label label l)
    ∙ ap (answer_of name label)
    (le-ltb 255 (length (wire_form (name ++ label ∷ []))) (omega (arith, fits, extended_len name label)))
    ∙ ap (λ (x : List ℕ). Ok (name ++ x ∷ [])) low

-- there is one answer
pub not_long : (name : List (List ℕ)) (fault : NameFault) (r : Result (List (List ℕ)) NameFault) → r ≡ Ok name
    → r ≡ Err fault → ⊥
not_long name fault r a b = cc

pub one_name : (a b : List (List ℕ)) (r : Result (List (List ℕ)) NameFault) → r ≡ Ok a → r ≡ Ok b → b ≡ a
one_name a b r p q = cc
