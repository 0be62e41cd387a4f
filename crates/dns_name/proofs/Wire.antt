-- Labels, and the octets that hold them.
use Rattle.std.proofs.Common.{◌≡◌, ℕ, zero, suc, ◌<◌, ◌≤◌, ◌+◌, List, [], ◌∷◌, ◌++◌, length, take, drop, refl, sym, ap, ap₂, subst, ◌∙◌, arith, length-append}
use Rattle.std.proofs.Math.Seq.{take-append_seam, drop-append_seam}
use Rattle.std.specs.List.{AllByRecursion}
use Rattle.dns_name.specs.Wire.{wire_form, label_and_rest, labels_in}
use Rattle.dns_name.specs.Name.{IsLabel, IsWire}

-- a label and what follows it
label_taken : (label rest : List ℕ) → label_and_rest (length label) (label ++ rest) ≡ (label, labels_in rest)
label_taken [] [] = refl
label_taken [] (zero ∷ rest) = refl
label_taken [] (suc n ∷ rest) = refl
label_taken (b ∷ label) rest = ap (λ (r : List ℕ × List (List ℕ)). (b ∷ r.0, r.1)) (label_taken label rest)

labels_in-cons : (label rest : List ℕ) → 0 < length label → labels_in (length label ∷ (label ++ rest)) ≡ label ∷ labels_in rest
labels_in-cons [] rest h = absurd (omega arith)
labels_in-cons (b ∷ label) rest h = ap (λ (r : List ℕ × List (List ℕ)). r.0 ∷ r.1) (label_taken (b ∷ label) rest)

-- the wire form holds the labels
pub labels_in-wire_form : (name : List (List ℕ)) → AllByRecursion IsLabel name → labels_in (wire_form name) ≡ name
labels_in-wire_form [] h = refl
labels_in-wire_form (label ∷ name) h =
    labels_in-cons label (wire_form name) h.0.0 ∙ ap (λ (l : List (List ℕ)). label ∷ l) (labels_in-wire_form name h.1)

pub wire_from_labels : (name : List (List ℕ)) → AllByRecursion IsLabel name → IsWire (wire_form name)
wire_from_labels name h = record {
  labels = subst (AllByRecursion IsLabel) (sym (labels_in-wire_form name h)) h;
  form = ap wire_form (sym (labels_in-wire_form name h));
}

-- what a name on the wire begins with: its first label, and the name behind it
pub record Cut (wire octets : List ℕ) (len : ℕ) : Type 0 where
  pub fits : len ≤ length octets
  pub labels : labels_in wire ≡ take len octets ∷ labels_in (drop len octets)
  pub behind : IsWire (drop len octets)

pub cut_wire : (wire octets : List ℕ) (len : ℕ) → IsWire wire → wire ≡ len ∷ octets → 0 < len → Cut wire octets len
cut_wire wire octets len h is some = by (labels_in wire) h.labels (sym is ∙ h.form) refl
  where
    by : (name : List (List ℕ)) → AllByRecursion IsLabel name → len ∷ octets ≡ wire_form name → labels_in wire ≡ name → Cut wire octets len
    by [] all form names = let e : len ≡ 0 = cc in absurd (omega arith)
    by (label ∷ name) all form names =
        let n : len ≡ length label = cc in
        let o : octets ≡ label ++ wire_form name = cc in
        let front : take len octets ≡ label = ap₂ (λ (k : ℕ) (l : List ℕ). take k l) n o ∙ take-append_seam label (wire_form name) in
        let back : drop len octets ≡ wire_form name = ap₂ (λ (k : ℕ) (l : List ℕ). drop k l) n o ∙ drop-append_seam label (wire_form name) in
        record {
          fits = omega (arith, ap length o, length-append label (wire_form name));
          labels = names ∙ ap₂ (λ (l : List ℕ) (m : List (List ℕ)). l ∷ m) (sym front) (sym (ap labels_in back ∙ labels_in-wire_form name all.1));
          behind = subst IsWire (sym back) (wire_from_labels name all.1);
        }

-- a name has fewer labels than octets
pub length-wire_form : (name : List (List ℕ)) → length name < length (wire_form name)
length-wire_form [] = omega arith
length-wire_form (label ∷ name) = omega (arith, length-append label (wire_form name), length-wire_form name)

-- a label, the octet of its length and the octets behind it are all
pub length-split_wire : (wire label behind : List ℕ) → IsWire wire → IsWire behind → labels_in wire ≡ label ∷ labels_in behind
    → length wire ≡ 1 + length label + length behind
length-split_wire wire label behind w b e =
    ap length (w.form ∙ ap wire_form e) ∙ omega (arith, length-append label (wire_form (labels_in behind)), ap length b.form)
