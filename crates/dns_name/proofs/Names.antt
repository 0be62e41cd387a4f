-- Names, their children, and what stands under them.
use Rattle.std.proofs.Common.{◌≡◌, ◌≢◌, ℕ, ◌+◌, ◌-◌, ◌<◌, ◌≤◌, Bool, true, false, cond, Ok, Err, List, [], ◌∷◌, ◌++◌, length, take, drop, map, bytes_eq, Decides, Option, Some, None, Result, refl, sym, ap, ap₂, ◌∙◌, arith, length-append, take-append-drop, drop_at, IsTrue, true≢false, nat_lt, lt-ltb, le-ltb, ltb-true, ◌==◌, not, ◌↔◌}
use Rattle.std.proofs.lemmas.List.{length-map}
use Rattle.std.proofs.lemmas.Bool.{eqb-false, ltb-false, ne_eqb, not-false}
use Rattle.std.proofs.lemmas.Bool.Decides.{same_from_decides}
use Rattle.std.specs.Bool.{one_answer}
use Rattle.std.specs.Cmp.Lexicographic.{pointwise, pointwise_decides, bytes_decides}
use Rattle.std.specs.List.{AllByRecursion}
use Rattle.dns_name.specs.declared.fault.NameFault.{NameFault}
use Rattle.dns_name.specs.declared.fault.NameFault.TheVariants.{EmptyLabel, LabelLong, NameLong}
use Rattle.dns_name.specs.Wire.{wire_form, labels_in}
use Rattle.dns_name.specs.Name.{IsLabel, IsName, IsUnder, is_under, IsWire, lowercase_label, label_fault, child_of, fault_or, first_fault, earlier_fault, name_of_labels}
use Rattle.dns_name.proofs.Wire.{labels_in-wire_form}
use Rattle.dns_name.proofs.Octets.{lowercase_octets, lowercase_twice}

-- labels that are equal one by one are the same name
pub same_name_decides : (a b : List (List ℕ)) → Decides (pointwise bytes_eq a b) (a ≡ b)
same_name_decides a b = pointwise_decides bytes_decides a b

-- octets on the wire are equal exactly where their labels are
pub same_wire : (mine theirs : List ℕ) (own other : List (List ℕ)) → mine ≡ wire_form own → theirs ≡ wire_form other
    → labels_in mine ≡ own → labels_in theirs ≡ other → bytes_eq mine theirs ≡ pointwise bytes_eq own other
same_wire mine theirs own other m t o p =
    one_answer (bytes_eq mine theirs) (pointwise bytes_eq own other) octets (same_name_decides own other)
  where
    octets : Decides (bytes_eq mine theirs) (own ≡ other)
    octets = (
      λ h. sym o ∙ ap labels_in ((bytes_decides mine theirs).0 h) ∙ p,
      λ e. (bytes_decides mine theirs).1 (m ∙ ap wire_form e ∙ sym t),
    )

-- the test is that of the relation
pub under_decides : (name top : List (List ℕ)) → Decides (is_under name top) (IsUnder name top)
under_decides name top = (to, from)
  where
    rest : List (List ℕ)
    rest = drop (length name - length top) name

    to : is_under name top ≡ true → IsUnder name top
    to h = (
      take (length name - length top) name,
      sym (take-append-drop (length name - length top) name)
          ∙ ap (λ (t : List (List ℕ)). take (length name - length top) name ++ t) (sym ((same_name_decides top rest).0 h)),
    )

    from : IsUnder name top → is_under name top ≡ true
    from u =
        let len : length name - length top ≡ length u.0 = omega (arith, ap length u.1, length-append u.0 top) in
        (same_name_decides top rest).1
        (sym (ap (λ (k : ℕ). drop k name) len ∙ ap (drop (length u.0)) u.1 ∙ drop_at u.0 top (length u.0) refl))

-- a name is under itself
pub under_itself : (name top : List (List ℕ)) → name ≡ top → is_under name top ≡ true
under_itself name top e = (under_decides name top).1 ([], e)

-- the root is under itself alone
pub root_under : (top : List (List ℕ)) → [] ≢ top → is_under [] top ≡ false
root_under top ne = by (is_under [] top) refl
  where
    by : (t : Bool) → is_under [] top ≡ t → t ≡ false
    by false is = refl
    by true is = absurd (none ((under_decides [] top).0 is))
      where
        none : IsUnder [] top → ⊥
        none ([], e) = ne e
        none (x ∷ front, e) = cc

-- a name that is not the other is under it where its parent is
pub parent_under : (label : List ℕ) (name top : List (List ℕ)) → label ∷ name ≢ top → is_under (label ∷ name) top ≡ is_under name top
parent_under label name top ne =
    same_from_decides (is_under (label ∷ name) top) (is_under name top) (under_decides (label ∷ name) top)
    ((λ h. let u = (under_decides name top).0 h in (label ∷ u.0, ap (λ (l : List (List ℕ)). label ∷ l) u.1)), (λ u. (under_decides name top).1 (from u)))
  where
    from : IsUnder (label ∷ name) top → IsUnder name top
    from ([], e) = absurd (ne e)
    from (x ∷ front, e) = (front, cc)

pub under_iff : (r : Bool) (name top : List (List ℕ)) → r ≡ is_under name top → IsTrue r ↔ IsUnder name top
under_iff r name top e = ((λ h. (under_decides name top).0 (sym e ∙ h)), (λ u. e ∙ (under_decides name top).1 u))

-- what the octets say of the labels
pub not_at : (rest top : List ℕ) (other : List (List ℕ)) → IsWire rest → top ≡ wire_form other → not (bytes_eq rest top) ≡ true → labels_in rest ≢ other
not_at rest top other w t h e = no (bytes_eq rest top) h ((bytes_decides rest top).1 (w.form ∙ ap wire_form e ∙ sym t))
  where
    no : (s : Bool) → not s ≡ true → s ≡ true → ⊥
    no true h k = true≢false (sym h)
    no false h k = true≢false (sym k)

pub at : (rest top : List ℕ) → not (bytes_eq rest top) ≡ false → rest ≡ top
at rest top h = (bytes_decides rest top).0 (not-false (bytes_eq rest top) h)

-- ---- a child

-- octets that are a legal label
pub label_from_no_fault : (label : List ℕ) → label_fault label ≡ None → IsLabel label
label_from_no_fault label h = by (length label == 0) (nat_lt 63 (length label)) refl refl h
  where
    by : (s t : Bool) → (length label == 0) ≡ s → nat_lt 63 (length label) ≡ t → cond s (Some EmptyLabel) (cond t (Some LabelLong) None) ≡ None → IsLabel label
    by true t e f h = absurd cc
    by false true e f h = absurd cc
    by false false e f h = (let ne = eqb-false (length label) 0 e in omega arith, ltb-false 63 (length label) f)

pub no_fault_from_label : (label : List ℕ) → IsLabel label → label_fault label ≡ None
no_fault_from_label label l =
    ap (λ t. cond t (Some EmptyLabel) (cond (nat_lt 63 (length label)) (Some LabelLong) None)) (ne_eqb (length label) 0 (λ e. omega (arith, e, l.0)))
    ∙ ap (λ t. cond t (Some LabelLong) None) (le-ltb 63 (length label) l.1)

-- the name with a label in front
pub record IsChild (label : List ℕ) (name : List (List ℕ)) (wire : List ℕ) : Type 0 where
  pub legal : IsName (lowercase_label label ∷ name)
  pub labels : labels_in wire ≡ lowercase_label label ∷ name
  pub form : wire ≡ wire_form (labels_in wire)
  pub answer : child_of label name ≡ Ok (labels_in wire)

pub child_made : (label : List ℕ) (name : List (List ℕ)) (wire : List ℕ) → label_fault label ≡ None → AllByRecursion (λ b. b < 256) label → IsName name → 1 + length label + length (wire_form name) ≤ 255
    → wire ≡ length label ∷ (lowercase_label label ++ wire_form name) → IsChild label name wire
child_made label name wire no_fault octets n short is = record {
  legal = legal;
  labels = labels;
  form = form ∙ ap wire_form (sym labels);
  answer = ap (λ f. fault_or f (cond (nat_lt 255 (length (wire_form (label ∷ name)))) (Err NameLong) (Ok (lowercase_label label ∷ name)))) no_fault ∙ ap (λ t. cond t (Err NameLong) (Ok (lowercase_label label ∷ name))) fits ∙ ap Ok (sym labels);
}
  where
    l : IsLabel label
    l = label_from_no_fault label no_fault

    fits : nat_lt 255 (length (wire_form (label ∷ name))) ≡ false
    fits = le-ltb 255 (length (wire_form (label ∷ name))) (omega (arith, length-append label (wire_form name)))

    same_len : length (lowercase_label label) ≡ length label
    same_len = simp length-map

    form : wire ≡ wire_form (lowercase_label label ∷ name)
    form = is ∙ ap (λ (k : ℕ). k ∷ (lowercase_label label ++ wire_form name)) (sym same_len)

    legal : IsName (lowercase_label label ∷ name)
    legal = record {
      labels = ((omega (arith, same_len, l.0), omega (arith, same_len, l.1)), n.labels);
      octets = (lowercase_octets label octets, n.octets);
      lower = ap₂ (λ (x : List ℕ) (m : List (List ℕ)). x ∷ m) (lowercase_twice label) n.lower;
      short = omega (arith, same_len, length-append (lowercase_label label) (wire_form name));
    }

    labels : labels_in wire ≡ lowercase_label label ∷ name
    labels = ap labels_in form ∙ labels_in-wire_form (lowercase_label label ∷ name) legal.labels

-- ---- names as a whole

-- a legal label in front of a name, where the whole is one
pub child_ok : (label : List ℕ) (name : List (List ℕ)) → IsName (label ∷ name) → child_of label name ≡ Ok (label ∷ name)
child_ok label name n =
    ap (λ f. fault_or f (cond (nat_lt 255 (length (wire_form (label ∷ name)))) (Err NameLong) (Ok (lowercase_label label ∷ name)))) (no_fault_from_label label n.labels.0)
    ∙ ap (λ t. cond t (Err NameLong) (Ok (lowercase_label label ∷ name))) (le-ltb 255 (length (wire_form (label ∷ name))) n.short)
    ∙ ap (λ (l : List ℕ). Ok (l ∷ name)) (head_of (lowercase_label label) label (map lowercase_label name) name n.lower)
  where
    head_of : (a b : List ℕ) (x y : List (List ℕ)) → a ∷ x ≡ b ∷ y → a ≡ b
    head_of a b x y e = cc

pub tail_name : (label : List ℕ) (name : List (List ℕ)) → IsName (label ∷ name) → IsName name
tail_name label name n = record {
  labels = n.labels.1;
  octets = n.octets.1;
  lower = tail_of (lowercase_label label) label (map lowercase_label name) name n.lower;
  short = omega (arith, n.short, length-append label (wire_form name));
}
  where
    tail_of : (a b : List ℕ) (x y : List (List ℕ)) → a ∷ x ≡ b ∷ y → x ≡ y
    tail_of a b x y e = cc

pub back_name : (front name : List (List ℕ)) → IsName (front ++ name) → IsName name
back_name [] name n = n
back_name (label ∷ front) name n = back_name front name (tail_name label (front ++ name) n)

-- ---- labels of a text

pub parts_of : (f g : Option NameFault) → earlier_fault f g ≡ None → (f ≡ None) × (g ≡ None)
parts_of None g h = (refl, h)
parts_of (Some f) g h = absurd cc

-- the labels before the first that has a fault, and that one
pub first_fault-append : (labels more : List (List ℕ)) → first_fault labels ≡ None → first_fault (labels ++ more) ≡ first_fault more
first_fault-append [] more h = refl
first_fault-append (label ∷ labels) more h =
    let p = parts_of (label_fault label) (first_fault labels) h in
    ap (λ f. earlier_fault f (first_fault (labels ++ more))) p.0 ∙ first_fault-append labels more p.1

pub first_fault-push : (labels : List (List ℕ)) (label : List ℕ) → first_fault labels ≡ None → first_fault (labels ++ label ∷ []) ≡ label_fault label
first_fault-push labels label h = first_fault-append labels (label ∷ []) h ∙ alone (label_fault label)
  where
    alone : (f : Option NameFault) → earlier_fault f None ≡ f
    alone None = refl
    alone (Some f) = refl

pub first_fault-at : (labels : List (List ℕ)) (label : List ℕ) (more : List (List ℕ)) (fault : NameFault) → first_fault labels ≡ None → label_fault label ≡ Some fault → first_fault (labels ++ label ∷ more) ≡ Some fault
first_fault-at labels label more fault h k = first_fault-append labels (label ∷ more) h ∙ ap (λ f. earlier_fault f (first_fault more)) k

-- ---- names of labels

first_fault_back : (front labels : List (List ℕ)) → first_fault (front ++ labels) ≡ None → first_fault labels ≡ None
first_fault_back [] labels h = h
first_fault_back (label ∷ front) labels h = first_fault_back front labels (parts_of (label_fault label) (first_fault (front ++ labels)) h).1

-- lower case keeps the length on the wire
length-lower : (labels : List (List ℕ)) → length (wire_form (map lowercase_label labels)) ≡ length (wire_form labels)
length-lower [] = refl
length-lower (label ∷ labels) =
    let same : length (lowercase_label label) ≡ length label = simp length-map in
    omega (arith, same, length-lower labels, length-append label (wire_form labels), length-append (lowercase_label label) (wire_form (map lowercase_label labels)))

-- labels in front make a name no shorter
pub length-back : (front labels : List (List ℕ)) → length (wire_form labels) ≤ length (wire_form (front ++ labels))
length-back [] labels = omega arith
length-back (label ∷ front) labels = omega (arith, length-back front labels, length-append label (wire_form (front ++ labels)))

abbrev answer_of : Option NameFault → Bool → List (List ℕ) → Result (List (List ℕ)) NameFault
answer_of fault long name = fault_or fault (cond long (Err NameLong) (Ok name))

-- labels of which a last part is too long
pub labels_fail : (parts front : List (List ℕ)) (label : List ℕ) (behind name : List (List ℕ)) (fault : NameFault) → first_fault parts ≡ None → parts ≡ front ++ label ∷ behind → name ≡ map lowercase_label behind → Err fault ≡ child_of label name
    → Err fault ≡ name_of_labels parts
labels_fail parts front label behind name fault none cut low fails = by (nat_lt 255 (length (wire_form (label ∷ name)))) refl
    (fails ∙ ap (λ f. answer_of f (nat_lt 255 (length (wire_form (label ∷ name)))) (lowercase_label label ∷ name)) own)
  where
    own : label_fault label ≡ None
    own = (parts_of (label_fault label) (first_fault behind) (first_fault_back front (label ∷ behind) (sym (ap first_fault cut) ∙ none))).0

    longer : 255 < length (wire_form (label ∷ name)) → 255 < length (wire_form parts)
    longer h = omega (arith, ap (λ l. length (wire_form l)) cut, length-back front (label ∷ behind), ap (λ l. length (wire_form l)) low, length-lower behind, length-append label (wire_form name), length-append label (wire_form behind))

    by : (t : Bool) → nat_lt 255 (length (wire_form (label ∷ name))) ≡ t → Err fault ≡ answer_of None t (lowercase_label label ∷ name) → Err fault ≡ name_of_labels parts
    by false is e = absurd cc
    by true is e = e ∙ sym (ap (λ f. answer_of f (nat_lt 255 (length (wire_form parts))) (map lowercase_label parts)) none
        ∙ ap (λ t. answer_of None t (map lowercase_label parts)) (lt-ltb 255 (length (wire_form parts)) (longer (ltb-true 255 (length (wire_form (label ∷ name))) is))))

-- legal labels that are short enough
pub labels_made : (parts name : List (List ℕ)) → first_fault parts ≡ None → name ≡ map lowercase_label parts → IsName name → Ok name ≡ name_of_labels parts
labels_made parts name none low n =
    ap Ok low
    ∙ sym (ap (λ f. answer_of f (nat_lt 255 (length (wire_form parts))) (map lowercase_label parts)) none
    ∙ ap (λ t. answer_of None t (map lowercase_label parts)) (le-ltb 255 (length (wire_form parts)) (omega (arith, n.short, ap (λ l. length (wire_form l)) low, length-lower parts))))
