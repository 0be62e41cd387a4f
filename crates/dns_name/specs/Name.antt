-- Names as lists of labels. A label is the list of its octets, the first label stands first, and the root has none.
use Rattle.std.specs.Prelude.{◌≡◌, ℕ, ◌<◌, ◌≤◌, Bool, List, [], ◌∷◌, ◌++◌, map, length, Option, Some, None, Result, Ok}
use Rattle.std.specs.Prelude.{Err, bytes_eq, nat_lt, ◌==◌, if◌then◌else◌}
use Rattle.std.specs.List.{AllByRecursion, ends_with, slice_split}
use Rattle.std.specs.Char.{to_ascii_lowercase}
use Rattle.dns_name.specs.declared.fault.NameFault.{NameFault}
use Rattle.dns_name.specs.declared.fault.NameFault.TheVariants.{EmptyLabel, LabelLong, NameLong}
use Rattle.dns_name.specs.Parts.{without_final}
use Rattle.dns_name.specs.Wire.{wire_form, labels_in}

-- RFC 1035, section 2.3.4: a label has 1 to 63 octets
abbrev pub IsLabel : List ℕ → Type 0
IsLabel label = (0 < length label) × (length label ≤ 63)

-- RFC 1035, section 2.3.3, and RFC 4343: ASCII letters count without regard to case; that names are held in lower case
-- is the project's own choice
abbrev pub lowercase_label : List ℕ → List ℕ
lowercase_label label = map to_ascii_lowercase label

-- RFC 1035, sections 2.3.4 and 3.1: legal labels, of octets in lower case, with at most 255 octets on the wire
pub record IsName (name : List (List ℕ)) : Type 0 where
  pub labels : AllByRecursion IsLabel name
  pub octets : AllByRecursion (AllByRecursion (λ b. b < 256)) name
  pub lower : map lowercase_label name ≡ name
  pub short : length (wire_form name) ≤ 255

-- RFC 1035, section 3.1: the octets are the wire form of labels, whatever their number
pub record IsWire (octets : List ℕ) : Type 0 where
  pub labels : AllByRecursion IsLabel (labels_in octets)
  pub form : octets ≡ wire_form (labels_in octets)

-- RFC 1034, section 3.1: the name stands at or below the other
abbrev pub IsUnder : List (List ℕ) → List (List ℕ) → Type 0
IsUnder name top = (front : List (List ℕ)) × (name ≡ front ++ top)

-- the same as a test
abbrev pub is_under : List (List ℕ) → List (List ℕ) → Bool
is_under name top = ends_with bytes_eq name top

-- RFC 1035, section 2.3.4: why octets are no label
abbrev pub label_fault : List ℕ → Option NameFault
label_fault label =
    if length label == 0 then Some EmptyLabel else (if nat_lt 63 (length label) then Some LabelLong else None)

-- the earlier fault, or else the later one
abbrev pub earlier_fault : Option NameFault → Option NameFault → Option NameFault
earlier_fault (Some f) later = Some f
earlier_fault None later = later

-- the fault of the first label that has one
abbrev pub first_fault : List (List ℕ) → Option NameFault
first_fault [] = None
first_fault (label ∷ labels) = earlier_fault (label_fault label) (first_fault labels)

-- the fault, or else the result
abbrev pub fault_or : {A : Type 0} → Option NameFault → Result A NameFault → Result A NameFault
fault_or (Some f) r = Err f
fault_or None r = r

-- project's own choice: labels as a name, or why they are none; a faulty label decides before the length
abbrev pub name_of_labels : List (List ℕ) → Result (List (List ℕ)) NameFault
name_of_labels labels =
    fault_or (first_fault labels)
    (if nat_lt 255 (length (wire_form labels)) then Err NameLong else Ok (map lowercase_label labels))

-- RFC 1034, section 3.1: the label in front of the name
abbrev pub child_of : List ℕ → List (List ℕ) → Result (List (List ℕ)) NameFault
child_of label name =
    fault_or (label_fault label)
    (if nat_lt 255 (length (wire_form (label ∷ name))) then Err NameLong else Ok (lowercase_label label ∷ name))

-- RFC 1034, section 3.1: the label behind the last one of the name
abbrev pub extended_of : List (List ℕ) → List ℕ → Result (List (List ℕ)) NameFault
extended_of name label =
    let long = nat_lt 255 (length (wire_form (name ++ label ∷ []))) in
    fault_or (label_fault label) (if long then Err NameLong else Ok (name ++ lowercase_label label ∷ []))

-- RFC 1034, section 3.1: all labels of one name, and then those of another
abbrev pub joined_of : List (List ℕ) → List (List ℕ) → Result (List (List ℕ)) NameFault
joined_of front name = if nat_lt 255 (length (wire_form (front ++ name))) then Err NameLong else Ok (front ++ name)

-- RFC 1034, section 3.1: the first label; the root has none
abbrev pub first_label_of : List (List ℕ) → Option (List ℕ)
first_label_of [] = None
first_label_of (label ∷ name) = Some label

-- RFC 1034, section 3.1: the name without its first label; the root has none
abbrev pub parent_of : List (List ℕ) → Option (List (List ℕ))
parent_of [] = None
parent_of (label ∷ name) = Some name

-- 46 is the dot
abbrev pub is_dot : ℕ → Bool
is_dot b = b == 46

-- RFC 1034, section 3.1: labels joined by dots, with or without a final dot; `.` alone is the root
abbrev pub name_of_text : List ℕ → Result (List (List ℕ)) NameFault
name_of_text text =
    if bytes_eq text (46 ∷ []) then Ok [] else name_of_labels (slice_split is_dot (without_final is_dot text))
