-- The reversed names of addresses, and what is answered there.
use Rattle.std.specs.Prelude.{ℕ, zero, suc, ◌/◌, ◌%◌, ◌^◌, Bool, not, ◌||◌, ◌&&◌, ◌≡◌, List, [], ◌∷◌, ◌++◌, Option}
use Rattle.std.specs.Prelude.{Some, None, decimal, if◌then◌else◌}
use Rattle.std.specs.Char.{digit_char}
use Rattle.std.specs.List.{list_any}
use Rattle.addr_bits.specs.declared.address.Address.{Address}
use Rattle.addr_bits.specs.declared.address.Address.TheVariants.{V4, V6}
use Rattle.addr_bits.specs.declared.address.Family.{Family}
use Rattle.addr_bits.specs.declared.address.Family.TheVariants as family
use Rattle.dns_name.specs.Name.{is_under}
use Rattle.zone_answers.specs.declared.answer.QKind.{QKind}
use Rattle.zone_answers.specs.declared.answer.QKind.TheVariants as kind
use Rattle.zone_answers.specs.declared.answer.Answer.{Answer}
use Rattle.zone_answers.specs.declared.answer.Answer.TheVariants.{Outside, NoName, NoData, Loop, Found}
use Rattle.zone_answers.specs.declared.class.Class.{Class}
use Rattle.zone_answers.specs.declared.class.Class.TheVariants.{Hit, Void, Beyond, Round}
use Rattle.zone_answers.specs.Zone.{Zone}
use Rattle.zone_answers.specs.Answers.{answer_of, answer_within, zone_of, is_cut_off, is_delegation, at_node}
use Rattle.zone_answers.specs.Answers.{has_record, name_exists, closest_above}
use Rattle.zone_answers.specs.Same.{same_name}

-- as many of the last digits of a number, each of so many bits, the last first, each as a label
abbrev pub last_digits : (bits : ℕ) → (label : ℕ → List ℕ) → (count : ℕ) → ℕ → List (List ℕ)
last_digits bits label zero n = []
last_digits bits label (suc count) n = label (n % 2 ^ bits) ∷ last_digits bits label count (n / 2 ^ bits)

-- a hexadecimal digit in lower case, as a label
abbrev pub digit_label : ℕ → List ℕ
digit_label digit = digit_char digit ∷ []

-- RFC 1035, section 3.5: an IPv4 address is labelled by its octets, and RFC 3596, section 2.5: an IPv6 address by
-- digits of four bits
abbrev pub label_bits : Family → ℕ
label_bits family.V4 = 8
label_bits family.V6 = 4

-- how many labels an address has
abbrev pub label_count : Family → ℕ
label_count family.V4 = 4
label_count family.V6 = 32

-- RFC 1035, section 3.5, and RFC 3596, section 2.5: the label of an octet or of a digit
abbrev pub label_of : Family → ℕ → List ℕ
label_of family.V4 = decimal
label_of family.V6 = digit_label

-- the most octets that such a label has on the wire
abbrev pub label_octets : Family → ℕ
label_octets family.V4 = 4
label_octets family.V6 = 2

-- as many labels of a number as told, the last first, below a name: a node of the tree of reversed names
abbrev pub digits_name : Family → (count : ℕ) → ℕ → List (List ℕ) → List (List ℕ)
digits_name f count digits suffix = last_digits (label_bits f) (label_of f) count digits ++ suffix

-- RFC 1035, section 3.5: the four octets of an IPv4 address as decimal numbers, and RFC 3596, section 2.5: the 32
-- hexadecimal digits of an IPv6 address; the last first
unfoldable pub reversed_labels : Address → List (List ℕ)
reversed_labels (V4 a) = last_digits 8 decimal 4 a
reversed_labels (V6 a) = last_digits 4 digit_label 32 a

-- RFC 7208, section 7.2, and RFC 5782, sections 2.1 and 2.4: the reversed name of an address below a name
abbrev pub reversed_name : Address → List (List ℕ) → List (List ℕ)
reversed_name a suffix = reversed_labels a ++ suffix

-- RFC 7208, section 4.6.4, and the project's own choice: the class of an answer
abbrev pub class_of : Answer → Class
class_of Outside = Beyond
class_of NoName = Void
class_of NoData = Void
class_of Loop = Round
class_of (Found bodies) = Hit

-- RFC 7208, sections 5.7 and 7.2: the class of the answer for A at the reversed name of an address below the suffix
unfoldable pub reversed_class : List Zone → List (List ℕ) → Address → Class
reversed_class zones suffix a = class_of (answer_of zones (reversed_name a suffix) kind.A)

-- ---- names at or below which nothing is lent

-- no zone has its origin, and no record its owner, at or below the name
abbrev pub is_bare : List Zone → List (List ℕ) → Bool
is_bare zones name = not (list_any (λ z. is_under z.origin name || has_record z.records name) zones)

-- RFC 4592, section 3.3.1: the deepest name at or above this one that exists
abbrev pub closest_at : Zone → List (List ℕ) → List (List ℕ)
closest_at zone name = if name_exists zone name then name else closest_above zone name

-- RFC 4592, section 3.3.1: the wildcard that stands for the names below this one that do not exist
abbrev pub node_below : Zone → List (List ℕ) → Option (List (List ℕ))
node_below zone name =
    let wildcard = (42 ∷ []) ∷ closest_at zone name in if name_exists zone wildcard then Some wildcard else None

-- RFC 1034, section 4.3.2, and RFC 4592: the answer in the zone that holds the name, at a name below it
abbrev pub below_in_zone : QKind → (List (List ℕ) → Answer) → List (List ℕ) → Option Zone → Answer
below_in_zone kind follow name None = Outside
below_in_zone kind follow name (Some zone) =
    if is_cut_off zone name then Outside else at_node kind follow zone (node_below zone name)

-- RFC 1034, section 4.3.2, and RFC 4592: the answer at any name below this one, at or below which nothing is lent
unfoldable pub answer_below : List Zone → List (List ℕ) → QKind → Answer
answer_below zones name kind =
    below_in_zone kind (λ target. answer_within 7 zones target kind) name (zone_of zones name)

-- ---- names at which something is lent

-- the zone has its origin at the name, or a record its owner
abbrev pub lends_at : Zone → List (List ℕ) → Bool
lends_at zone name = same_name zone.origin name || list_any (λ r. same_name r.owner name) zone.records

-- something is lent at the name
abbrev pub is_lent_at : List Zone → List (List ℕ) → Bool
is_lent_at zones name = list_any (λ z. lends_at z name) zones

-- RFC 1034, section 4.2: the zone has its origin at the name, or an NS record its owner
abbrev pub parts_at : Zone → List (List ℕ) → Bool
parts_at zone name =
    same_name zone.origin name || list_any (λ r. same_name r.owner name && is_delegation r.body) zone.records

-- an origin or a delegation stands at the name
abbrev pub is_parted_at : List Zone → List (List ℕ) → Bool
is_parted_at zones name = list_any (λ z. parts_at z name) zones

-- the names at or below the top at which something is lent, whatever their order
abbrev pub AreNamesUnder : List Zone → List (List ℕ) → List (List (List ℕ)) → Type 0
AreNamesUnder zones top names =
    (name : List (List ℕ)) → list_any (same_name name) names ≡ (is_lent_at zones name && is_under name top)

-- the names at or below the top at which an origin or a delegation stands, whatever their order
abbrev pub ArePartsUnder : List Zone → List (List ℕ) → List (List (List ℕ)) → Type 0
ArePartsUnder zones top names =
    (name : List (List ℕ)) → list_any (same_name name) names ≡ (is_parted_at zones name && is_under name top)

-- RFC 4592, section 2.1.1: nothing is lent at or below the wildcard (`*` is 42) below the name
abbrev pub is_starless : List Zone → List (List ℕ) → Bool
is_starless zones name = is_bare zones ((42 ∷ []) ∷ name)

-- project's own choice: nothing is lent at or below the name; or no origin and no NS record stands at it, and nothing
-- is lent at or below the wildcards below it and below the name above it
abbrev pub is_plain : List Zone → List ℕ → List (List ℕ) → Bool
is_plain zones label above =
    is_bare zones (label ∷ above)
    || (not (is_parted_at zones (label ∷ above)) && is_starless zones (label ∷ above) && is_starless zones above)
