-- The printed form of a name, and the order of names.
use Rattle.std.specs.Prelude.{◌≡◌, ℕ, ◌<◌, ◌≤◌, length, ◌+◌, ◌/◌, ◌%◌, Bool, not, ◌&&◌, List, [], ◌∷◌, map, flat_map}
use Rattle.std.specs.Prelude.{codes, ◌==◌, if◌then◌else◌}
use Rattle.std.specs.List.{AllByRecursion, join_with_byte, list_any}
use Rattle.std.specs.Char.{is_ascii_graphic, to_ascii_lowercase}
use Rattle.std.specs.declared.cmp.Ordering.{Ordering}
use Rattle.std.specs.Ordering.{nat_cmp}
use Rattle.std.specs.Cmp.Lexicographic.{slice_cmp}
use Rattle.dns_name.specs.Name.{IsName}

-- project's own choice: the bytes that have a meaning in a master file
abbrev pub is_special : ℕ → Bool
is_special b = list_any (λ c. c == b) (codes ".\\\";()@$")

-- RFC 1035, section 5.1: `\` and three decimal digits
abbrev pub escaped_byte : ℕ → List ℕ
escaped_byte b = 92 ∷ (48 + b / 100) ∷ (48 + b / 10 % 10) ∷ (48 + b % 10) ∷ []

-- project's own choice: a byte from 33 to 126 without a meaning is printed as itself
abbrev pub is_plain : ℕ → Bool
is_plain b = is_ascii_graphic b && not (is_special b)

-- project's own choice: every other byte is printed escaped
abbrev pub printed_byte : ℕ → List ℕ
printed_byte b = if is_plain b then b ∷ [] else escaped_byte b

-- octets in lower case, no more than a label has
pub record ArePrintable (label : List ℕ) : Type 0 where
  pub octets : AllByRecursion (λ b. b < 256) label
  pub lower : map to_ascii_lowercase label ≡ label
  pub short : length label ≤ 63

-- project's own choice: labels joined by dots without a final dot, and the root as `.`
abbrev pub printed_name : List (List ℕ) → List ℕ
printed_name [] = 46 ∷ []
printed_name (label ∷ name) = join_with_byte 46 (map (λ l. flat_map printed_byte l) (label ∷ name))

-- the text is the printed form of the name
abbrev pub IsPrinted : List ℕ → List (List ℕ) → Type 0
IsPrinted text name = IsName name × (text ≡ printed_name name)

-- project's own choice: names are ordered by the bytes of their printed forms
abbrev pub name_cmp : List (List ℕ) → List (List ℕ) → Ordering
name_cmp a b = slice_cmp nat_cmp (printed_name a) (printed_name b)
