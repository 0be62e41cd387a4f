-- The tree of reversed names below a suffix, and the nodes that lent names lead to. All of it is the project's own, and
-- no contract of another crate speaks of it.
use Rattle.std.specs.Prelude.{◌≡◌, ◌≢◌, ℕ, zero, suc, ◌-◌, ◌*◌, ◌/◌, ◌^◌, ◌<◌, ◌≤◌, ◌==◌, nat_lt, Bool, true, false}
use Rattle.std.specs.Prelude.{not, ◌&&◌, List, [], ◌∷◌, IsTrue, IsFalse, if◌then◌else◌}
use Rattle.std.specs.List.{list_any, All, AllZip}
use Rattle.addr_bits.specs.Address.{bits_of}
use Rattle.addr_bits.specs.declared.address.Family.{Family}
use Rattle.dns_name.specs.Name.{IsUnder, is_under}
use Rattle.zone_answers.specs.declared.answer.QKind.TheVariants as kind
use Rattle.zone_answers.specs.declared.class.Class.{Class}
use Rattle.zone_answers.specs.Zone.{Zone}
use Rattle.zone_answers.specs.Answers.{answer_of}
use Rattle.zone_answers.specs.Reversed.{label_bits, label_count, digits_name, class_of, is_bare, is_parted_at}
use Rattle.zone_answers.specs.Reversed.{answer_below}
use Rattle.reverse_names.specs.declared.path.Reading.{Reading}
use Rattle.reverse_names.specs.declared.path.Path.{Path}

-- the number that the first labels of an address write, as many as told
abbrev pub first_digits : Family → (depth a : ℕ) → ℕ
first_digits f depth a = a / 2 ^ (bits_of f - depth * label_bits f)

-- the name of those labels below the suffix: a node on the way to the address
abbrev pub node_of : Family → List (List ℕ) → (depth a : ℕ) → List (List ℕ)
node_of f suffix depth a = digits_name f depth (first_digits f depth a) suffix

-- what is read of a name's labels from the suffix outward
pub record IsRead (f : Family) (suffix name : List (List ℕ)) (read : Reading) : Type 0 where
  pub depth : read.depth ≤ label_count f
  pub digits : read.digits < 2 ^ (read.depth * label_bits f)
  pub below : (d : ℕ) → d ≤ read.depth
      → IsUnder name (digits_name f d (read.digits / 2 ^ ((read.depth - d) * label_bits f)) suffix)
  pub alone : (d t : ℕ) → d ≤ label_count f → t < 2 ^ (d * label_bits f) → IsUnder name (digits_name f d t suffix)
      → (d ≤ read.depth) × (t ≡ read.digits / 2 ^ ((read.depth - d) * label_bits f))
  pub whole : IsTrue read.whole → name ≡ digits_name f read.depth read.digits suffix
  pub other : IsFalse read.whole → (d t : ℕ) → d ≤ label_count f → t < 2 ^ (d * label_bits f)
      → name ≢ digits_name f d t suffix

-- the node with so many labels on the way to the address is one on the path
abbrev pub reach : Family → (depth a : ℕ) → Path → Bool
reach f depth a path = not (nat_lt path.depth depth) && (first_digits f depth a == first_digits f depth path.start)

-- the path leads to the nodes at or above the name, and no others
pub record IsPath (f : Family) (suffix name : List (List ℕ)) (path : Path) : Type 0 where
  pub within : path.start < 2 ^ bits_of f
  pub on : (d a : ℕ) → d ≤ label_count f → a < 2 ^ bits_of f
      → is_under name (node_of f suffix d a) ≡ reach f d a path

-- the path ends at the node with so many labels on the way to the address
abbrev pub ends : Family → (depth a : ℕ) → Path → Bool
ends f depth a path = (path.depth == depth) && (first_digits f depth a == first_digits f depth path.start)

-- one path for each name, in order
abbrev pub ArePathsTo : Family → List (List ℕ) → List (List (List ℕ)) → List Path → Type 0
ArePathsTo f suffix names paths = AllZip (IsPath f suffix) names paths

-- the paths lead to the nodes at or below which something is lent, and to no others; where none ends, no zone has its
-- origin and no NS record its owner, and nothing is lent at or below the wildcard there
pub record ArePaths (zones : List Zone) (f : Family) (suffix : List (List ℕ)) (paths : List Path) : Type 0 where
  pub within : All (λ path. path.start < 2 ^ bits_of f) paths
  pub bare : (d a : ℕ) → d ≤ label_count f → a < 2 ^ bits_of f
      → is_bare zones (node_of f suffix d a) ≡ not (list_any (reach f d a) paths)
  pub plain : (d a : ℕ) → d < label_count f → a < 2 ^ bits_of f → list_any (ends f d a) paths ≡ false
      → (is_parted_at zones (node_of f suffix d a) ≡ false) × (is_bare zones ((42 ∷ []) ∷ node_of f suffix d a) ≡ true)

-- the class of the answers below a node, at names at or below which nothing is lent; at the node that has all labels of
-- an address, that of the answer there
abbrev pub class_at : List Zone → List (List ℕ) → Family → (depth a : ℕ) → Class
class_at zones suffix f depth a =
    let node = node_of f suffix depth a in
    class_of (if depth == label_count f then answer_of zones node kind.A else answer_below zones node kind.A)

-- the class of the deepest node that is on a path, of those with at most so many labels
abbrev pub deepest : {C : Type 0} → (on : ℕ → Bool) → (class : ℕ → C) → ℕ → C
deepest on class zero = class 0
deepest on class (suc depth) = if on (suc depth) then class (suc depth) else deepest on class depth

-- the same on the way to an address
abbrev pub level : List Zone → List (List ℕ) → Family → List Path → (depth a : ℕ) → Class
level zones suffix f paths depth a =
    deepest (λ d. list_any (reach f d a) paths) (λ d. class_at zones suffix f d a) depth
