-- Where the class changes on the way to an address.
use Rattle.std.proofs.Common.{◌≡◌, ◌≢◌, ℕ, zero, suc, ◌+◌, ◌-◌, ◌/◌, ◌<◌, ◌≤◌, ◌^◌, Bool, true, false, not, ◌&&◌, ◌||◌, ◌==◌, List, [], ◌∷◌, ◌++◌, length, take, get_or, Option, Some, refl, sym, ap, ap₂, ◌∙◌, subst, arith, eq-eqb, le-ltb, true≢false}
use Rattle.std.specs.Prelude.{if◌then◌else◌}
use Rattle.std.specs.List.{list_any}
use Rattle.std.proofs.lemmas.Bool.{ne_eqb}
use Rattle.std.proofs.lemmas.List.{get_or_default, take_all}
use Rattle.std.proofs.lemmas.List.Folds.{list_any_at, list_any_more}
use Rattle.addr_bits.specs.Address.{address_of, bits_of}
use Rattle.addr_bits.specs.declared.address.Family.{Family}
use Rattle.addr_bits.specs.declared.address.Family.TheVariants.{V4, V6}
use Rattle.dns_name.specs.Name.{IsUnder}
use Rattle.zone_answers.specs.declared.answer.QKind.TheVariants.{A}
use Rattle.zone_answers.specs.declared.class.Class.{Class}
use Rattle.zone_answers.specs.Zone.{Zone}
use Rattle.zone_answers.specs.Answers.{answer_of}
use Rattle.zone_answers.specs.Reversed.{answer_below, class_of, digits_name, is_bare, is_parted_at, is_plain, label_count, reversed_class, reversed_labels, reversed_name}
use Rattle.zone_answers.proofs.Bare.{bare_alike, plain_alike}
use Rattle.reverse_names.specs.declared.path.Path.{Path}
use Rattle.reverse_names.specs.Tree.{ArePaths, class_at, ends, first_digits, level, node_of, reach}
use Rattle.reverse_names.proofs.Ends.{last_label, node_more, reach_above, same_above}
use Rattle.reverse_names.proofs.Levels.{deepest_is, deepest_more, deepest_on}
use Rattle.reverse_names.proofs.Nodes.{all_bits, reach_says}

-- ---- the class at a node

class_below : (zones : List Zone) (suffix : List (List ℕ)) (f : Family) (d a : ℕ) → d ≢ label_count f → class_at zones suffix f d a ≡ class_of (answer_below zones (node_of f suffix d a) A)
class_below zones suffix f d a ne =
    ap (λ (t : Bool). class_of (if t then answer_of zones (node_of f suffix d a) A else answer_below zones (node_of f suffix d a) A)) (ne_eqb d (label_count f) ne)

class_full : (zones : List Zone) (suffix : List (List ℕ)) (f : Family) (a : ℕ) → class_at zones suffix f (label_count f) a ≡ class_of (answer_of zones (node_of f suffix (label_count f) a) A)
class_full zones suffix f a =
    ap (λ (t : Bool). class_of (if t then answer_of zones (node_of f suffix (label_count f) a) A else answer_below zones (node_of f suffix (label_count f) a) A)) (eq-eqb (label_count f) (label_count f) refl)

-- ---- a node at which no path ends, and none at the node above

ends_alike : (f : Family) (d a b : ℕ) (paths : List Path) → first_digits f d a ≡ first_digits f d b → list_any (ends f d a) paths ≡ list_any (ends f d b) paths
ends_alike f d a b paths e = ap (λ (n : ℕ). list_any (λ (path : Path). (path.depth == d) && (n == first_digits f d path.start)) paths) e

plain_here : (b p s t : Bool) → p ≡ false → s ≡ true → t ≡ true → (b || (not p && s && t)) ≡ true
plain_here true p s t h k l = refl
plain_here false p s t h k l = ap₂ (λ (x y : Bool). x && y) (ap₂ (λ (x y : Bool). not x && y) h k) l

class_alike : (zones : List Zone) (suffix : List (List ℕ)) (f : Family) (paths : List Path) (above a : ℕ) → ArePaths zones f suffix paths → suc above < label_count f → a < 2 ^ bits_of f
    → list_any (ends f above a) paths ≡ false → list_any (ends f (suc above) a) paths ≡ false
    → class_at zones suffix f (suc above) a ≡ class_at zones suffix f above a
class_alike zones suffix f paths above a h few k up here =
    let over = h.plain above a (omega arith) k up in
    let this = h.plain (suc above) a few k here in
    let more : node_of f suffix (suc above) a ≡ last_label f above a ∷ node_of f suffix above a = node_more f suffix above a (omega arith) in
    let plain : is_plain zones (last_label f above a) (node_of f suffix above a) ≡ true =
    plain_here _ _ _ _ (ap (is_parted_at zones) (sym more) ∙ this.0) (ap (λ (n : List (List ℕ)). is_bare zones ((42 ∷ []) ∷ n)) (sym more) ∙ this.1) over.1 in
    class_below zones suffix f (suc above) a (λ e. omega (arith, e))
    ∙ ap (λ (n : List (List ℕ)). class_of (answer_below zones n A)) more
    ∙ ap class_of (plain_alike zones A (last_label f above a) (node_of f suffix above a) plain)
    ∙ sym (class_below zones suffix f above a (λ e. omega (arith, e)))

plain_step : (zones : List Zone) (suffix : List (List ℕ)) (f : Family) (paths : List Path) (path : Path) (above a : ℕ) → ArePaths zones f suffix paths
    → suc above ≤ label_count f → suc above ≢ label_count f → a < 2 ^ bits_of f → (list_any (reach f above a) paths ≡ true) → reach f (suc above) a path ≡ true
    → list_any (ends f above path.start) paths ≡ false → list_any (ends f (suc above) path.start) paths ≡ false
    → class_at zones suffix f (suc above) a ≡ level zones suffix f paths above a
plain_step zones suffix f paths path above a h few ne k on t up here =
    let same : first_digits f (suc above) a ≡ first_digits f (suc above) path.start = (reach_says f (suc above) a path t).1 in
    let over : first_digits f above a ≡ first_digits f above path.start = same_above f above a path.start few same in
    class_alike zones suffix f paths above a h (less (suc above) (label_count f) few ne) k (ends_alike f above a path.start paths over ∙ up) (ends_alike f (suc above) a path.start paths same ∙ here)
    ∙ sym (deepest_on (λ d. list_any (reach f d a) paths) (λ d. class_at zones suffix f d a) above on)
  where
    less : (m n : ℕ) → m ≤ n → m ≢ n → m < n
    less m n h ne = omega arith

-- ---- one path more at a level

level_kept : (s r : Bool) (c l : Class) → (r ≡ true → s ≡ false → c ≡ l) → (if s then c else l) ≡ (if s || r then c else l)
level_kept true r c l h = refl
level_kept false true c l h = sym (h refl refl)
level_kept false false c l h = refl

level_set : (s r : Bool) (c l : Class) → (if r then Some c else Some (if s then c else l)) ≡ Some (if s || r then c else l)
level_set true true c l = refl
level_set true false c l = refl
level_set false true c l = refl
level_set false false c l = refl

-- ---- all levels

whole : (f : Family) (a : ℕ) → first_digits f (label_count f) a ≡ a
whole f a = ap (λ (n : ℕ). a / 2 ^ n) (all_bits f) ∙ over_one a
  where
    over_one : (a : ℕ) → a / 2 ^ 0 ≡ a
    over_one a = omega arith

full_name : (f : Family) (suffix : List (List ℕ)) (a : ℕ) → reversed_name (address_of f a) suffix ≡ digits_name f (label_count f) a suffix
unfolding reversed_labels
full_name V4 suffix a = refl
full_name V6 suffix a = refl

reversed_is : (f : Family) (suffix : List (List ℕ)) (a : ℕ) → reversed_name (address_of f a) suffix ≡ node_of f suffix (label_count f) a
reversed_is f suffix a = full_name f suffix a ∙ ap (λ (n : ℕ). digits_name f (label_count f) n suffix) (sym (whole f a))

-- the nodes further on stand below a node
node_below : (f : Family) (suffix : List (List ℕ)) (d k e a : ℕ) → e ≡ k + d → e ≤ label_count f → IsUnder (node_of f suffix e a) (node_of f suffix d a)
node_below f suffix d zero e a is h = ([], ap (λ (n : ℕ). node_of f suffix n a) (omega (arith, is)))
node_below f suffix d (suc k) zero a is h = absurd (omega (arith, is))
node_below f suffix d (suc k) (suc e) a is h =
    let u = node_below f suffix d k e a (omega (arith, is)) (omega arith) in
    (last_label f e a ∷ u.0, node_more f suffix e a h ∙ ap (λ (n : List (List ℕ)). last_label f e a ∷ n) u.1)

pub all_levels : (zones : List Zone) (suffix : List (List ℕ)) (f : Family) (paths : List Path) (a : ℕ) → ArePaths zones f suffix paths → a < 2 ^ bits_of f
    → level zones suffix f paths (label_count f) a ≡ reversed_class zones suffix (address_of f a)
unfolding reversed_class
all_levels zones suffix f paths a h k =
    deepest_is (λ d. list_any (reach f d a) paths) (λ d. class_at zones suffix f d a) target (label_count f) (some f) bare
    (class_full zones suffix f a ∙ ap (λ (n : List (List ℕ)). class_of (answer_of zones n A)) (sym (reversed_is f suffix a)))
  where
    target : Class
    target = class_of (answer_of zones (reversed_name (address_of f a) suffix) A)

    some : (f : Family) → 0 < label_count f
    some V4 = omega arith
    some V6 = omega arith

    bare : (d : ℕ) → d < label_count f → list_any (reach f (suc d) a) paths ≡ false → class_at zones suffix f d a ≡ target
    bare d l off =
        let more : node_of f suffix (suc d) a ≡ last_label f d a ∷ node_of f suffix d a = node_more f suffix d a (omega arith) in
        let empty : is_bare zones (last_label f d a ∷ node_of f suffix d a) ≡ true = ap (is_bare zones) (sym more) ∙ h.bare (suc d) a (omega arith) k ∙ ap not off in
        let u = node_below f suffix (suc d) (label_count f - suc d) (label_count f) a (omega arith) (omega arith) in
        class_below zones suffix f d a (λ e. omega (arith, e))
        ∙ ap class_of (sym (bare_alike zones A u.0 (last_label f d a) (node_of f suffix d a) empty))
        ∙ ap (λ (n : List (List ℕ)). class_of (answer_of zones n A)) (sym (reversed_is f suffix a ∙ u.1 ∙ ap (λ (n : List (List ℕ)). u.0 ++ n) more))

-- ---- one path more in the loop

more_reached : (f : Family) (depth a : ℕ) (paths : List Path) (i : ℕ) (path : Path) → i < length paths → path ≡ get_or paths i path
    → list_any (reach f depth a) (take (i + 1) paths) ≡ (list_any (reach f depth a) (take i paths) || reach f depth a path)
more_reached f depth a paths i path h is =
    list_any_more (reach f depth a) paths i path h ∙ ap (λ (p : Path). list_any (reach f depth a) (take i paths) || reach f depth a p) (sym is)

step_set : (f : Family) (depth a : ℕ) (paths : List Path) (i : ℕ) (path : Path) (c l : Class) (old new : Option Class) → i < length paths → path ≡ get_or paths i path → depth ≤ path.depth
    → old ≡ Some (if list_any (reach f depth a) (take i paths) then c else l) → new ≡ (if first_digits f depth a == first_digits f depth path.start then Some c else old)
    → new ≡ Some (if list_any (reach f depth a) (take (i + 1) paths) then c else l)
step_set f depth a paths i path c l old new h is deep so_far put =
    let reached : (first_digits f depth a == first_digits f depth path.start) ≡ reach f depth a path = ap (λ (t : Bool). not t && (first_digits f depth a == first_digits f depth path.start)) (sym (le-ltb path.depth depth deep)) in
    put ∙ ap (λ (o : Option Class). if first_digits f depth a == first_digits f depth path.start then Some c else o) so_far
    ∙ ap (λ (t : Bool). if t then Some c else Some (if list_any (reach f depth a) (take i paths) then c else l)) reached
    ∙ level_set (list_any (reach f depth a) (take i paths)) (reach f depth a path) c l
    ∙ ap (λ (t : Bool). Some (if t then c else l)) (sym (more_reached f depth a paths i path h is))

step_kept : (f : Family) (depth a : ℕ) (paths : List Path) (i : ℕ) (path : Path) (c l : Class) (old : Option Class) → i < length paths → path ≡ get_or paths i path
    → old ≡ Some (if list_any (reach f depth a) (take i paths) then c else l) → (reach f depth a path ≡ true → list_any (reach f depth a) (take i paths) ≡ false → c ≡ l)
    → old ≡ Some (if list_any (reach f depth a) (take (i + 1) paths) then c else l)
step_kept f depth a paths i path c l old h is so_far same =
    so_far ∙ ap Some (level_kept (list_any (reach f depth a) (take i paths)) (reach f depth a path) c l same)
    ∙ ap (λ (t : Bool). Some (if t then c else l)) (sym (more_reached f depth a paths i path h is))

-- the three cases in which nothing is set
too_short : (f : Family) (depth a : ℕ) (path : Path) (c l : Class) (s : Bool) → path.depth < depth → reach f depth a path ≡ true → s ≡ false → c ≡ l
too_short f depth a path c l s short t off = absurd (omega (arith, (reach_says f depth a path t).0))

some_same : (x y : Bool) → Some x ≡ Some y → x ≡ y
some_same x y e = cc

not_stop : (zones : List Zone) (suffix : List (List ℕ)) (f : Family) (paths : List Path) (i : ℕ) (path : Path) (above depth a : ℕ) (up here : Option Bool) → ArePaths zones f suffix paths
    → depth ≡ above + 1 → above < label_count f → depth ≢ label_count f → a < 2 ^ bits_of f → i < length paths → path ≡ get_or paths i path
    → up ≡ Some (list_any (ends f above path.start) paths) → up ≡ Some false → here ≡ Some (list_any (ends f depth path.start) paths) → here ≡ Some false
    → reach f depth a path ≡ true → class_at zones suffix f depth a ≡ level zones suffix f paths above a
not_stop zones suffix f paths i path above zero a up here h next few ne k in' is u u' v v' t = absurd (omega (arith, next))
not_stop zones suffix f paths i path above (suc depth) a up here h next few ne k in' is u u' v v' t =
    let same : depth ≡ above = omega (arith, next) in
    let t' : reach f (suc above) a path ≡ true = subst (λ (n : ℕ). reach f (suc n) a path ≡ true) same t in
    let over : reach f above a path ≡ true = reach_above f above a path few t' in
    let on : list_any (reach f above a) paths ≡ true = list_any_at (reach f above a) paths i path in' (ap (reach f above a) (sym is) ∙ over) in
    let off : list_any (ends f above path.start) paths ≡ false = some_same _ _ (sym u ∙ u') in
    let off' : list_any (ends f (suc depth) path.start) paths ≡ false = some_same _ _ (sym v ∙ v') in
    ap (λ (n : ℕ). class_at zones suffix f (suc n) a) same
    ∙ plain_step zones suffix f paths path above a h few (λ e. ne (ap suc same ∙ e)) k on t' off (subst (λ (n : ℕ). list_any (ends f (suc n) path.start) paths ≡ false) same off')

-- ---- the same at the path at a place of the list

pub set_at : (f : Family) (depth a : ℕ) (paths : List Path) (i : ℕ) (d : Path) (c l : Class) (old new : Option Class) → i < length paths → depth ≤ (get_or paths i d).depth
    → new ≡ (if first_digits f depth a == first_digits f depth (get_or paths i d).start then Some c else old)
    → old ≡ Some (if list_any (reach f depth a) (take i paths) then c else l) → new ≡ Some (if list_any (reach f depth a) (take (i + 1) paths) then c else l)
set_at f depth a paths i d c l old new h deep put so_far =
    step_set f depth a paths i (get_or paths i d) c l old new h (get_or_default paths i d (get_or paths i d) h) deep so_far put

pub short_at : (f : Family) (depth a : ℕ) (paths : List Path) (i : ℕ) (d : Path) (c l : Class) (old : Option Class) → i < length paths → (get_or paths i d).depth < depth
    → old ≡ Some (if list_any (reach f depth a) (take i paths) then c else l) → old ≡ Some (if list_any (reach f depth a) (take (i + 1) paths) then c else l)
short_at f depth a paths i d c l old h short so_far =
    step_kept f depth a paths i (get_or paths i d) c l old h (get_or_default paths i d (get_or paths i d) h) so_far (too_short f depth a (get_or paths i d) c l (list_any (reach f depth a) (take i paths)) short)

pub stale_at : (f g : Family) (depth a : ℕ) (paths : List Path) (i : ℕ) (d : Path) (c l : Class) (old : Option Class) → g ≡ f → i < length paths
    → (reach g depth a (get_or paths i d) ≡ true → list_any (reach g depth a) (take i paths) ≡ true)
    → old ≡ Some (if list_any (reach f depth a) (take i paths) then c else l) → old ≡ Some (if list_any (reach f depth a) (take (i + 1) paths) then c else l)
stale_at f g depth a paths i d c l old same h says so_far =
    let says' : reach f depth a (get_or paths i d) ≡ true → list_any (reach f depth a) (take i paths) ≡ true =
    subst (λ (k : Family). reach k depth a (get_or paths i d) ≡ true → list_any (reach k depth a) (take i paths) ≡ true) same says in
    step_kept f depth a paths i (get_or paths i d) c l old h (get_or_default paths i d (get_or paths i d) h) so_far (λ t off. absurd (true≢false (sym (says' t) ∙ off)))

pub plain_at : (zones : List Zone) (suffix : List (List ℕ)) (f : Family) (paths : List Path) (i : ℕ) (d : Path) (above a : ℕ) (up here : Option Bool) (old : Option Class) → ArePaths zones f suffix paths
    → above < label_count f → a < 2 ^ bits_of f → i < length paths → above + 1 ≢ label_count f
    → up ≡ Some false → up ≡ Some (list_any (ends f above (get_or paths i d).start) paths)
    → here ≡ Some false → here ≡ Some (list_any (ends f (above + 1) (get_or paths i d).start) paths)
    → old ≡ Some (if list_any (reach f (above + 1) a) (take i paths) then class_at zones suffix f (above + 1) a else level zones suffix f paths above a)
    → old ≡ Some (if list_any (reach f (above + 1) a) (take (i + 1) paths) then class_at zones suffix f (above + 1) a else level zones suffix f paths above a)
plain_at zones suffix f paths i d above a up here old p few k h ne u' u v' v so_far =
    step_kept f (above + 1) a paths i (get_or paths i d) _ _ old h (get_or_default paths i d (get_or paths i d) h) so_far
    (λ t off. not_stop zones suffix f paths i (get_or paths i d) above (above + 1) a up here p refl few ne k h (get_or_default paths i d (get_or paths i d) h) u u' v v' t)

pub start_at : (zones : List Zone) (suffix : List (List ℕ)) (f : Family) (bits : ℕ) (paths : List Path) (i : ℕ) (d : Path) → bits ≡ bits_of f → ArePaths zones f suffix paths → i < length paths
    → (get_or paths i d).start < 2 ^ bits
start_at zones suffix f bits paths i d width p h = subst (λ (n : ℕ). (get_or paths i d).start < 2 ^ n) (sym width) (p.within i d h)

-- all paths of a level
pub level_done : (zones : List Zone) (suffix : List (List ℕ)) (f : Family) (paths : List Path) (above i a : ℕ) → i ≡ length paths
    → (if list_any (reach f (above + 1) a) (take i paths) then class_at zones suffix f (above + 1) a else level zones suffix f paths above a) ≡ level zones suffix f paths (above + 1) a
level_done zones suffix f paths above i a all =
    ap (λ (k : ℕ). if list_any (reach f (above + 1) a) (take k paths) then class_at zones suffix f (above + 1) a else level zones suffix f paths above a) all
    ∙ ap (λ (ps : List Path). if list_any (reach f (above + 1) a) ps then class_at zones suffix f (above + 1) a else level zones suffix f paths above a) (take_all (length paths) paths (omega arith))
    ∙ sym (deepest_more (λ d. list_any (reach f d a) paths) (λ d. class_at zones suffix f d a) above (above + 1) refl)
