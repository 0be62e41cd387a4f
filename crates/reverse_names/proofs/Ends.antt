-- Where paths end, and what is lent there.
use Rattle.std.proofs.Common.{◌≡◌, ◌≢◌, ℕ, zero, suc, ◌+◌, ◌-◌, ◌*◌, ◌/◌, ◌%◌, ◌^◌, ◌<◌, ◌≤◌, Bool, true, false, ◌&&◌, Decides, List, [], ◌∷◌, ◌++◌, length, get_or, refl, sym, ap, ap₂, ◌∙◌, subst, arith, eq-eqb, length-append, decimal, true≢false}
use Rattle.std.specs.Char.{digit_char, digit_value}
use Rattle.std.proofs.lemmas.Nat.{shr-shr, mod_below, pow_pos}
use Rattle.std.proofs.lemmas.Fmt.{decimal_digit, first_decimal}
use Rattle.std.proofs.lemmas.Str.{digit_value-digit_char}
use Rattle.addr_bits.specs.Address.{bits_of}
use Rattle.addr_bits.specs.declared.address.Family.{Family}
use Rattle.addr_bits.specs.declared.address.Family.TheVariants.{V4, V6}
use Rattle.dns_name.specs.Name.{IsUnder, is_under}
use Rattle.zone_answers.specs.Reversed.{label_bits, label_count, label_of, digits_name}
use Rattle.reverse_names.specs.declared.path.Path.{Path}
use Rattle.reverse_names.specs.Tree.{IsPath, first_digits, node_of, reach, ends}
use Rattle.reverse_names.proofs.Nodes.{fits, reach_says, reach_if}

-- ---- a node below a node

-- the number that one label less writes
pub digits_above : (f : Family) (d a : ℕ) → suc d ≤ label_count f → first_digits f (suc d) a / 2 ^ label_bits f ≡ first_digits f d a
digits_above f d a h =
    let e : bits_of f - suc d * label_bits f + label_bits f ≡ bits_of f - d * label_bits f = wider d (label_bits f) (bits_of f) (fits f (suc d) h) in
    shr-shr a (bits_of f - suc d * label_bits f) (label_bits f) ∙ ap (λ (n : ℕ). a / 2 ^ n) e
  where
    wider : (d b bits : ℕ) → suc d * b ≤ bits → bits - suc d * b + b ≡ bits - d * b
    wider d b bits h = let e : suc d * b ≡ d * b + b = omega arith in omega (arith, e)

abbrev pub last_label : Family → (d a : ℕ) → List ℕ
last_label f d a = label_of f (first_digits f (suc d) a % 2 ^ label_bits f)

pub node_more : (f : Family) (suffix : List (List ℕ)) (d a : ℕ) → suc d ≤ label_count f → node_of f suffix (suc d) a ≡ last_label f d a ∷ node_of f suffix d a
node_more f suffix d a h = ap (λ (n : ℕ). last_label f d a ∷ digits_name f d n suffix) (digits_above f d a h)

-- the same digits in front are the same digits further in front
pub same_above : (f : Family) (d a b : ℕ) → suc d ≤ label_count f → first_digits f (suc d) a ≡ first_digits f (suc d) b → first_digits f d a ≡ first_digits f d b
same_above f d a b h e = sym (digits_above f d a h) ∙ ap (λ (n : ℕ). n / 2 ^ label_bits f) e ∙ digits_above f d b h

pub reach_above : (f : Family) (d a : ℕ) (path : Path) → suc d ≤ label_count f → reach f (suc d) a path ≡ true → reach f d a path ≡ true
reach_above f d a path h t =
    let p = reach_says f (suc d) a path t in
    reach_if f d a path (omega (arith, p.0)) (same_above f d a path.start h p.1)

-- ---- no label of an address is a wildcard

star_char : (n : ℕ) → n < 16 → digit_char n ≢ 42
star_char n h e = let v : digit_value 42 ≡ n = ap digit_value (sym e) ∙ digit_value-digit_char n (omega arith) in omega (arith, v)

star_decimal : (n : ℕ) → n < 256 → decimal n ≢ 42 ∷ []
star_decimal zero h e = let d : decimal 0 ≡ 48 ∷ [] = decimal_digit 0 (omega arith) in let c : 48 ∷ [] ≡ 42 ∷ [] = sym d ∙ e in omega (arith, ap (λ (l : List ℕ). get_or l 0 0) c)
star_decimal (suc n) h e =
    let b : 48 < get_or (decimal (suc n)) 0 0 = first_decimal (suc n) (omega arith) (omega arith) in
    omega (arith, ap (λ (l : List ℕ). get_or l 0 0) e)

pub no_star : (f : Family) (digit : ℕ) → digit < 2 ^ label_bits f → label_of f digit ≢ 42 ∷ []
no_star V4 n h e = star_decimal n (omega arith) e
no_star V6 n h e = star_char n (omega arith) cc

-- ---- a path that reaches a node and does not end there goes on below it

pub ends_says : (f : Family) (d a : ℕ) (path : Path) → ends f d a path ≡ false → reach f d a path ≡ true → d < path.depth
ends_says f d a path off t =
    let p = reach_says f d a path t in
    more d path.depth p.0 (λ e. true≢false (sym (ap₂ (λ (x y : Bool). x && y) (eq-eqb path.depth d (sym e)) (eq-eqb (first_digits f d a) (first_digits f d path.start) p.1)) ∙ off))
  where
    more : (d k : ℕ) → d ≤ k → (d ≡ k → ⊥) → d < k
    more zero zero h ne = absurd (ne refl)
    more zero (suc k) h ne = omega arith
    more (suc d) zero h ne = absurd (omega arith)
    more (suc d) (suc k) h ne = let l : d < k = more d k (omega arith) (λ e. ne (ap suc e)) in omega (arith, l)

same_tail : (x y : List (List ℕ)) (a b : List ℕ) (top : List (List ℕ)) → x ++ a ∷ top ≡ y ++ b ∷ top → a ≡ b
same_tail [] [] a b top e = cc
same_tail [] (v ∷ y) a b top e = absurd (omega (arith, ap length e, length-append y (b ∷ top)))
same_tail (u ∷ x) [] a b top e = absurd (omega (arith, ap length e, length-append x (a ∷ top)))
same_tail (u ∷ x) (v ∷ y) a b top e = same_tail x y a b top cc

-- at a node where no path ends the name does not stand, and not at or below the wildcard there
pub goes_on : (f : Family) (suffix name : List (List ℕ)) (path : Path) (d a : ℕ) → ((n top : List (List ℕ)) → Decides (is_under n top) (IsUnder n top))
    → IsPath f suffix name path → d < label_count f → a < 2 ^ bits_of f → ends f d a path ≡ false
    → (name ≢ node_of f suffix d a) × (¬ IsUnder name ((42 ∷ []) ∷ node_of f suffix d a))
goes_on f suffix name path d a decides p h k off = (λ e. short e, λ u. star u)
  where
    deeper : IsUnder name (node_of f suffix d a) → IsUnder name (last_label f d path.start ∷ node_of f suffix d a)
    deeper u =
        let t : reach f d a path ≡ true = sym (p.on d a (omega arith) k) ∙ (decides name (node_of f suffix d a)).1 u in
        let r = reach_says f d a path t in
        let more : reach f (suc d) path.start path ≡ true = reach_if f (suc d) path.start path (ends_says f d a path off t) refl in
        let v : IsUnder name (node_of f suffix (suc d) path.start) = (decides name (node_of f suffix (suc d) path.start)).0 (p.on (suc d) path.start (omega arith) p.within ∙ more) in
        subst (λ (n : List (List ℕ)). IsUnder name n) (node_more f suffix d path.start (omega arith) ∙ ap (λ (n : ℕ). last_label f d path.start ∷ digits_name f d n suffix) (sym r.1)) v

    short : name ≢ node_of f suffix d a
    short e =
        let u = deeper ([], e) in
        omega (arith, ap length e, ap length u.1, length-append u.0 (last_label f d path.start ∷ node_of f suffix d a))

    unlike : last_label f d path.start ≢ 42 ∷ []
    unlike e = no_star f (first_digits f (suc d) path.start % 2 ^ label_bits f) (mod_below (first_digits f (suc d) path.start) (2 ^ label_bits f) (pow_pos (label_bits f))) e

    star : IsUnder name ((42 ∷ []) ∷ node_of f suffix d a) → ⊥
    star (front, e) =
        let u = deeper (front ++ (42 ∷ []) ∷ [], e ∙ push front (42 ∷ []) (node_of f suffix d a)) in
        unlike (same_tail u.0 front (last_label f d path.start) (42 ∷ []) (node_of f suffix d a) (sym u.1 ∙ e))
      where
        push : (x : List (List ℕ)) (l : List ℕ) (top : List (List ℕ)) → x ++ l ∷ top ≡ (x ++ l ∷ []) ++ top
        push [] l top = refl
        push (y ∷ x) l top = ap (λ (n : List (List ℕ)). y ∷ n) (push x l top)
