-- The nodes on the way to an address, and those on the path to a name.
use Rattle.std.proofs.Common.{◌≡◌, ℕ, zero, suc, ◌+◌, ◌-◌, ◌*◌, ◌/◌, ◌%◌, ◌^◌, ◌<◌, ◌≤◌, Bool, true, not, ◌&&◌, ◌==◌, nat_lt, ◌↔◌, Decides, List, refl, sym, ap, ap₂, ◌∙◌, subst, arith, eq-eqb, le-ltb}
use Rattle.std.proofs.lemmas.Bool.{and_parts, not-true, ltb-false, eqb-true}
use Rattle.std.proofs.lemmas.Bool.Decides.{same_from_decides}
use Rattle.std.proofs.lemmas.Nat.{shl_below, shl_whole, shr_below, shl-shr, shr-shr}
use Rattle.addr_bits.specs.Address.{bits_of}
use Rattle.addr_bits.specs.declared.address.Family.{Family}
use Rattle.addr_bits.specs.declared.address.Family.TheVariants.{V4, V6}
use Rattle.addr_bits.specs.Prefix.{Cidr, Covers}
use Rattle.addr_bits.specs.Width.{cut_of}
use Rattle.dns_name.specs.Name.{IsUnder, is_under}
use Rattle.zone_answers.specs.Reversed.{label_bits, label_count, digits_name}
use Rattle.reverse_names.specs.declared.path.Reading.{Reading}
use Rattle.reverse_names.specs.declared.path.Path.{Path}
use Rattle.reverse_names.specs.Tree.{IsRead, IsPath, first_digits, node_of, reach}
use Rattle.reverse_names.proofs.Digits.{none_below_one}

-- ---- bits

pub fits : (f : Family) (depth : ℕ) → depth ≤ label_count f → depth * label_bits f ≤ bits_of f
fits V4 depth h = omega (arith, h)
fits V6 depth h = omega (arith, h)

pub all_bits : (f : Family) → bits_of f - label_count f * label_bits f ≡ 0
all_bits V4 = refl
all_bits V6 = refl

pub behind_is : (f : Family) (depth : ℕ) → depth ≤ label_count f → (label_count f - depth) * label_bits f ≡ bits_of f - depth * label_bits f
behind_is V4 depth h = omega (arith, h)
behind_is V6 depth h = omega (arith, h)

pub few_digits : (f : Family) (depth a : ℕ) → depth ≤ label_count f → a < 2 ^ bits_of f → first_digits f depth a < 2 ^ (depth * label_bits f)
few_digits f depth a h k =
    let e : depth * label_bits f + (bits_of f - depth * label_bits f) ≡ bits_of f = omega (arith, fits f depth h) in
    shr_below a (depth * label_bits f) (bits_of f - depth * label_bits f) (subst (λ (n : ℕ). a < 2 ^ n) (sym e) k)

-- the first digits of the number that digits begin
pub first_of_start : (f : Family) (d depth digits : ℕ) → d ≤ depth → depth ≤ label_count f
    → first_digits f d (digits * 2 ^ (bits_of f - depth * label_bits f)) ≡ digits / 2 ^ ((depth - d) * label_bits f)
first_of_start f d depth digits h k =
    let e : bits_of f - d * label_bits f ≡ bits_of f - depth * label_bits f + (depth - d) * label_bits f = apart d depth (label_bits f) (bits_of f) h (fits f depth k) in
    ap (λ (n : ℕ). digits * 2 ^ (bits_of f - depth * label_bits f) / 2 ^ n) e
    ∙ sym (shr-shr (digits * 2 ^ (bits_of f - depth * label_bits f)) (bits_of f - depth * label_bits f) ((depth - d) * label_bits f))
    ∙ ap (λ (n : ℕ). n / 2 ^ ((depth - d) * label_bits f)) (shl-shr digits (bits_of f - depth * label_bits f))
  where
    apart : (d depth b bits : ℕ) → d ≤ depth → depth * b ≤ bits → bits - d * b ≡ bits - depth * b + (depth - d) * b
    apart d depth b bits h k =
        let e : depth ≡ d + (depth - d) = omega arith in
        let m : depth * b ≡ d * b + (depth - d) * b = subst (λ (n : ℕ). n * b ≡ d * b + (depth - d) * b) (sym e) (spread d (depth - d) b) in
        omega (arith, m)
      where
        spread : (x y b : ℕ) → (x + y) * b ≡ x * b + y * b
        spread x y b = omega arith

pub start_below : (f : Family) (depth digits : ℕ) → depth ≤ label_count f → digits < 2 ^ (depth * label_bits f) → digits * 2 ^ (bits_of f - depth * label_bits f) < 2 ^ bits_of f
start_below f depth digits h k =
    let e : depth * label_bits f + (bits_of f - depth * label_bits f) ≡ bits_of f = omega (arith, fits f depth h) in
    subst (λ (n : ℕ). digits * 2 ^ (bits_of f - depth * label_bits f) < 2 ^ n) e (shl_below digits (depth * label_bits f) (bits_of f - depth * label_bits f) k)

-- ---- shifts at 128 bits

few_bits : (f : Family) → bits_of f ≤ 128
few_bits V4 = omega arith
few_bits V6 = omega arith

pub shifted : (f : Family) (digits depth : ℕ) → depth < label_count f → digits < 2 ^ (depth * label_bits f) → digits * 2 ^ label_bits f % 2 ^ 128 ≡ digits * 2 ^ label_bits f
shifted f digits depth h k =
    shl_whole digits (depth * label_bits f) (label_bits f) 128 k (room depth (label_bits f) (bits_of f) (fits f (suc depth) h) (few_bits f))
  where
    room : (d b bits : ℕ) → suc d * b ≤ bits → bits ≤ 128 → d * b + b ≤ 128
    room d b bits h k = let e : suc d * b ≡ d * b + b = omega arith in omega (arith, e)

pub aligned : (f : Family) (digits depth behind : ℕ) → depth ≤ label_count f → digits < 2 ^ (depth * label_bits f) → behind ≡ bits_of f - depth * label_bits f
    → digits * 2 ^ behind % 2 ^ 128 ≡ digits * 2 ^ (bits_of f - depth * label_bits f)
aligned f digits depth behind h k e =
    ap (λ (n : ℕ). digits * 2 ^ n % 2 ^ 128) e
    ∙ shl_whole digits (depth * label_bits f) (bits_of f - depth * label_bits f) 128 k (omega (arith, fits f depth h, few_bits f))

pub none_aligned : (f : Family) (digits depth : ℕ) → depth ≡ 0 → digits < 2 ^ (depth * label_bits f) → 0 ≡ digits * 2 ^ (bits_of f - depth * label_bits f)
none_aligned f digits zero e k = sym (zero_times (2 ^ (bits_of f - 0 * label_bits f))) ∙ ap (λ (n : ℕ). n * 2 ^ (bits_of f - 0 * label_bits f)) (sym (none_below_one digits (label_bits f) k))
  where
    zero_times : (m : ℕ) → 0 * m ≡ 0
    zero_times m = omega arith
none_aligned f digits (suc depth) e k = absurd (omega arith)

-- ---- tests

pub reach_says : (f : Family) (depth a : ℕ) (path : Path) → reach f depth a path ≡ true → (depth ≤ path.depth) × (first_digits f depth a ≡ first_digits f depth path.start)
reach_says f depth a path h =
    let p = and_parts (not (nat_lt path.depth depth)) (first_digits f depth a == first_digits f depth path.start) h in
    (ltb-false path.depth depth (not-true (nat_lt path.depth depth) p.0), eqb-true (first_digits f depth a) (first_digits f depth path.start) p.1)

pub reach_if : (f : Family) (depth a : ℕ) (path : Path) → depth ≤ path.depth → first_digits f depth a ≡ first_digits f depth path.start → reach f depth a path ≡ true
reach_if f depth a path h e = ap₂ (λ (x y : Bool). not x && y) (le-ltb path.depth depth h) (eq-eqb (first_digits f depth a) (first_digits f depth path.start) e)

-- ---- the path to a name that was read

pub path_read : (f : Family) (suffix name : List (List ℕ)) (read : Reading) (path : Path) → ((top : List (List ℕ)) → Decides (is_under name top) (IsUnder name top))
    → IsRead f suffix name read → path.depth ≡ read.depth → path.start ≡ read.digits * 2 ^ (bits_of f - read.depth * label_bits f) → IsPath f suffix name path
path_read f suffix name read path decides r same start = record {
  within = subst (λ (n : ℕ). n < 2 ^ bits_of f) (sym start) (start_below f read.depth read.digits r.depth r.digits);
  on = λ d a h k. same_from_decides (is_under name (node_of f suffix d a)) (reach f d a path) (decides (node_of f suffix d a)) (to d a h k, from d a h k);
}
  where
    digits : (d : ℕ) → d ≤ read.depth → first_digits f d path.start ≡ read.digits / 2 ^ ((read.depth - d) * label_bits f)
    digits d h = ap (first_digits f d) start ∙ first_of_start f d read.depth read.digits h r.depth

    to : (d a : ℕ) → d ≤ label_count f → a < 2 ^ bits_of f → reach f d a path ≡ true → IsUnder name (node_of f suffix d a)
    to d a h k t =
        let p = reach_says f d a path t in
        let l : d ≤ read.depth = omega (arith, p.0) in
        subst (λ (n : ℕ). IsUnder name (digits_name f d n suffix)) (sym (p.1 ∙ digits d l)) (r.below d l)

    from : (d a : ℕ) → d ≤ label_count f → a < 2 ^ bits_of f → IsUnder name (node_of f suffix d a) → reach f d a path ≡ true
    from d a h k u =
        let p = r.alone d (first_digits f d a) h (few_digits f d a h k) u in
        reach_if f d a path (omega (arith, p.0)) (p.1 ∙ sym (digits d p.0))

-- ---- the prefix of a node

pub covered : (bits len a b : ℕ) → a / 2 ^ (bits - len) ≡ b / 2 ^ (bits - len) → cut_of bits a len ≡ cut_of bits b len
covered bits len a b e = ap (λ (n : ℕ). n * 2 ^ (bits - len)) e

pub uncovered : (bits len a b : ℕ) → cut_of bits a len ≡ cut_of bits b len → a / 2 ^ (bits - len) ≡ b / 2 ^ (bits - len)
uncovered bits len a b e = sym (shl-shr (a / 2 ^ (bits - len)) (bits - len)) ∙ ap (λ (n : ℕ). n / 2 ^ (bits - len)) e ∙ shl-shr (b / 2 ^ (bits - len)) (bits - len)

-- a prefix of the first bits covers the addresses with the same first digits
pub prefix_covers : (f : Family) (bits depth start x len : ℕ) (p : Cidr) → bits ≡ bits_of f → x ≡ start → len ≡ depth * label_bits f → p ≡ record { start = cut_of bits x len; len = len }
    → (a : ℕ) → Covers bits p a ↔ (first_digits f depth a ≡ first_digits f depth start)
prefix_covers f bits depth start x len p width number long is a = (
  λ c. sym (digits a) ∙ uncovered bits len a x (ap (λ (q : Cidr). cut_of bits a q.len) (sym is) ∙ c ∙ ap (λ (q : Cidr). q.start) is) ∙ digits x ∙ ap (first_digits f depth) number,
  λ e. ap (λ (q : Cidr). cut_of bits a q.len) is ∙ covered bits len a x (digits a ∙ e ∙ ap (first_digits f depth) (sym number) ∙ sym (digits x)) ∙ ap (λ (q : Cidr). q.start) (sym is),
)
  where
    digits : (n : ℕ) → n / 2 ^ (bits - len) ≡ first_digits f depth n
    digits n = ap₂ (λ (b l : ℕ). n / 2 ^ (b - l)) width long
