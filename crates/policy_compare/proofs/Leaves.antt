-- The addresses of the leaves that have a pair are those that pass its test.
use Rattle.std.proofs.Common.{◌≡◌, ℕ, ◌+◌, ◌-◌, ◌^◌, ◌<◌, ◌≤◌, Bool, true, false, List, [], ◌∷◌, ◌++◌, length, take, drop, get_or, refl, sym, ap, ap₂, ◌∙◌, subst, inl, inr, ◌*◌, ◌%◌, arith}
use Rattle.std.specs.Prelude.{if◌then◌else◌}
use Rattle.std.proofs.lemmas.List.{take_more, take-append-drop}
use Rattle.std.proofs.Math.Pow.{pow-lt}
use Rattle.std.proofs.lemmas.Bool.{eq-eqb, ne_eqb, cases_order, false≢true}
use Rattle.addr_bits.specs.Width.{cut_of}
use Rattle.addr_bits.specs.Prefix.{Cidr, IsCidr}
use Rattle.addr_bits.proofs.Cidrs.{range_from_Covers, Covers-from_range}
use Rattle.prefix_trie.specs.Leaves.{value_at, CoverInOrder, SameLeaves}
use Rattle.spf_grammar.specs.declared.verdict.Verdict.{Verdict}
use Rattle.policy_compare.specs.Changes.{count_in, has_both, PassAll}
use Rattle.policy_compare.specs.Pairs.{is_pair, is_pair_there, matched, ArePairs}
use Rattle.policy_compare.specs.declared.pairs.Pair.{Pair}
use Rattle.policy_compare.proofs.Counting.{count_from, count_both, count_same, count_all, count_none, count_family, count_less}

-- whether the pair at an address of the leaves is this one
abbrev there : (bits : ℕ) → Pair → List (Cidr × Pair) → ℕ → Bool
there bits p leaves a = is_pair_there p (value_at bits leaves a)

cover_rises : (bits from to : ℕ) (leaves : List (Cidr × Pair)) → CoverInOrder bits from to leaves → from ≤ to
cover_rises bits from to [] c = omega (arith, c)
cover_rises bits from to (leaf ∷ leaves) c = omega (arith, cover_rises bits (from + 2 ^ (bits - leaf.0.len)) to leaves c.2)

-- the addresses of the first leaf
in_first : (bits : ℕ) (p : Pair) (leaf : Cidr × Pair) (leaves : List (Cidr × Pair)) (a : ℕ) → IsCidr bits leaf.0 → leaf.0.start ≤ a → a < leaf.0.start + 2 ^ (bits - leaf.0.len)
    → there bits p (leaf ∷ leaves) a ≡ is_pair leaf.1 p
in_first bits p leaf leaves a one from to = rw (eq-eqb (cut_of bits a leaf.0.len) leaf.0.start (Covers-from_range bits leaf.0 a one from to)) refl

-- and those behind it
behind_first : (bits : ℕ) (p : Pair) (leaf : Cidr × Pair) (leaves : List (Cidr × Pair)) (a : ℕ) → leaf.0.start + 2 ^ (bits - leaf.0.len) ≤ a
    → there bits p (leaf ∷ leaves) a ≡ there bits p leaves a
behind_first bits p leaf leaves a from =
    rw (ne_eqb (cut_of bits a leaf.0.len) leaf.0.start (λ covers. let r = range_from_Covers bits leaf.0 a covers in omega (arith, r.1, from))) refl

all_or_none : (test : ℕ → Bool) (b : Bool) (start size : ℕ) → ((a : ℕ) → start ≤ a → a < start + size → test a ≡ b) → count_from test start size ≡ (if b then size else 0)
all_or_none test true start size h = count_all test start size h
all_or_none test false start size h = count_none test start size h

matched_from : (bits from to : ℕ) (p : Pair) (leaves : List (Cidr × Pair)) → CoverInOrder bits from to leaves → count_from (there bits p leaves) from (to - from) ≡ matched bits p leaves
unfolding count_from
matched_from bits from to p [] c =
    let none : to - from ≡ 0 = omega (arith, c) in
    ap (λ (k : ℕ). count_from (there bits p []) from k) none
matched_from bits from to p (leaf ∷ leaves) c =
    let size : ℕ = 2 ^ (bits - leaf.0.len) in
    let room : from + size ≤ to = cover_rises bits (from + size) to leaves c.2 in
    let parts : to - from ≡ size + (to - (from + size)) = omega (arith, room) in
    let first : count_from (there bits p (leaf ∷ leaves)) from size ≡ (if is_pair leaf.1 p then size else 0) =
    all_or_none (there bits p (leaf ∷ leaves)) (is_pair leaf.1 p) from size
    (λ a low high. in_first bits p leaf leaves a c.0 (omega (arith, c.1, low)) (omega (arith, c.1, high))) in
    let rest : count_from (there bits p (leaf ∷ leaves)) (from + size) (to - (from + size)) ≡ matched bits p leaves =
    count_same (there bits p (leaf ∷ leaves)) (there bits p leaves) (from + size) (to - (from + size))
    (λ a low high. behind_first bits p leaf leaves a (omega (arith, c.1, low)))
    ∙ matched_from bits (from + size) to p leaves c.2 in
    ap (λ (k : ℕ). count_from (there bits p (leaf ∷ leaves)) from k) parts
    ∙ (count_both (there bits p (leaf ∷ leaves)) from size (to - (from + size)) ∙ ap₂ (λ (a b : ℕ). a + b) first rest)

-- ---- the leaves of a family
matched_all : (bits : ℕ) (p : Pair) (leaves : List (Cidr × Pair)) → CoverInOrder bits 0 (2 ^ bits) leaves → count_from (there bits p leaves) 0 (2 ^ bits) ≡ matched bits p leaves
matched_all bits p leaves c =
    let size : 2 ^ bits - 0 ≡ 2 ^ bits = omega arith in
    sym (ap (λ (k : ℕ). count_from (there bits p leaves) 0 k) size) ∙ matched_from bits 0 (2 ^ bits) p leaves c

pair_there : (v w : ℕ → Verdict) (bits : ℕ) (p : Pair) (leaves : List (Cidr × Pair)) → ArePairs bits v w leaves → (a : ℕ) → a < 2 ^ bits → there bits p leaves a ≡ has_both v w p.one p.two a
pair_there v w bits p leaves are a below = ap (is_pair_there p) (are a below)

-- they are counted by prefixes
pub matched_counts : (v w : ℕ → Verdict) (bits : ℕ) (p : Pair) (leaves : List (Cidr × Pair)) → CoverInOrder bits 0 (2 ^ bits) leaves → ArePairs bits v w leaves
    → matched bits p leaves ≡ count_in (has_both v w p.one p.two) bits 0
matched_counts v w bits p leaves c are =
    sym (matched_all bits p leaves c)
    ∙ (count_same (there bits p leaves) (has_both v w p.one p.two) 0 (2 ^ bits) (λ a low high. pair_there v w bits p leaves are a (omega (arith, high)))
    ∙ sym (count_family (has_both v w p.one p.two) bits))

-- and are not all where one address has another pair
pub matched_fits : (bits : ℕ) (p : Pair) (leaves : List (Cidr × Pair)) (a : ℕ) → CoverInOrder bits 0 (2 ^ bits) leaves → a < 2 ^ bits → there bits p leaves a ≡ false → matched bits p leaves < 2 ^ bits
matched_fits bits p leaves a c below other =
    subst (λ (k : ℕ). k < 2 ^ bits) (matched_all bits p leaves c) (count_less (there bits p leaves) 0 (2 ^ bits) a (omega arith) (omega (arith, below)) other)

-- ---- the first leaves
matched_both : (bits : ℕ) (p : Pair) (xs ys : List (Cidr × Pair)) → matched bits p (xs ++ ys) ≡ matched bits p xs + matched bits p ys
matched_both bits p [] ys = omega arith
matched_both bits p (x ∷ xs) ys = omega (arith, matched_both bits p xs ys)

pub matched_more : (bits : ℕ) (p : Pair) (leaves : List (Cidr × Pair)) (i : ℕ) (leaf : Cidr × Pair) → i < length leaves → get_or leaves i leaf ≡ leaf
    → matched bits p (take (i + 1) leaves) ≡ matched bits p (take i leaves) + (if is_pair leaf.1 p then 2 ^ (bits - leaf.0.len) else 0)
matched_more bits p leaves i leaf within is =
    ap (matched bits p) (take_more leaves i leaf within)
    ∙ (matched_both bits p (take i leaves) (get_or leaves i leaf ∷ [])
    ∙ (ap (λ (l : Cidr × Pair). matched bits p (take i leaves) + matched bits p (l ∷ [])) is ∙ omega arith))

pub matched_part : (bits : ℕ) (p : Pair) (leaves : List (Cidr × Pair)) (i : ℕ) → matched bits p (take i leaves) ≤ matched bits p leaves
matched_part bits p leaves i = omega (arith, matched_both bits p (take i leaves) (drop i leaves), ap (matched bits p) (take-append-drop i leaves))

-- ---- what a leaf adds
power_below : (k b : ℕ) → 2 ^ k < 2 ^ b → k < b
power_below k b h = elim (cases_order k b) [
  | inl equal ↦ absurd (omega (arith, h, ap (λ (n : ℕ). 2 ^ n) equal))
  | inr other ↦ elim other [ inl less ↦ less | inr more ↦ absurd (omega (arith, h, pow-lt more)) ]
]

pub matched_next : (bits : ℕ) (p : Pair) (leaves : List (Cidr × Pair)) (i : ℕ) (leaf : Cidr × Pair) (b : Bool) → i < length leaves → leaf ≡ get_or leaves i leaf → b ≡ is_pair leaf.1 p
    → matched bits p (take (i + 1) leaves) ≡ matched bits p (take i leaves) + (if b then 2 ^ (bits - leaf.0.len) else 0)
matched_next bits p leaves i leaf b within is test =
    matched_more bits p leaves i leaf within (sym is) ∙ ap (λ (c : Bool). matched bits p (take i leaves) + (if c then 2 ^ (bits - leaf.0.len) else 0)) (sym test)

leaf_room : (bits : ℕ) (p : Pair) (leaves : List (Cidr × Pair)) (i : ℕ) (leaf : Cidr × Pair) (most : ℕ) → i < length leaves → leaf ≡ get_or leaves i leaf → true ≡ is_pair leaf.1 p
    → matched bits p leaves < most → matched bits p (take i leaves) + 2 ^ (bits - leaf.0.len) < most
leaf_room bits p leaves i leaf most within is test few = omega (arith, few, matched_next bits p leaves i leaf true within is test, matched_part bits p leaves (i + 1))

pub shift_fits : (bits : ℕ) (p : Pair) (leaves : List (Cidr × Pair)) (i : ℕ) (leaf : Cidr × Pair) → i < length leaves → leaf ≡ get_or leaves i leaf → true ≡ is_pair leaf.1 p
    → matched bits p leaves < 2 ^ 128 → bits - leaf.0.len < 128
shift_fits bits p leaves i leaf within is test few =
    let room = leaf_room bits p leaves i leaf (2 ^ 128) within is test few in
    power_below (bits - leaf.0.len) 128 (omega (arith, room))

pub sum_fits : (bits : ℕ) (p : Pair) (leaves : List (Cidr × Pair)) (i : ℕ) (leaf : Cidr × Pair) (k count : ℕ) → i < length leaves → leaf ≡ get_or leaves i leaf → true ≡ is_pair leaf.1 p
    → matched bits p leaves < 2 ^ 128 → count ≡ matched bits p (take i leaves) → k ≡ bits - leaf.0.len → count + 1 * 2 ^ k % 2 ^ 128 < 2 ^ 128
sum_fits bits p leaves i leaf k count within is test few so_far size =
    let room = leaf_room bits p leaves i leaf (2 ^ 128) within is test few in
    let power : 2 ^ k ≡ 2 ^ (bits - leaf.0.len) = ap (λ (n : ℕ). 2 ^ n) size in
    omega (arith, room, so_far, power)

pub sum_is : (bits : ℕ) (p : Pair) (leaves : List (Cidr × Pair)) (i : ℕ) (leaf : Cidr × Pair) (k count : ℕ) → i < length leaves → leaf ≡ get_or leaves i leaf → true ≡ is_pair leaf.1 p
    → matched bits p leaves < 2 ^ 128 → count ≡ matched bits p (take i leaves) → k ≡ bits - leaf.0.len → count + 1 * 2 ^ k % 2 ^ 128 ≡ matched bits p (take (i + 1) leaves)
sum_is bits p leaves i leaf k count within is test few so_far size =
    let room = leaf_room bits p leaves i leaf (2 ^ 128) within is test few in
    let power : 2 ^ k ≡ 2 ^ (bits - leaf.0.len) = ap (λ (n : ℕ). 2 ^ n) size in
    omega (arith, room, so_far, power, matched_next bits p leaves i leaf true within is test)

-- ---- the count of a pair
pub few_matched : (bits : ℕ) (p : Pair) (both leaves : List (Cidr × Pair)) (a : ℕ) → bits ≤ 128 → leaves ≡ both → CoverInOrder bits 0 (2 ^ bits) both → a < 2 ^ bits
    → is_pair_there p (value_at bits both a) ≡ false → matched bits p leaves < 2 ^ 128
few_matched bits p both leaves a few same cover below other =
    let fits : matched bits p both < 2 ^ bits = matched_fits bits p both a cover below other in
    let most : 2 ^ bits ≤ 2 ^ 128 = pow_at_most bits 128 few in
    subst (λ (ls : List (Cidr × Pair)). matched bits p ls < 2 ^ 128) (sym same) (omega (arith, fits, most))
  where
    pow_at_most : (k b : ℕ) → k ≤ b → 2 ^ k ≤ 2 ^ b
    pow_at_most k b le = elim (cases_order k b) [
      | inl equal ↦ omega (arith, ap (λ (n : ℕ). 2 ^ n) equal)
      | inr h ↦ elim h [ inl less ↦ omega (arith, pow-lt less) | inr more ↦ absurd (omega (arith, le, more)) ]
    ]

pub counted_some : (bits : ℕ) (p : Pair) (both leaves : List (Cidr × Pair)) (a n : ℕ) → leaves ≡ both → CoverInOrder bits 0 (2 ^ bits) both → a < 2 ^ bits
    → is_pair_there p (value_at bits both a) ≡ false → n ≡ matched bits p leaves
    → (v w : ℕ → Verdict) → ArePairs bits v w both → (n ≡ count_in (has_both v w p.one p.two) bits 0) × (PassAll bits (has_both v w p.one p.two) → ⊥)
counted_some bits p both leaves a n same cover below other is v w are = (
  is ∙ (ap (matched bits p) same ∙ matched_counts v w bits p both cover are),
  λ all. false≢true (sym other ∙ (pair_there v w bits p both are a below ∙ all a below)),
)

pub counted_all : (bits : ℕ) (p : Pair) (both : List (Cidr × Pair)) → ((a : ℕ) → a < 2 ^ bits → is_pair_there p (value_at bits both a) ≡ true)
    → (v w : ℕ → Verdict) → ArePairs bits v w both → PassAll bits (has_both v w p.one p.two)
counted_all bits p both all v w are a below = sym (pair_there v w bits p both are a below) ∙ all a below

pub sum_stays : (bits : ℕ) (p : Pair) (leaves : List (Cidr × Pair)) (i : ℕ) (leaf : Cidr × Pair) (count : ℕ) → i < length leaves → leaf ≡ get_or leaves i leaf → false ≡ is_pair leaf.1 p
    → count ≡ matched bits p (take i leaves) → count ≡ matched bits p (take (i + 1) leaves)
sum_stays bits p leaves i leaf count within is test so_far = omega (arith, so_far, matched_next bits p leaves i leaf false within is test)

-- leaves that are the same by a test that tells values apart are equal
pub same_leaves : {V : Type 0} {eq : V → V → Bool} → ((x y : V) → eq x y ≡ true → x ≡ y) → (ks ls : List (Cidr × V)) → SameLeaves eq ks ls → ks ≡ ls
same_leaves tells [] [] s = refl
same_leaves tells [] (l ∷ ls) s = absurd s
same_leaves tells (k ∷ ks) [] s = absurd s
same_leaves tells (k ∷ ks) (l ∷ ls) s =
    let prefix : k.0 ≡ l.0 = s.0 in
    let value : k.1 ≡ l.1 = tells k.1 l.1 s.1 in
    let rest : ks ≡ ls = same_leaves tells ks ls s.2 in
    λ i. (prefix i, value i) ∷ rest i
