-- The leaves of a trie are those of its verdicts: each prefix whose addresses have one verdict lies in one leaf.
use Rattle.std.specs.Prelude.{Contains}
use Rattle.std.proofs.Common.{ℕ, zero, suc, ◌≡◌, ◌+◌, ◌-◌, ◌*◌, ◌/◌, ◌^◌, ◌≤◌, Bool, true, false, List, [], ◌∷◌, ◌++◌, inl, inr, refl, sym, ◌∙◌, ap, subst, arith, append_assoc, append-nil, pow_pos, pow-suc}
use Rattle.std.proofs.lemmas.Bool.{cases_Bool, false≢true}
use Rattle.std.proofs.lemmas.Bool.Decides.{leb_tells}
use Rattle.std.proofs.lemmas.Nat.{pow-add}
use Rattle.std.proofs.lemmas.List.Elements.{Contains-push, Contains-append_left, Contains-append_right}
use Rattle.addr_bits.specs.Width.{cut_of}
use Rattle.addr_bits.specs.Prefix.{Cidr, IsCidr, lower_half, upper_half}
use Rattle.addr_bits.specs.Blocks.{lowest, prefix_of}
use Rattle.prefix_trie.specs.Leaves.{CoverInOrder, IsTrie, SameLeaves}
use Rattle.prefix_trie.proofs.Coarse.{value_at-leaf}
use Rattle.spf_grammar.specs.declared.verdict.Verdict.{Verdict}
use Rattle.fewest_terms.specs.Needs.{is_mixed}
use Rattle.fewest_terms.specs.Leaves.{or_neutral, verdict_at, leaves_of, AreLeaves}
use Rattle.fewest_terms.proofs.Places.{lies-lowest, lies-half}
use Rattle.fewest_terms.proofs.Mixed.{is_mixed_iff, same-lowest, lowest-half}
use Rattle.fewest_terms.proofs.WalkLemmas.{leaves_of-mixed, leaves_of-plain, same_leaf}

-- numbers of a prefix with k open bits
pub lowest-next : (k n : ℕ) → lowest k n + 2 ^ k ≡ lowest k (n + 1)
lowest-next k n = grind arith

pub lowest-both : (k n : ℕ) → lowest k (2 * n + 1 + 1) ≡ lowest (suc k) (n + 1)
lowest-both k n = grind (arith, pow-suc)

lowest-upper : (k n : ℕ) → lowest (suc k) n + 2 ^ k ≡ lowest k (2 * n + 1)
lowest-upper k n = grind (arith, pow-suc)

pub cut-prefix : (w k n a : ℕ) → k ≤ w → a / 2 ^ k ≡ n → cut_of w a (w - k) ≡ lowest k n
cut-prefix w k n a h e =
    let o : w - (w - k) ≡ k = omega arith in
    ap (λ j. a / 2 ^ j * 2 ^ j) o ∙ ap (λ m. m * 2 ^ k) e

pub prefix_of-IsCidr : (w k n : ℕ) → k ≤ w → lowest k (n + 1) ≤ 2 ^ w → IsCidr w (prefix_of w k n)
prefix_of-IsCidr w k n h l = record {
  short = omega arith;
  cut = cut-prefix w k n (lowest k n) h (lies-lowest k n);
  within = omega (arith, lowest-next k n, pow_pos k);
}

lower_half-prefix : (w k n : ℕ) → suc k ≤ w → prefix_of w k (2 * n) ≡ lower_half (prefix_of w (suc k) n)
lower_half-prefix w k n h =
    let s : lowest k (2 * n) ≡ lowest (suc k) n = lowest-half k n in
    let l : w - k ≡ w - suc k + 1 = omega arith in
    λ i. record { start = s i; len = l i }

upper_half-prefix : (w k n : ℕ) → suc k ≤ w → prefix_of w k (2 * n + 1) ≡ upper_half w (prefix_of w (suc k) n)
upper_half-prefix w k n h =
    let o : w - (w - suc k + 1) ≡ k = omega arith in
    let s : lowest k (2 * n + 1) ≡ lowest (suc k) n + 2 ^ (w - (w - suc k + 1)) = sym (lowest-upper k n) ∙ ap (λ j. lowest (suc k) n + 2 ^ j) (sym o) in
    let l : w - k ≡ w - suc k + 1 = omega arith in
    λ i. record { start = s i; len = l i }

-- a prefix that begins where the upper half of another does is no larger than that half
aligned : (k m i q : ℕ) → lowest k (2 * m + 1) ≡ q * 2 ^ (i + suc k) → ⊥
aligned k m i q e =
    let even : q * 2 ^ (i + suc k) ≡ lowest k (q * 2 ^ i * 2) = ap (λ x. q * x) (pow-add 2 i (suc k)) ∙ grind (arith, pow-suc) in
    let odd : 2 * m + 1 ≡ q * 2 ^ i * 2 = sym (lies-lowest k (2 * m + 1)) ∙ ap (λ x. x / 2 ^ k) (e ∙ even) ∙ lies-lowest k (q * 2 ^ i * 2) in
    omega arith

-- the first leaf is no larger than a prefix with k open bits
abbrev BeginsWithin : (w k : ℕ) → List (Cidr × Verdict) → Type 0
BeginsWithin w k [] = ⊥
BeginsWithin w k (l ∷ ls) = w ≤ k + l.0.len

small_start : (w k m : ℕ) (p : Cidr) → IsCidr w p → p.start ≡ lowest k (2 * m + 1) → w ≤ k + p.len
small_start w k m p c e = elim (leb_tells w (k + p.len)) [
  | inl h ↦ h.1
  | inr h ↦
      let i : ℕ = w - p.len - suc k in
      let o : w - p.len ≡ i + suc k = omega (arith, h.1) in
      absurd (aligned k m i (p.start / 2 ^ (w - p.len)) (sym e ∙ sym c.cut ∙ ap (λ j. p.start / 2 ^ (w - p.len) * 2 ^ j) o))
]

upper_begins : (w k m to : ℕ) (ls : List (Cidr × Verdict)) → CoverInOrder w (lowest k (2 * m + 1)) to ls → lowest k (2 * m + 1 + 1) ≤ to → BeginsWithin w k ls
upper_begins w k m to [] c h = omega (arith, c, h, lowest-next k (2 * m + 1), pow_pos k)
upper_begins w k m to (l ∷ ls) c h = small_start w k m l.0 c.0 c.1

-- ---- the part of the leaves that belongs to a prefix
record Part (w : ℕ) (v : ℕ → Verdict) (k n : ℕ) (ls : List (Cidr × Verdict)) : Type 0 where
  pub rest : List (Cidr × Verdict)
  pub is : ls ≡ leaves_of w v k n ++ rest
  pub cover : CoverInOrder w (lowest k (n + 1)) (2 ^ w) rest

abbrev AreOf : (ks ls : List (Cidr × Verdict)) → Type 0
AreOf ks ls = (x : Cidr × Verdict) → Contains {X = Cidr × Verdict} ls x → Contains {X = Cidr × Verdict} ks x

head_of : (l : Cidr × Verdict) (ls : List (Cidr × Verdict)) → Contains {X = Cidr × Verdict} (l ∷ ls) l
head_of l ls = Contains-append_left {X = Cidr × Verdict} (l ∷ []) ls l (Contains-push {X = Cidr × Verdict} [] l)

-- the leaf is the prefix
inside : (w k n : ℕ) (ks : List (Cidr × Verdict)) (l : Cidr × Verdict) → CoverInOrder w 0 (2 ^ w) ks → Contains {X = Cidr × Verdict} ks l → k ≤ w
    → l.0.start ≡ lowest k n → l.0.len ≡ w - k → (a : ℕ) → a / 2 ^ k ≡ n → verdict_at w ks a ≡ l.1
inside w k n ks l c h b s e a i =
    ap or_neutral (value_at-leaf w 0 (2 ^ w) ks l a c h (ap (λ j. cut_of w a j) e ∙ cut-prefix w k n a b i ∙ sym s))

plain : (v : ℕ → Verdict) (k n : ℕ) (d : Verdict) → ((a : ℕ) → a / 2 ^ k ≡ n → v a ≡ d) → is_mixed v k n ≡ false
plain v k n d h = elim (cases_Bool (is_mixed v k n)) [
  | inl t ↦ (let m = (is_mixed_iff v k n).0 t in absurd (m.4 (h m.0 m.2 ∙ sym (h m.1 m.3))))
  | inr f ↦ f
]

whole_leaf : (w k n : ℕ) (ks : List (Cidr × Verdict)) (l : Cidr × Verdict) (ls : List (Cidr × Verdict)) → CoverInOrder w 0 (2 ^ w) ks → AreOf ks (l ∷ ls) → k ≤ w
    → CoverInOrder w (lowest k n) (2 ^ w) (l ∷ ls) → l.0.len ≡ w - k → Part w (verdict_at w ks) k n (l ∷ ls)
whole_leaf w k n ks l ls t of b c e =
    let v : ℕ → Verdict = verdict_at w ks in
    let own : (a : ℕ) → a / 2 ^ k ≡ n → v a ≡ l.1 = inside w k n ks l t (of l (head_of l ls)) b c.1 e in
    let leaf : l ≡ (prefix_of w k n, v (lowest k n)) = same_leaf l (prefix_of w k n, v (lowest k n)) c.1 e (sym (own (lowest k n) (lies-lowest k n))) in
    let open_bits : w - l.0.len ≡ k = omega arith in
    record {
      rest = ls;
      is = ap (λ x. x ∷ ls) leaf ∙ ap (λ xs. xs ++ ls) (sym (leaves_of-plain w v k n (plain v k n l.1 own)));
      cover = subst (λ m. CoverInOrder w m (2 ^ w) ls) (ap (λ j. lowest k n + 2 ^ j) open_bits ∙ lowest-next k n) c.2;
    }

-- the halves of a prefix that is not mixed are leaves with equal verdicts, which a trie does not have
plain_half : (v : ℕ → Verdict) (k n h : ℕ) → is_mixed v (suc k) n ≡ false → h / 2 ≡ n → is_mixed v k h ≡ false
plain_half v k n h f e = plain v k h (v (lowest (suc k) n)) (λ a i. same-lowest v (suc k) n a f (lies-half h k n a e i))

half_value : (v : ℕ → Verdict) (k n h : ℕ) → is_mixed v (suc k) n ≡ false → h / 2 ≡ n → v (lowest k h) ≡ v (lowest (suc k) n)
half_value v k n h f e = same-lowest v (suc k) n (lowest k h) f (lies-half h k n (lowest k h) e (lies-lowest k h))

found : (w : ℕ) (v : ℕ → Verdict) (k h : ℕ) (ks ls rest : List (Cidr × Verdict)) → AreOf ks ls → is_mixed v k h ≡ false → ls ≡ leaves_of w v k h ++ rest → Contains {X = Cidr × Verdict} ks (prefix_of w k h, v (lowest k h))
found w v k h ks ls rest of f e =
    of (prefix_of w k h, v (lowest k h)) (subst (λ xs. Contains {X = Cidr × Verdict} xs (prefix_of w k h, v (lowest k h))) (sym (e ∙ ap (λ xs. xs ++ rest) (leaves_of-plain w v k h f)))
    (head_of (prefix_of w k h, v (lowest k h)) rest))

mixed : (w : ℕ) {eq : Verdict → Verdict → Bool} → ((x : Verdict) → eq x x ≡ true) → (k n : ℕ) (ks ls mid rest : List (Cidr × Verdict)) → IsTrie w eq ks → suc k ≤ w → lowest (suc k) (n + 1) ≤ 2 ^ w
    → AreOf ks ls → AreOf ks mid → ls ≡ leaves_of w (verdict_at w ks) k (2 * n) ++ mid → mid ≡ leaves_of w (verdict_at w ks) k (2 * n + 1) ++ rest
    → is_mixed (verdict_at w ks) (suc k) n ≡ true
mixed w {eq} same k n ks ls mid rest t b h of of' e e' =
    let v : ℕ → Verdict = verdict_at w ks in
    elim (cases_Bool (is_mixed v (suc k) n)) [
      | inl m ↦ m
      | inr f ↦
          let low = found w v k (2 * n) ks ls mid of (plain_half v k n (2 * n) f (omega arith)) e in
          let high = found w v k (2 * n + 1) ks mid rest of' (plain_half v k n (2 * n + 1) f (omega arith)) e' in
          let in_low : Contains {X = Cidr × Verdict} ks (lower_half (prefix_of w (suc k) n), v (lowest k (2 * n))) = subst (λ p. Contains {X = Cidr × Verdict} ks (p, v (lowest k (2 * n)))) (lower_half-prefix w k n b) low in
          let in_high : Contains {X = Cidr × Verdict} ks (upper_half w (prefix_of w (suc k) n), v (lowest k (2 * n + 1))) = subst (λ p. Contains {X = Cidr × Verdict} ks (p, v (lowest k (2 * n + 1)))) (upper_half-prefix w k n b) high in
          let apart : eq (v (lowest k (2 * n))) (v (lowest k (2 * n + 1))) ≡ false = t.apart (prefix_of w (suc k) n) (v (lowest k (2 * n))) (v (lowest k (2 * n + 1))) (prefix_of-IsCidr w (suc k) n b h) (omega arith) in_low in_high in
          let equal : v (lowest k (2 * n)) ≡ v (lowest k (2 * n + 1)) = half_value v k n (2 * n) f (omega arith) ∙ sym (half_value v k n (2 * n + 1) f (omega arith)) in
          absurd (false≢true (sym apart ∙ ap (λ d. eq (v (lowest k (2 * n))) d) (sym equal) ∙ same (v (lowest k (2 * n)))))
    ]

part : (w : ℕ) {eq : Verdict → Verdict → Bool} → ((x : Verdict) → eq x x ≡ true) → (ks : List (Cidr × Verdict)) → IsTrie w eq ks → (k n : ℕ) (ls : List (Cidr × Verdict)) → AreOf ks ls → k ≤ w
    → lowest k (n + 1) ≤ 2 ^ w → CoverInOrder w (lowest k n) (2 ^ w) ls → BeginsWithin w k ls → Part w (verdict_at w ks) k n ls
part w same ks t k n [] of b h c s = absurd s
part w same ks t zero n (l ∷ ls) of b h c s = whole_leaf w zero n ks l ls t.cover of b c (omega (arith, c.0.short))
part w same ks t (suc k) n (l ∷ ls) of b h c s = elim (leb_tells w (k + l.0.len)) [
  | inr i ↦ whole_leaf w (suc k) n ks l ls t.cover of b c (omega (arith, c.0.short, i.1))
  | inl i ↦
      let v : ℕ → Verdict = verdict_at w ks in
      let room : lowest k (2 * n + 1 + 1) ≤ 2 ^ w = omega (arith, lowest-both k n) in
      let low : Part w v k (2 * n) (l ∷ ls) = part w same ks t k (2 * n) (l ∷ ls) of (omega arith) (omega (arith, lowest-next k (2 * n + 1))) (subst (λ m. CoverInOrder w m (2 ^ w) (l ∷ ls)) (sym (lowest-half k n)) c) i.1 in
      let of' : AreOf ks low.rest = λ x q. of x (subst (λ xs. Contains {X = Cidr × Verdict} xs x) (sym low.is) (Contains-append_right {X = Cidr × Verdict} (leaves_of w v k (2 * n)) low.rest x q)) in
      let high : Part w v k (2 * n + 1) low.rest = part w same ks t k (2 * n + 1) low.rest of' (omega arith) room low.cover (upper_begins w k n (2 ^ w) low.rest low.cover room) in
      let m : is_mixed v (suc k) n ≡ true = mixed w same k n ks (l ∷ ls) low.rest high.rest t b h of of' low.is high.is in
      record {
        rest = high.rest;
        is = low.is ∙ ap (λ xs. leaves_of w v k (2 * n) ++ xs) high.is ∙ sym (append_assoc (leaves_of w v k (2 * n)) (leaves_of w v k (2 * n + 1)) high.rest) ∙ ap (λ xs. xs ++ high.rest) (sym (leaves_of-mixed w v k n m));
        cover = subst (λ m. CoverInOrder w m (2 ^ w) high.rest) (lowest-both k n) high.cover;
      }
]

-- no leaf begins past the last address
none_past : (w from : ℕ) (ls : List (Cidr × Verdict)) → from ≡ 2 ^ w → CoverInOrder w from (2 ^ w) ls → ls ≡ []
none_past w from [] e c = refl
none_past w from (l ∷ ls) e c = absurd (omega (arith, c.0.within, c.1))

some_leaf : (w : ℕ) (ks : List (Cidr × Verdict)) → CoverInOrder w 0 (2 ^ w) ks → BeginsWithin w w ks
some_leaf w [] c = omega (arith, c, pow_pos w)
some_leaf w (l ∷ ls) c = omega arith

-- the leaves of a trie are those of its own verdicts
pub AreLeaves-IsTrie : (w : ℕ) {eq : Verdict → Verdict → Bool} → ((x : Verdict) → eq x x ≡ true) → (ks : List (Cidr × Verdict)) → IsTrie w eq ks → AreLeaves w ks
AreLeaves-IsTrie w same ks t =
    let first : lowest w 0 ≡ 0 = grind arith in
    let last : lowest w (0 + 1) ≡ 2 ^ w = grind arith in
    let p : Part w (verdict_at w ks) w 0 ks = part w same ks t w 0 ks (λ x q. q) (omega arith) (omega (arith, last)) (subst (λ m. CoverInOrder w m (2 ^ w) ks) (sym first) t.cover) (some_leaf w ks t.cover) in
    p.is ∙ ap (λ xs. leaves_of w (verdict_at w ks) w 0 ++ xs) (none_past w (lowest w (0 + 1)) p.rest last p.cover) ∙ append-nil (leaves_of w (verdict_at w ks) w 0)

-- leaves that are the same by a test for equality are equal
pub same-SameLeaves : {eq : Verdict → Verdict → Bool} → ((x y : Verdict) → eq x y ≡ true → x ≡ y) → (ks ls : List (Cidr × Verdict)) → SameLeaves eq ks ls → ks ≡ ls
same-SameLeaves h [] [] s = refl
same-SameLeaves h [] (l ∷ ls) s = absurd s
same-SameLeaves h (k ∷ ks) [] s = absurd s
same-SameLeaves h (k ∷ ks) (l ∷ ls) s =
    let p : k.0 ≡ l.0 = s.0 in
    let d : k.1 ≡ l.1 = h k.1 l.1 s.1 in
    let rest : ks ≡ ls = same-SameLeaves h ks ls s.2 in
    λ i. (p i, d i) ∷ rest i
