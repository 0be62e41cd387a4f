-- What a walk over the leaves of a trie finds.
use Rattle.std.proofs.Common.{ℕ, zero, suc, ◌≡◌, ◌≢◌, ◌+◌, ◌-◌, ◌*◌, ◌/◌, ◌^◌, ◌<◌, ◌≤◌, true, false, List, [], ◌∷◌, ◌++◌, map, length, drop, get_or, set, inl, inr, refl, sym, ◌∙◌, ap, ap₂, subst, arith, le_refl, length-append, length-drop, append_assoc, append-nil, drop-cons}
use Rattle.std.proofs.lemmas.Bool.{cond-true, cond-false, cases_Bool, both_ways}
use Rattle.std.proofs.lemmas.List.{drop-drop, set_at, map-append, drop_at}
use mathlib.Core.Path.{fun_ext}
use Rattle.spf_grammar.specs.declared.verdict.Verdict.{Verdict}
use Rattle.spf_grammar.specs.declared.verdict.Verdict.TheVariants.{Fail, SoftFail, Pass, Neutral}
use Rattle.fewest_terms.specs.declared.needs.Needs.{Needs}
use Rattle.addr_bits.specs.Prefix.{Cidr}
use Rattle.fewest_terms.specs.Row.{NeedRow}
use Rattle.addr_bits.specs.Blocks.{lowest, prefix_of}
use Rattle.fewest_terms.specs.Needs.{is_mixed, need, need_of_halves, at_mixed, mixed_count}
use Rattle.fewest_terms.specs.Tables.{number, needs_of, need_rows, mixed_prefixes}
use Rattle.fewest_terms.specs.Chosen.{chosen}
use Rattle.addr_bits.specs.Width.{cut_of}
use Rattle.fewest_terms.specs.Leaves.{ruled, ruled_row, AreLeaves, sums_at, need_at, terms_at, verdict_at, leaves_of, first_start, bits_at, BeginAt, sum_rows}
use Rattle.std.proofs.Math.Nat.{sub-zero}
use Rattle.fewest_terms.proofs.TableLemmas.{need_rows-mixed, need_rows-plain, mixed_prefixes-mixed, mixed_prefixes-plain}
use Rattle.fewest_terms.proofs.Places.{lies-lowest}
use Rattle.fewest_terms.proofs.Mixed.{lowest-half, need-mixed, one-plain, mixed_count-mixed, need-small}

-- rows of four numbers that agree
pub same_needs : (a b : Needs) → a.fail ≡ b.fail → a.softfail ≡ b.softfail → a.pass ≡ b.pass → a.neutral ≡ b.neutral → a ≡ b
same_needs a b p q r s = λ i. record { fail = p i; softfail = q i; pass = r i; neutral = s i }

pub leaves_of-mixed : (w : ℕ) (v : ℕ → Verdict) (k n : ℕ) → is_mixed v (suc k) n ≡ true → leaves_of w v (suc k) n ≡ leaves_of w v k (2 * n) ++ leaves_of w v k (2 * n + 1)
unfolding leaves_of
leaves_of-mixed w v k n e = cond-true (is_mixed v (suc k) n) (leaves_of w v k (2 * n) ++ leaves_of w v k (2 * n + 1)) ((prefix_of w (suc k) n, v (lowest (suc k) n)) ∷ []) e

pub leaves_of-plain : (w : ℕ) (v : ℕ → Verdict) (k n : ℕ) → is_mixed v k n ≡ false → leaves_of w v k n ≡ (prefix_of w k n, v (lowest k n)) ∷ []
unfolding leaves_of
leaves_of-plain w v zero n e = refl
leaves_of-plain w v (suc k) n e = cond-false (is_mixed v (suc k) n) (leaves_of w v k (2 * n) ++ leaves_of w v k (2 * n + 1)) ((prefix_of w (suc k) n, v (lowest (suc k) n)) ∷ []) e

pub mixed_count-plain : (v : ℕ → Verdict) (k n : ℕ) → is_mixed v k n ≡ false → mixed_count v k n ≡ 0
unfolding mixed_count
mixed_count-plain v zero n e = refl
mixed_count-plain v (suc k) n e = cond-false (is_mixed v (suc k) n) (1 + (mixed_count v k (2 * n) + mixed_count v k (2 * n + 1))) 0 e

-- one leaf more than mixed prefixes
pub length-leaves_of : (w : ℕ) (v : ℕ → Verdict) (k n : ℕ) → length (leaves_of w v k n) ≡ 1 + mixed_count v k n
length-leaves_of w v zero n = omega (arith, ap length (leaves_of-plain w v zero n (one-plain v n)), mixed_count-plain v zero n (one-plain v n))
length-leaves_of w v (suc k) n = elim (cases_Bool (is_mixed v (suc k) n)) [
  | inl m ↦ omega (
    arith,
    ap length (leaves_of-mixed w v k n m),
    length-append (leaves_of w v k (2 * n)) (leaves_of w v k (2 * n + 1)),
    length-leaves_of w v k (2 * n),
    length-leaves_of w v k (2 * n + 1),
    mixed_count-mixed v k n m,
  )
  | inr m ↦ omega (arith, ap length (leaves_of-plain w v (suc k) n m), mixed_count-plain v (suc k) n m)
]

-- the first leaf of a prefix
pub record FirstLeaf (w : ℕ) (v : ℕ → Verdict) (k n : ℕ) : Type 0 where
  pub leaf : (Cidr × Verdict)
  pub others : List (Cidr × Verdict)
  pub is : leaves_of w v k n ≡ leaf ∷ others
  pub start : leaf.0.start ≡ lowest k n
  pub long : w - k ≤ leaf.0.len
  pub plain : is_mixed v k n ≡ false → (leaf.0.len ≡ w - k) × (leaf.1 ≡ v (lowest k n))
  pub mixed : is_mixed v k n ≡ true → w - k < leaf.0.len

first_plain : (w : ℕ) (v : ℕ → Verdict) (k n : ℕ) → is_mixed v k n ≡ false → FirstLeaf w v k n
first_plain w v k n e = record {
  leaf = (prefix_of w k n, v (lowest k n));
  others = [];
  is = leaves_of-plain w v k n e;
  start = refl;
  long = le_refl (w - k);
  plain = λ _. (refl, refl);
  mixed = λ m. absurd (both_ways (is_mixed v k n) e m);
}

first_mixed : (w : ℕ) (v : ℕ → Verdict) (k n : ℕ) → suc k ≤ w → is_mixed v (suc k) n ≡ true → FirstLeaf w v k (2 * n) → FirstLeaf w v (suc k) n
first_mixed w v k n h m f = record {
  leaf = f.leaf;
  others = f.others ++ leaves_of w v k (2 * n + 1);
  is = leaves_of-mixed w v k n m ∙ ap (λ ls. ls ++ leaves_of w v k (2 * n + 1)) f.is;
  start = f.start ∙ lowest-half k n;
  long = omega (arith, f.long);
  plain = λ e. absurd (both_ways (is_mixed v (suc k) n) e m);
  mixed = λ _. omega (arith, f.long);
}

pub first_leaf : (w : ℕ) (v : ℕ → Verdict) (k n : ℕ) → k ≤ w → FirstLeaf w v k n
first_leaf w v zero n h = first_plain w v zero n (one-plain v n)
first_leaf w v (suc k) n h =
    let f : FirstLeaf w v k (2 * n) = first_leaf w v k (2 * n) (omega arith) in
    elim (cases_Bool (is_mixed v (suc k) n)) [
      | inl m ↦ first_mixed w v k n h m f
      | inr e ↦ first_plain w v (suc k) n e
    ]

-- leaves from a place on that begin with those of a prefix
first_start-of : (w : ℕ) (v : ℕ → Verdict) (all rest : List (Cidr × Verdict)) (from k n : ℕ) → k ≤ w → drop from all ≡ leaves_of w v k n ++ rest → first_start (drop from all) ≡ lowest k n
first_start-of w v all rest from k n h e =
    let f : FirstLeaf w v k n = first_leaf w v k n h in
    ap first_start (e ∙ ap (λ ls. ls ++ rest) f.is) ∙ f.start

bits_at-of : (w : ℕ) (v : ℕ → Verdict) (all rest : List (Cidr × Verdict)) (from len k n : ℕ) → k ≤ w → w - len ≡ k → drop from all ≡ leaves_of w v k n ++ rest → bits_at w all from len ≡ n
bits_at-of w v all rest from len k n h o e = ap₂ (λ x j. x / 2 ^ j) (first_start-of w v all rest from k n h e) o ∙ lies-lowest k n

begin_at : (w : ℕ) (all rest : List (Cidr × Verdict)) (from len k n : ℕ) → k ≤ w → w - len ≡ k → drop from all ≡ leaves_of w (verdict_at w all) k n ++ rest → BeginAt w all from len
begin_at w all rest from len k n h o e =
    (rest, e ∙ ap₂ (λ j m. leaves_of w (verdict_at w all) j m ++ rest) (sym o) (sym (bits_at-of w (verdict_at w all) all rest from len k n h o e)))

-- what stands at a place where a prefix begins
pub first_at : (w : ℕ) (all : List (Cidr × Verdict)) (from len : ℕ) → FirstLeaf w (verdict_at w all) (w - len) (bits_at w all from len)
first_at w all from len = first_leaf w (verdict_at w all) (w - len) (bits_at w all from len) (omega arith)

pub within_at : (w : ℕ) (all : List (Cidr × Verdict)) (from len : ℕ) → BeginAt w all from len → from < length all
within_at w all from len b =
    let f : FirstLeaf w (verdict_at w all) (w - len) (bits_at w all from len) = first_at w all from len in
    let e : length (drop from all) ≡ length (f.leaf ∷ (f.others ++ b.0)) = ap length (b.1 ∙ ap (λ ls. ls ++ b.0) f.is) in
    omega (arith, e, length-drop from all)

pub fits_at : (w : ℕ) (all : List (Cidr × Verdict)) (from len : ℕ) → BeginAt w all from len
    → from + length (leaves_of w (verdict_at w all) (w - len) (bits_at w all from len)) ≤ length all
fits_at w all from len b =
    let here : List (Cidr × Verdict) = leaves_of w (verdict_at w all) (w - len) (bits_at w all from len) in
    omega (arith, within_at w all from len b, ap length b.1, length-append here b.0, length-drop from all)

-- the leaf that the code reads
pub leaf_read : (w : ℕ) (leaves : List (Cidr × Verdict)) (from len : ℕ) (r : Cidr × Verdict) → BeginAt w leaves from len
    → r ≡ get_or leaves from r → r ≡ (first_at w leaves from len).leaf
leaf_read w leaves from len r b e =
    let first : FirstLeaf w (verdict_at w leaves) (w - len) (bits_at w leaves from len) = first_at w leaves from len in
    let lt : from < length leaves = within_at w leaves from len b in
    let whole : get_or leaves from r ∷ drop (suc from) leaves ≡ first.leaf ∷ (first.others ++ b.0) = sym (drop-cons leaves from r lt) ∙ b.1 ∙ ap (λ ls. ls ++ b.0) first.is in
    let same : get_or leaves from r ≡ first.leaf = cc in
    e ∙ same

-- a mixed prefix and its halves
pub record Halves (w : ℕ) (all : List (Cidr × Verdict)) (from len : ℕ) : Type 0 where
  pub open_bits : ℕ
  pub bits : ℕ
  pub open_is : w - len ≡ suc open_bits
  pub bits_is : bits_at w all from len ≡ bits
  pub mixed : is_mixed (verdict_at w all) (suc open_bits) bits ≡ true
  pub half_open : w - (len + 1) ≡ open_bits
  pub low : BeginAt w all from (len + 1)
  pub low_bits : bits_at w all from (len + 1) ≡ 2 * bits
  pub high : BeginAt w all (from + length (leaves_of w (verdict_at w all) open_bits (2 * bits))) (len + 1)
  pub high_bits : bits_at w all (from + length (leaves_of w (verdict_at w all) open_bits (2 * bits))) (len + 1) ≡ 2 * bits + 1

halves_of : (w : ℕ) (all : List (Cidr × Verdict)) (from len k n : ℕ) → w - len ≡ suc k → bits_at w all from len ≡ n → is_mixed (verdict_at w all) (suc k) n ≡ true
    → (rest : List (Cidr × Verdict)) → drop from all ≡ leaves_of w (verdict_at w all) (suc k) n ++ rest → Halves w all from len
halves_of w all from len k n o b m rest e =
    let v : ℕ → Verdict = verdict_at w all in
    let low : List (Cidr × Verdict) = leaves_of w v k (2 * n) in
    let high : List (Cidr × Verdict) = leaves_of w v k (2 * n + 1) in
    let here : drop from all ≡ low ++ (high ++ rest) = e ∙ ap (λ ls. ls ++ rest) (leaves_of-mixed w v k n m) ∙ append_assoc low high rest in
    let half : w - (len + 1) ≡ k = omega arith in
    let there : drop (from + length low) all ≡ high ++ rest = sym (drop-drop (length low) from all) ∙ ap (drop (length low)) here ∙ drop_at low (high ++ rest) (length low) refl in
    record {
      open_bits = k;
      bits = n;
      open_is = o;
      bits_is = b;
      mixed = m;
      half_open = half;
      low = begin_at w all (high ++ rest) from (len + 1) k (2 * n) (omega arith) half here;
      low_bits = bits_at-of w v all (high ++ rest) from (len + 1) k (2 * n) (omega arith) half here;
      high = begin_at w all rest (from + length low) (len + 1) k (2 * n + 1) (omega arith) half there;
      high_bits = bits_at-of w v all rest (from + length low) (len + 1) k (2 * n + 1) (omega arith) half there;
    }

halves_by : (w : ℕ) (all : List (Cidr × Verdict)) (from len k : ℕ) → w - len ≡ k → is_mixed (verdict_at w all) k (bits_at w all from len) ≡ true
    → (rest : List (Cidr × Verdict)) → drop from all ≡ leaves_of w (verdict_at w all) k (bits_at w all from len) ++ rest → Halves w all from len
halves_by w all from len zero o m rest e = absurd (both_ways (is_mixed (verdict_at w all) zero (bits_at w all from len)) (one-plain (verdict_at w all) (bits_at w all from len)) m)
halves_by w all from len (suc k) o m rest e = halves_of w all from len k (bits_at w all from len) o refl m rest e

-- the leaf at the place is longer, so that the prefix is mixed
pub halves : (w : ℕ) (all : List (Cidr × Verdict)) (from len : ℕ) → len ≤ w → BeginAt w all from len → (first_at w all from len).leaf.0.len ≢ len → Halves w all from len
halves w all from len h b ne =
    let f : FirstLeaf w (verdict_at w all) (w - len) (bits_at w all from len) = first_at w all from len in
    elim (cases_Bool (is_mixed (verdict_at w all) (w - len) (bits_at w all from len))) [
      | inl m ↦ halves_by w all from len (w - len) refl m b.0 b.1
      | inr m ↦ absurd (ne ((f.plain m).0 ∙ omega arith))
    ]

pub same_leaf : (a b : Cidr × Verdict) → a.0.start ≡ b.0.start → a.0.len ≡ b.0.len → a.1 ≡ b.1 → a ≡ b
same_leaf a b p q r = λ i. (record { start = p i; len = q i }, r i)

-- the leaf at the place is the prefix
pub record Alone (w : ℕ) (all : List (Cidr × Verdict)) (from len : ℕ) : Type 0 where
  pub plain : is_mixed (verdict_at w all) (w - len) (bits_at w all from len) ≡ false
  pub verdict : (first_at w all from len).leaf.1 ≡ verdict_at w all (lowest (w - len) (bits_at w all from len))
  pub one : length (leaves_of w (verdict_at w all) (w - len) (bits_at w all from len)) ≡ 1
  pub whole : (first_at w all from len).leaf ≡ (prefix_of w (w - len) (bits_at w all from len), verdict_at w all (lowest (w - len) (bits_at w all from len)))

pub alone : (w : ℕ) (all : List (Cidr × Verdict)) (from len : ℕ) → len ≤ w → (first_at w all from len).leaf.0.len ≡ len → Alone w all from len
alone w all from len h e =
    let v : ℕ → Verdict = verdict_at w all in
    let f : FirstLeaf w v (w - len) (bits_at w all from len) = first_at w all from len in
    elim (cases_Bool (is_mixed v (w - len) (bits_at w all from len))) [
      | inl m ↦ absurd (omega (arith, f.mixed m))
      | inr m ↦ record {
        plain = m;
        verdict = (f.plain m).1;
        one = ap length (leaves_of-plain w v (w - len) (bits_at w all from len) m);
        whole = same_leaf f.leaf (prefix_of w (w - len) (bits_at w all from len), v (lowest (w - len) (bits_at w all from len))) f.start (f.plain m).0 (f.plain m).1;
      }
    ]

-- what is needed is at most the number of leaves
pub need-leaves : (w : ℕ) (v : ℕ → Verdict) (k n : ℕ) (c : Verdict) → need v k n c ≤ length (leaves_of w v k n)
need-leaves w v k n c = omega (arith, need-small v k n c, length-leaves_of w v k n)

-- the sums of a mixed prefix and of its halves
pub sums_of : (ℕ → Verdict) → (k n : ℕ) → Needs
sums_of v k n = record { fail = need_of_halves v k n Fail; softfail = need_of_halves v k n SoftFail; pass = need_of_halves v k n Pass; neutral = need_of_halves v k n Neutral }

pub number-sums_of : (v : ℕ → Verdict) (k n : ℕ) → number (sums_of v k n) ≡ need_of_halves v k n
unfolding sums_of
number-sums_of v k n = fun_ext go
  where
    go : (c : Verdict) → number (sums_of v k n) c ≡ need_of_halves v k n c
    go Fail = refl
    go SoftFail = refl
    go Pass = refl
    go Neutral = refl

pub sums_of-same : (v : ℕ → Verdict) (k n : ℕ) (s : Needs) → ((c : Verdict) → number s c ≡ need_of_halves v k n c) → s ≡ sums_of v k n
unfolding sums_of
sums_of-same v k n s h = same_needs s (sums_of v k n) (h Fail) (h SoftFail) (h Pass) (h Neutral)

pub sum_rows-mixed : (w : ℕ) (v : ℕ → Verdict) (k n : ℕ) → is_mixed v (suc k) n ≡ true
    → sum_rows w v (suc k) n ≡ record { prefix = prefix_of w (suc k) n; needs = sums_of v k n } ∷ (sum_rows w v k (2 * n) ++ sum_rows w v k (2 * n + 1))
unfolding sum_rows sums_of
sum_rows-mixed w v k n e = cond-true (is_mixed v (suc k) n) (record { prefix = prefix_of w (suc k) n; needs = sums_of v k n } ∷ (sum_rows w v k (2 * n) ++ sum_rows w v k (2 * n + 1))) [] e

pub sum_rows-plain : (w : ℕ) (v : ℕ → Verdict) (k n : ℕ) → is_mixed v k n ≡ false → sum_rows w v k n ≡ []
unfolding sum_rows sums_of
sum_rows-plain w v zero n e = refl
sum_rows-plain w v (suc k) n e = cond-false (is_mixed v (suc k) n) (record { prefix = prefix_of w (suc k) n; needs = sums_of v k n } ∷ (sum_rows w v k (2 * n) ++ sum_rows w v k (2 * n + 1))) [] e

-- the prefixes of the sums are the mixed ones
pub sum_rows-places : (w : ℕ) (v : ℕ → Verdict) (k n : ℕ) → map (λ r. r.prefix) (sum_rows w v k n) ≡ mixed_prefixes w v k n
unfolding mixed_prefixes
sum_rows-places w v zero n = ap (map (λ r. r.prefix)) (sum_rows-plain w v zero n (one-plain v n))
sum_rows-places w v (suc k) n = elim (cases_Bool (is_mixed v (suc k) n)) [
  | inl m ↦ ap (map (λ r. r.prefix)) (sum_rows-mixed w v k n m)
      ∙ ap (λ ps. prefix_of w (suc k) n ∷ ps) (map-append (λ (r : NeedRow). r.prefix) (sum_rows w v k (2 * n)) (sum_rows w v k (2 * n + 1))
      ∙ ap₂ (λ x y. x ++ y) (sum_rows-places w v k (2 * n)) (sum_rows-places w v k (2 * n + 1)))
      ∙ sym (mixed_prefixes-mixed w v k n m)
  | inr m ↦ ap (map (λ r. r.prefix)) (sum_rows-plain w v (suc k) n m) ∙ sym (mixed_prefixes-plain w v k n m)
]

-- the halves, from what the code has read
pub halves_read : (w : ℕ) (leaves : List (Cidr × Verdict)) (from len : ℕ) (r : Cidr × Verdict) → len ≤ w → BeginAt w leaves from len
    → r ≡ get_or leaves from r → (r.0.len ≡ len → ⊥) → Halves w leaves from len
halves_read w leaves from len r h b e ne =
    halves w leaves from len h b (λ q. ne (ap (λ l. l.0.len) (leaf_read w leaves from len r b e) ∙ q))

pub alone_read : (w : ℕ) (leaves : List (Cidr × Verdict)) (from len : ℕ) (r : Cidr × Verdict) → len ≤ w → BeginAt w leaves from len
    → r ≡ get_or leaves from r → r.0.len ≡ len → Alone w leaves from len
alone_read w leaves from len r h b e q =
    alone w leaves from len h (ap (λ l. l.0.len) (sym (leaf_read w leaves from len r b e)) ∙ q)

pub longer_read : (w : ℕ) (leaves : List (Cidr × Verdict)) (from len : ℕ) (r : Cidr × Verdict) → len ≤ w → BeginAt w leaves from len
    → r ≡ get_or leaves from r → len ≤ r.0.len
longer_read w leaves from len r h b e =
    let first : FirstLeaf w (verdict_at w leaves) (w - len) (bits_at w leaves from len) = first_at w leaves from len in
    omega (arith, first.long, ap (λ l. l.0.len) (leaf_read w leaves from len r b e))

-- after the walk over the lower half
pub low_place : (w : ℕ) (all : List (Cidr × Verdict)) (from len : ℕ) (h : Halves w all from len) (next : ℕ)
    → next ≡ from + length (leaves_of w (verdict_at w all) (w - (len + 1)) (bits_at w all from (len + 1)))
    → next ≡ from + length (leaves_of w (verdict_at w all) h.open_bits (2 * h.bits))
low_place w all from len h next e = e ∙ ap₂ (λ k n. from + length (leaves_of w (verdict_at w all) k n)) h.half_open h.low_bits

pub high_begins : (w : ℕ) (all : List (Cidr × Verdict)) (from len : ℕ) (h : Halves w all from len) (next : ℕ)
    → next ≡ from + length (leaves_of w (verdict_at w all) (w - (len + 1)) (bits_at w all from (len + 1))) → BeginAt w all next (len + 1)
high_begins w all from len h next e = subst (λ i. BeginAt w all i (len + 1)) (sym (low_place w all from len h next e)) h.high

pub high_bits_at : (w : ℕ) (all : List (Cidr × Verdict)) (from len : ℕ) (h : Halves w all from len) (next : ℕ)
    → next ≡ from + length (leaves_of w (verdict_at w all) (w - (len + 1)) (bits_at w all from (len + 1))) → bits_at w all next (len + 1) ≡ 2 * h.bits + 1
high_bits_at w all from len h next e = ap (λ i. bits_at w all i (len + 1)) (low_place w all from len h next e) ∙ h.high_bits

-- what a walk over one half gave, at the half's own numbers
pub record WalkedHalf (w : ℕ) (v : ℕ → Verdict) (k n place next : ℕ) (needs : Needs) (old new : List NeedRow) : Type 0 where
  pub stops : next ≡ place + length (leaves_of w v k n)
  pub numbers : (c : Verdict) → number needs c ≡ need v k n c
  pub rows : new ≡ old ++ sum_rows w v k n

pub walked_half : (w : ℕ) (v : ℕ → Verdict) (k n place next : ℕ) (needs : Needs) (old new : List NeedRow) (j m : ℕ) → j ≡ k → m ≡ n
    → next ≡ place + length (leaves_of w v j m) → ((c : Verdict) → number needs c ≡ need v j m c) → new ≡ old ++ sum_rows w v j m
    → WalkedHalf w v k n place next needs old new
walked_half w v k n place next needs old new j m p q s t r = record {
  stops = s ∙ ap₂ (λ x y. place + length (leaves_of w v x y)) p q;
  numbers = λ c. t c ∙ ap₂ (λ x y. need v x y c) p q;
  rows = r ∙ ap₂ (λ x y. old ++ sum_rows w v x y) p q;
}

-- the whole, from both halves
pub next_whole : (w : ℕ) (all : List (Cidr × Verdict)) (from len : ℕ) (h : Halves w all from len) (mid next : ℕ) (low high : Needs) (a b c : List NeedRow)
    → WalkedHalf w (verdict_at w all) h.open_bits (2 * h.bits) from mid low a b → WalkedHalf w (verdict_at w all) h.open_bits (2 * h.bits + 1) mid next high b c
    → next ≡ from + length (leaves_of w (verdict_at w all) (w - len) (bits_at w all from len))
next_whole w all from len h mid next low high a b c l u =
    let v : ℕ → Verdict = verdict_at w all in
    let e : length (leaves_of w v (w - len) (bits_at w all from len)) ≡ length (leaves_of w v (suc h.open_bits) h.bits) = ap₂ (λ k n. length (leaves_of w v k n)) h.open_is h.bits_is in
    omega (arith, l.stops, u.stops, e, ap length (leaves_of-mixed w v h.open_bits h.bits h.mixed), length-append (leaves_of w v h.open_bits (2 * h.bits)) (leaves_of w v h.open_bits (2 * h.bits + 1)))

pub sums_fit : (w : ℕ) (all : List (Cidr × Verdict)) (from len : ℕ) (h : Halves w all from len) → BeginAt w all from len → (mid next : ℕ) (low high : Needs) (a b c : List NeedRow)
    → WalkedHalf w (verdict_at w all) h.open_bits (2 * h.bits) from mid low a b → WalkedHalf w (verdict_at w all) h.open_bits (2 * h.bits + 1) mid next high b c
    → (x : Verdict) → number low x + number high x ≤ length all
sums_fit w all from len h begins mid next low high a b c l u x =
    let v : ℕ → Verdict = verdict_at w all in
    omega (
      arith,
      l.numbers x,
      u.numbers x,
      need-leaves w v h.open_bits (2 * h.bits) x,
      need-leaves w v h.open_bits (2 * h.bits + 1) x,
      l.stops,
      u.stops,
      next_whole w all from len h mid next low high a b c l u,
      fits_at w all from len begins,
    )

pub needs_whole : (w : ℕ) (all : List (Cidr × Verdict)) (from len : ℕ) (h : Halves w all from len) (mid next : ℕ) (low high sums result : Needs) (a b c : List NeedRow)
    → WalkedHalf w (verdict_at w all) h.open_bits (2 * h.bits) from mid low a b → WalkedHalf w (verdict_at w all) h.open_bits (2 * h.bits + 1) mid next high b c
    → ((x : Verdict) → number sums x ≡ number low x + number high x) → ((x : Verdict) → number result x ≡ at_mixed (number sums) x)
    → (x : Verdict) → number result x ≡ need (verdict_at w all) (w - len) (bits_at w all from len) x
needs_whole w all from len h mid next low high sums result a b c l u s r x =
    let v : ℕ → Verdict = verdict_at w all in
    let both : number sums ≡ need_of_halves v h.open_bits h.bits = fun_ext (λ y. s y ∙ ap₂ (λ p q. p + q) (l.numbers y) (u.numbers y)) in
    r x ∙ ap (λ f. at_mixed f x) both ∙ sym (need-mixed v h.open_bits h.bits x h.mixed) ∙ ap₂ (λ k n. need v k n x) (sym h.open_is) (sym h.bits_is)

-- the row that was left open is filled in
pub rows_whole : (w : ℕ) (all : List (Cidr × Verdict)) (from len : ℕ) (h : Halves w all from len) (mid next : ℕ) (low high sums : Needs) (old b c : List NeedRow) (hole row : NeedRow) (place : ℕ)
    → WalkedHalf w (verdict_at w all) h.open_bits (2 * h.bits) from mid low (old ++ hole ∷ []) b → WalkedHalf w (verdict_at w all) h.open_bits (2 * h.bits + 1) mid next high b c
    → ((x : Verdict) → number sums x ≡ number low x + number high x) → row ≡ record { prefix = prefix_of w (suc h.open_bits) h.bits; needs = sums } → length old ≡ place
    → set c place row ≡ old ++ sum_rows w (verdict_at w all) (w - len) (bits_at w all from len)
rows_whole w all from len h mid next low high sums old b c hole row place l u s e p =
    let v : ℕ → Verdict = verdict_at w all in
    let sl : List NeedRow = sum_rows w v h.open_bits (2 * h.bits) in
    let su : List NeedRow = sum_rows w v h.open_bits (2 * h.bits + 1) in
    let flat : c ≡ old ++ hole ∷ (sl ++ su) =
    u.rows ∙ ap (λ xs. xs ++ su) l.rows ∙ ap (λ xs. xs ++ su) (append_assoc old (hole ∷ []) sl) ∙ append_assoc old (hole ∷ sl) su in
    let own : row ≡ record { prefix = prefix_of w (suc h.open_bits) h.bits; needs = sums_of v h.open_bits h.bits } =
    e ∙ ap (λ needs. record { prefix = prefix_of w (suc h.open_bits) h.bits; needs = needs }) (sums_of-same v h.open_bits h.bits sums (λ y. s y ∙ ap₂ (λ p q. p + q) (l.numbers y) (u.numbers y))) in
    ap (λ xs. set xs place row) flat ∙ set_at old hole (sl ++ su) row place p ∙ ap (λ r. old ++ r ∷ (sl ++ su)) own
    ∙ ap (λ xs. old ++ xs) (sym (sum_rows-mixed w v h.open_bits h.bits h.mixed)) ∙ ap₂ (λ k n. old ++ sum_rows w v k n) (sym h.open_is) (sym h.bits_is)

-- both halves have been walked over
pub record Both (w : ℕ) (all : List (Cidr × Verdict)) (from len mid next : ℕ) (lows highs : Needs) (a b c : List NeedRow) : Type 0 where
  pub at : Halves w all from len
  pub begins : BeginAt w all from len
  pub low : WalkedHalf w (verdict_at w all) at.open_bits (2 * at.bits) from mid lows a b
  pub high : WalkedHalf w (verdict_at w all) at.open_bits (2 * at.bits + 1) mid next highs b c

pub both_walked : (w : ℕ) (leaves : List (Cidr × Verdict)) (from len : ℕ) (r : Cidr × Verdict) → len ≤ w → (begins : BeginAt w leaves from len)
    → r ≡ get_or leaves from r → (r.0.len ≡ len → ⊥) → (mid next : ℕ) (lows highs : Needs) (a b c : List NeedRow)
    → mid ≡ from + length (leaves_of w (verdict_at w leaves) (w - (len + 1)) (bits_at w leaves from (len + 1)))
    → ((x : Verdict) → number lows x ≡ need (verdict_at w leaves) (w - (len + 1)) (bits_at w leaves from (len + 1)) x)
    → b ≡ a ++ sum_rows w (verdict_at w leaves) (w - (len + 1)) (bits_at w leaves from (len + 1))
    → next ≡ mid + length (leaves_of w (verdict_at w leaves) (w - (len + 1)) (bits_at w leaves mid (len + 1)))
    → ((x : Verdict) → number highs x ≡ need (verdict_at w leaves) (w - (len + 1)) (bits_at w leaves mid (len + 1)) x)
    → c ≡ b ++ sum_rows w (verdict_at w leaves) (w - (len + 1)) (bits_at w leaves mid (len + 1))
    → Both w leaves from len mid next lows highs a b c
both_walked w leaves from len r h begins e ne mid next lows highs a b c p q s p' q' s' =
    let all : List (Cidr × Verdict) = leaves in
    let v : ℕ → Verdict = verdict_at w all in
    let at : Halves w all from len = halves_read w leaves from len r h begins e ne in
    record {
      at = at;
      begins = begins;
      low = walked_half w v at.open_bits (2 * at.bits) from mid lows a b (w - (len + 1)) (bits_at w all from (len + 1)) at.half_open at.low_bits p q s;
      high = walked_half w v at.open_bits (2 * at.bits + 1) mid next highs b c (w - (len + 1)) (bits_at w all mid (len + 1)) at.half_open (high_bits_at w all from len at mid p) p' q' s';
    }

-- the prefix that the code makes
pub read_prefix : (w : ℕ) (leaves : List (Cidr × Verdict)) (from len : ℕ) (r : Cidr × Verdict) → (begins : BeginAt w leaves from len)
    → r ≡ get_or leaves from r → (h : Halves w leaves from len) → (start : ℕ) → start ≡ r.0.start → (p : Cidr) → p ≡ record { start = cut_of w start len; len = len } → len ≤ w
    → p ≡ prefix_of w (suc h.open_bits) h.bits
read_prefix w leaves from len r begins e h start s p is le =
    let first : FirstLeaf w (verdict_at w leaves) (w - len) (bits_at w leaves from len) = first_at w leaves from len in
    let own : start ≡ lowest (suc h.open_bits) h.bits = s ∙ ap (λ l. l.0.start) (leaf_read w leaves from len r begins e) ∙ first.start ∙ ap₂ lowest h.open_is h.bits_is in
    let cut : cut_of w start len ≡ lowest (suc h.open_bits) h.bits =
    ap₂ (λ x j. x / 2 ^ j * 2 ^ j) own h.open_is ∙ ap (λ m. m * 2 ^ (suc h.open_bits)) (lies-lowest (suc h.open_bits) h.bits) in
    let long : len ≡ w - suc h.open_bits = omega (arith, h.open_is) in
    is ∙ (λ i. record { start = cut i; len = long i })

-- the rule, as the code gives it
pub ruled_from : (r s : Needs) → ((c : Verdict) → number r c ≡ at_mixed (number s) c) → r ≡ ruled s
ruled_from r s h = same_needs r (ruled s) (h Fail) (h SoftFail) (h Pass) (h Neutral)

pub number-ruled : (s : Needs) (c : Verdict) → number (ruled s) c ≡ at_mixed (number s) c
number-ruled s Fail = refl
number-ruled s SoftFail = refl
number-ruled s Pass = refl
number-ruled s Neutral = refl

ruled-sums_of : (v : ℕ → Verdict) (k n : ℕ) → is_mixed v (suc k) n ≡ true → ruled (sums_of v k n) ≡ needs_of v (suc k) n
ruled-sums_of v k n m =
    let e : (c : Verdict) → number (ruled (sums_of v k n)) c ≡ need v (suc k) n c = λ c.
    number-ruled (sums_of v k n) c ∙ ap (λ f. at_mixed f c) (number-sums_of v k n) ∙ sym (need-mixed v k n c m) in
    same_needs (ruled (sums_of v k n)) (needs_of v (suc k) n) (e Fail) (e SoftFail) (e Pass) (e Neutral)

-- the rule makes the rows of needs from the sums
pub ruled-sum_rows : (w : ℕ) (v : ℕ → Verdict) (k n : ℕ) → map ruled_row (sum_rows w v k n) ≡ need_rows w v k n
ruled-sum_rows w v zero n = ap (map ruled_row) (sum_rows-plain w v zero n (one-plain v n)) ∙ sym (need_rows-plain w v zero n (one-plain v n))
ruled-sum_rows w v (suc k) n = elim (cases_Bool (is_mixed v (suc k) n)) [
  | inr m ↦ ap (map ruled_row) (sum_rows-plain w v (suc k) n m) ∙ sym (need_rows-plain w v (suc k) n m)
  | inl m ↦ ap (map ruled_row) (sum_rows-mixed w v k n m)
      ∙ ap₂ (λ needs rows. record { prefix = prefix_of w (suc k) n; needs = needs } ∷ rows) (ruled-sums_of v k n m)
      (map-append ruled_row (sum_rows w v k (2 * n)) (sum_rows w v k (2 * n + 1)) ∙ ap₂ (λ x y. x ++ y) (ruled-sum_rows w v k (2 * n)) (ruled-sum_rows w v k (2 * n + 1)))
      ∙ sym (need_rows-mixed w v k n m)
]

-- at a whole trie
pub begin_all : (w : ℕ) (all : List (Cidr × Verdict)) → AreLeaves w all → BeginAt w all 0 0
begin_all w all e = begin_at w all [] 0 0 w 0 (le_refl w) (sub-zero w) (e ∙ sym (append-nil (leaves_of w (verdict_at w all) w 0)))

pub bits_all : (w : ℕ) (all : List (Cidr × Verdict)) → AreLeaves w all → bits_at w all 0 0 ≡ 0
bits_all w all e = bits_at-of w (verdict_at w all) all [] 0 0 w 0 (le_refl w) (sub-zero w) (e ∙ sym (append-nil (leaves_of w (verdict_at w all) w 0)))

pub sums_all : (w : ℕ) (all : List (Cidr × Verdict)) → AreLeaves w all → sums_at w all 0 0 ≡ sum_rows w (verdict_at w all) w 0
sums_all w all e = ap₂ (λ k n. sum_rows w (verdict_at w all) k n) (sub-zero w) (bits_all w all e)

pub need_all : (w : ℕ) (all : List (Cidr × Verdict)) → AreLeaves w all → (c : Verdict) → need_at w all 0 0 c ≡ need (verdict_at w all) w 0 c
need_all w all e c = ap₂ (λ k n. need (verdict_at w all) k n c) (sub-zero w) (bits_all w all e)

pub terms_all : (w : ℕ) (all : List (Cidr × Verdict)) → AreLeaves w all → (c : Verdict) → terms_at w all 0 0 c ≡ chosen w (verdict_at w all) w 0 c
terms_all w all e c = ap₂ (λ k n. chosen w (verdict_at w all) k n c) (sub-zero w) (bits_all w all e)
