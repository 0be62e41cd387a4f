-- Where a term stands to a prefix and to its halves.
use Rattle.std.proofs.Common.{ℕ, suc, ◌≡◌, ◌+◌, ◌-◌, ◌*◌, ◌/◌, ◌^◌, ◌<◌, ◌≤◌, ◌==◌, nat_lt, nat_le, true, false, ◌⊎◌, inl, inr, refl, sym, ◌∙◌, ap, arith, shr-shr, div-one, lt-ltb, le-ltb, eq-eqb, eqb-true, ltb-true, ne_eqb, le-leb, mul-div_cancel, pow_pos}
use Rattle.std.proofs.lemmas.Bool.{lt-leb, and_from, and_left, and_right, cases_order, cases_eq, cases_lt, and_parts, false≢true}
use Rattle.addr_bits.specs.Blocks.{lowest}
use Rattle.spf_grammar.specs.FirstMatch.{Reach, everything, nothing, below, reaches, is_above, is_within}

-- a prefix of k + 1 open bits and first bits n: the term is above it, is it, lies in a half, or lies elsewhere
pub data Place (r : Reach) (k n : ℕ) : Type 0 where
  over_it : is_above r (suc k) n ≡ true → is_above r k (2 * n) ≡ true → is_above r k (2 * n + 1) ≡ true → Place r k n
  at_it : is_above r (suc k) n ≡ false → is_within r (suc k) n ≡ true → is_above r k (2 * n) ≡ true → is_above r k (2 * n + 1) ≡ true → Place r k n
  in_low : is_above r (suc k) n ≡ false → is_within r (suc k) n ≡ true → is_above r k (2 * n) ≡ false → is_within r k (2 * n) ≡ true → is_above r k (2 * n + 1) ≡ false → is_within r k (2 * n + 1) ≡ false → Place r k n
  in_high : is_above r (suc k) n ≡ false → is_within r (suc k) n ≡ true → is_above r k (2 * n) ≡ false → is_within r k (2 * n) ≡ false → is_above r k (2 * n + 1) ≡ false → is_within r k (2 * n + 1) ≡ true → Place r k n
  elsewhere : is_above r (suc k) n ≡ false → is_within r (suc k) n ≡ false → is_above r k (2 * n) ≡ false → is_within r k (2 * n) ≡ false → is_above r k (2 * n + 1) ≡ false → is_within r k (2 * n + 1) ≡ false → Place r k n

-- one bit less of a number
pub drop_bit_first : (x d : ℕ) → x / 2 ^ (suc d) ≡ x / 2 / 2 ^ d
drop_bit_first x d = ap (λ t. x / 2 ^ t) (omega arith) ∙ sym (shr-shr x 1 d)

pub drop_bit_last : (x d : ℕ) → x / 2 ^ (suc d) ≡ x / 2 ^ d / 2
drop_bit_last x d = ap (λ t. x / 2 ^ t) (omega arith) ∙ sym (shr-shr x d 1)

pub drop_none : (x d : ℕ) → d ≡ 0 → x / 2 ^ d ≡ x
drop_none x d e = ap (λ t. x / 2 ^ t) e ∙ div-one x

above_from : (j m k n : ℕ) → k < j → n / 2 ^ (j - k) ≡ m → is_above (below j m) k n ≡ true
above_from j m k n h e = and_from (nat_lt k j) (n / 2 ^ (j - k) == m) (lt-ltb k j h) (eq-eqb (n / 2 ^ (j - k)) m e)

pub above_short : (j m k n : ℕ) → j ≤ k → is_above (below j m) k n ≡ false
above_short j m k n h = and_left (nat_lt k j) (n / 2 ^ (j - k) == m) (le-ltb k j h)

above_other : (j m k n : ℕ) → (n / 2 ^ (j - k) ≡ m → ⊥) → is_above (below j m) k n ≡ false
above_other j m k n h = and_right (nat_lt k j) (n / 2 ^ (j - k) == m) (ne_eqb (n / 2 ^ (j - k)) m h)

within_from : (j m k n : ℕ) → j ≤ k → m / 2 ^ (k - j) ≡ n → is_within (below j m) k n ≡ true
within_from j m k n h e = and_from (nat_le j k) (m / 2 ^ (k - j) == n) (le-leb j k h) (eq-eqb (m / 2 ^ (k - j)) n e)

within_long : (j m k n : ℕ) → k < j → is_within (below j m) k n ≡ false
within_long j m k n h = and_left (nat_le j k) (m / 2 ^ (k - j) == n) (lt-leb j k h)

within_other : (j m k n : ℕ) → (m / 2 ^ (k - j) ≡ n → ⊥) → is_within (below j m) k n ≡ false
within_other j m k n h = and_right (nat_le j k) (m / 2 ^ (k - j) == n) (ne_eqb (m / 2 ^ (k - j)) n h)

-- the first bits of a half without those past the term's are those of the whole
half_without : (h k n j : ℕ) → k < j → h / 2 ≡ n → h / 2 ^ (j - k) ≡ n / 2 ^ (j - suc k)
half_without h k n j lt e =
    ap (λ t. h / 2 ^ t) (omega arith) ∙ drop_bit_first h (j - suc k) ∙ ap (λ x. x / 2 ^ (j - suc k)) e

-- and the other way round, for a term that is longer
term_without : (m k j : ℕ) → j ≤ k → m / 2 ^ (suc k - j) ≡ m / 2 ^ (k - j) / 2
term_without m k j le = ap (λ t. m / 2 ^ t) (omega arith) ∙ drop_bit_last m (k - j)

place_longer : (j m k n : ℕ) → j ≤ k → Place (below j m) k n
place_longer j m k n le = elim (cases_eq (m / 2 ^ (k - j) / 2) n) [
  | inl e ↦ elim (cases_eq (m / 2 ^ (k - j)) (2 * n)) [
    | inl f ↦ in_low (above_short j m (suc k) n (omega arith)) (within_from j m (suc k) n (omega arith) (term_without m k j le ∙ e))
        (above_short j m k (2 * n) le) (within_from j m k (2 * n) le f)
        (above_short j m k (2 * n + 1) le) (within_other j m k (2 * n + 1) (λ g. omega arith))
    | inr f ↦ in_high (above_short j m (suc k) n (omega arith)) (within_from j m (suc k) n (omega arith) (term_without m k j le ∙ e))
        (above_short j m k (2 * n) le) (within_other j m k (2 * n) f)
        (above_short j m k (2 * n + 1) le) (within_from j m k (2 * n + 1) le (omega arith))
  ]
  | inr e ↦ elsewhere (above_short j m (suc k) n (omega arith)) (within_other j m (suc k) n (λ g. e (sym (term_without m k j le) ∙ g)))
      (above_short j m k (2 * n) le) (within_other j m k (2 * n) (λ g. e (ap (λ x. x / 2) g ∙ omega arith)))
      (above_short j m k (2 * n + 1) le) (within_other j m k (2 * n + 1) (λ g. e (ap (λ x. x / 2) g ∙ omega arith)))
]

place_equal : (j m k n : ℕ) → j ≡ suc k → Place (below j m) k n
place_equal j m k n q =
    let low : (2 * n) / 2 ^ (j - k) ≡ n = half_without (2 * n) k n j (omega arith) (omega arith) ∙ drop_none n (j - suc k) (omega arith) in
    let high : (2 * n + 1) / 2 ^ (j - k) ≡ n = half_without (2 * n + 1) k n j (omega arith) (omega arith) ∙ drop_none n (j - suc k) (omega arith) in
    elim (cases_eq n m) [
      | inl e ↦ at_it (above_short j m (suc k) n (omega arith)) (within_from j m (suc k) n (omega arith) (drop_none m (suc k - j) (omega arith) ∙ sym e))
          (above_from j m k (2 * n) (omega arith) (low ∙ e)) (above_from j m k (2 * n + 1) (omega arith) (high ∙ e))
      | inr e ↦ elsewhere (above_short j m (suc k) n (omega arith)) (within_other j m (suc k) n (λ g. e (sym (sym (drop_none m (suc k - j) (omega arith)) ∙ g))))
          (above_other j m k (2 * n) (λ g. e (sym low ∙ g))) (within_long j m k (2 * n) (omega arith))
          (above_other j m k (2 * n + 1) (λ g. e (sym high ∙ g))) (within_long j m k (2 * n + 1) (omega arith))
    ]

place_shorter : (j m k n : ℕ) → suc k < j → Place (below j m) k n
place_shorter j m k n lt =
    let low : (2 * n) / 2 ^ (j - k) ≡ n / 2 ^ (j - suc k) = half_without (2 * n) k n j (omega arith) (omega arith) in
    let high : (2 * n + 1) / 2 ^ (j - k) ≡ n / 2 ^ (j - suc k) = half_without (2 * n + 1) k n j (omega arith) (omega arith) in
    elim (cases_eq (n / 2 ^ (j - suc k)) m) [
      | inl e ↦ over_it (above_from j m (suc k) n lt e) (above_from j m k (2 * n) (omega arith) (low ∙ e)) (above_from j m k (2 * n + 1) (omega arith) (high ∙ e))
      | inr e ↦ elsewhere (above_other j m (suc k) n e) (within_long j m (suc k) n lt)
          (above_other j m k (2 * n) (λ g. e (sym low ∙ g))) (within_long j m k (2 * n) (omega arith))
          (above_other j m k (2 * n + 1) (λ g. e (sym high ∙ g))) (within_long j m k (2 * n + 1) (omega arith))
    ]

pub place : (r : Reach) (k n : ℕ) → Place r k n
place everything k n = over_it refl refl refl
place nothing k n = elsewhere refl refl refl refl refl refl
place (below j m) k n = elim (cases_order j (suc k)) [
  | inl e ↦ place_equal j m k n e
  | inr h ↦ elim h [ inl lt ↦ place_longer j m k n (omega arith) | inr gt ↦ place_shorter j m k n gt ]
]

-- the bits of an address without the last j, in two steps
bits_in_steps : (a i j : ℕ) → i ≤ j → a / 2 ^ i / 2 ^ (j - i) ≡ a / 2 ^ j
bits_in_steps a i j h = shr-shr a i (j - i) ∙ ap (λ t. a / 2 ^ t) (omega arith)

-- a term that covers an address of a prefix is above the prefix or within it
pub reaches-place : (r : Reach) (k n a : ℕ) → a / 2 ^ k ≡ n → reaches r a ≡ true → (is_above r k n ≡ true) ⊎ (is_within r k n ≡ true)
reaches-place everything k n a e h = inl refl
reaches-place nothing k n a e h = absurd (false≢true h)
reaches-place (below j m) k n a e h = elim (cases_lt k j) [
  | inl lt ↦ inl (above_from j m k n lt (ap (λ x. x / 2 ^ (j - k)) (sym e) ∙ bits_in_steps a k j (omega arith) ∙ eqb-true (a / 2 ^ j) m h))
  | inr le ↦ inr (within_from j m k n le (ap (λ x. x / 2 ^ (k - j)) (sym (eqb-true (a / 2 ^ j) m h)) ∙ bits_in_steps a j k le ∙ e))
]

-- a term above a prefix covers each of its addresses
pub reaches-above : (r : Reach) (k n a : ℕ) → a / 2 ^ k ≡ n → is_above r k n ≡ true → reaches r a ≡ true
reaches-above everything k n a e h = refl
reaches-above nothing k n a e h = absurd (false≢true h)
reaches-above (below j m) k n a e h =
    let parts = and_parts (nat_lt k j) (n / 2 ^ (j - k) == m) h in
    let lt : k < j = ltb-true k j parts.0 in
    eq-eqb (a / 2 ^ j) m (sym (bits_in_steps a k j (omega arith)) ∙ ap (λ x. x / 2 ^ (j - k)) e ∙ eqb-true (n / 2 ^ (j - k)) m parts.1)

-- the addresses of a half are addresses of the whole
pub lies-half : (h k n a : ℕ) → h / 2 ≡ n → a / 2 ^ k ≡ h → a / 2 ^ (suc k) ≡ n
lies-half h k n a e f = drop_bit_last a k ∙ ap (λ x. x / 2) f ∙ e

-- the lowest address of a prefix lies in it
pub lies-lowest : (k n : ℕ) → lowest k n / 2 ^ k ≡ n
lies-lowest k n = mul-div_cancel n (pow_pos k)
