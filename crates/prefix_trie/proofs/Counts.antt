-- How many branches the slab holds after each step.
use Rattle.std.proofs.Common.{◌≡◌, ℕ, ◌+◌, Bool, true, [], count_by, is_some, arith, refl, sym, ap, ◌∙◌, subst}
use Rattle.addr_bits.specs.Prefix.{Cidr, IsCidr, lower_half, upper_half}
use Rattle.addr_bits.proofs.Cidrs.{lower_half-IsCidr, upper_half-IsCidr}
use Rattle.slab.specs.Slab.{Slab, slab_len}
use Rattle.prefix_trie.specs.declared.node.Node.{Node}
use Rattle.prefix_trie.specs.declared.node.Node.TheVariants.{Leaf}
use Rattle.prefix_trie.specs.declared.node.Branch.{Branch}
use Rattle.prefix_trie.specs.declared.node.Branch.TheVariants.{Fork, Path}
use Rattle.prefix_trie.specs.Trie.{Trie, One, Forked, Pathed, absorbs, branches_of, Spells, Holds, IsHeld, KeepsOutside, Extends, IsKept, IsKeptAt, IsCounted, GainsBranches, LosesBranches, SwapsBranches, JoinsBranches}
use Rattle.prefix_trie.proofs.Slabs.{fork_opens, path_opens, leaf_opens, spells_once, spells_extends, holds_kept}
use Rattle.prefix_trie.proofs.Puts.{IsTakenFork, IsTakenPath, other_low, other_high}

-- ---- one count for one node
module _ {W V : Type 0} (s : Slab (Branch W V)) (n : Node V) where
  pub same_count : (t u : Trie V) → Spells s n t → Spells s n u → branches_of t ≡ branches_of u
  same_count t u h k = ap (λ (x : Trie V). branches_of x) (spells_once s n t u h k)

  pub leaf_count : (v : V) (t : Trie V) → n ≡ Leaf v → Spells s n t → branches_of t ≡ 0
  leaf_count v t i h = ap (λ (x : Trie V). branches_of x) (leaf_opens s n v t i h)

absorbs_count : {V : Type 0} (eq : V → V → Bool) (t u : Trie V) → absorbs eq t u ≡ true → branches_of t ≡ 0
absorbs_count eq (One v) u i = refl
absorbs_count eq (Forked p l k) u i = absurd (cc)
absorbs_count eq (Pathed q b m) u i = absurd (cc)

-- to reserve changes no length
pub reserve_len : {W V : Type 0} (s s' : Slab (Branch W V)) (n : ℕ) → s' ≡ record s { capacity = n } → slab_len s' ≡ slab_len s
reserve_len s s' n e = ap (λ z. slab_len z) e

-- ---- nodes made of others
module _ {W V : Type 0} (s : Slab (Branch W V)) (x y : Node V) where
  pub low_absorbed : (eq : V → V → Bool) → ((t u : Trie V) → Spells s x t → Spells s y u → absorbs eq t u ≡ true) → JoinsBranches s x y s y
  low_absorbed eq f t u w ht hu hw = omega (arith, absorbs_count eq t u (f t u ht hu), same_count s y u w hu hw)

  pub high_absorbed : (eq : V → V → Bool) → ((t u : Trie V) → Spells s y t → Spells s x u → absorbs eq t u ≡ true) → JoinsBranches s x y s x
  high_absorbed eq f t u w ht hu hw = omega (arith, absorbs_count eq u t (f u t hu ht), same_count s x t w ht hw)

  pub fork_counts : (s' : Slab (Branch W V)) (n : Node V) (p : Cidr) → Extends s s' → IsKeptAt s' n (Fork p x y) → slab_len s' ≡ slab_len s + 1 → JoinsBranches s x y s' n
  fork_counts s' n p ex (k, i, g) len t u w ht hu hw =
      let o = fork_opens s' n k p x y w i g hw in
      omega (arith, len, ap (λ (z : Trie V). branches_of z) o.is, same_count s' x t o.l (spells_extends s s' x t ex ht) o.low, same_count s' y u o.u (spells_extends s s' y u ex hu) o.high)

module _ {W V : Type 0} (s : Slab (Branch W V)) (x : Node V) where
  pub same_swap : SwapsBranches s x s x
  same_swap t u ht hu = omega (arith, same_count s x t u ht hu)

  pub path_counts : (s' : Slab (Branch W V)) (n : Node V) (q : Cidr) (b : V) → Extends s s' → IsKeptAt s' n (Path q b x) → slab_len s' ≡ slab_len s + 1 → SwapsBranches s x s' n
  path_counts s' n q b ex (k, i, g) len t w ht hw =
      let o = path_opens s' n k q b x w i g hw in
      omega (arith, len, ap (λ (z : Trie V). branches_of z) o.is, same_count s' x t o.m (spells_extends s s' x t ex ht) o.within)

-- a node of two others, and what it spells
pub record IsJoining {W V : Type 0} (s : Slab (Branch W V)) (x y : Node V) (s' : Slab (Branch W V)) (n : Node V) : Type 0 where
  pub trie : Trie V
  pub spelled : Spells s' n trie
  pub counted : JoinsBranches s x y s' n

pub joining : {W V : Type 0} (s : Slab (Branch W V)) (x y : Node V) (s' s'' : Slab (Branch W V)) (n n' : Node V) → s'' ≡ s' → n' ≡ n → (t : Trie V) → Spells s' n t → JoinsBranches s x y s' n → IsJoining s x y s'' n'
joining s x y s' s'' n n' es e t h f = rw (es, e) (record { trie = t; spelled = h; counted = f })

-- two nodes below a third
pub part_counts : {W V : Type 0} (s0 s1 s2 s3 s4 : Slab (Branch W V)) (x y x' y' n n' : Node V) (to tn : Trie V) → Extends s0 s1 → Extends s1 s2
    → Spells s1 x' to → Spells s2 y' tn → SwapsBranches s0 x s1 x' → SwapsBranches s1 y s2 y' → IsJoining s2 x' y' s3 n → SwapsBranches s3 n s4 n' → JoinsBranches s0 x y s4 n'
part_counts s0 s1 s2 s3 s4 x y x' y' n n' to tn e1 e2 ho hn a b f w t u k ht hu hk =
    omega (arith, a t to ht ho, b u tn (spells_extends s0 s1 y u e1 hu) hn, f.counted to tn f.trie (spells_extends s1 s2 x' to e2 ho) hn f.spelled, w f.trie k f.spelled hk)

pub joins_swapped : {W V : Type 0} (s s' : Slab (Branch W V)) (x y n : Node V) → JoinsBranches s x y s' n → JoinsBranches s y x s' n
joins_swapped s s' x y n f t u w ht hu hw = omega (arith, f u t w hu ht hw)

-- ---- branches that are dropped
pub leaf_loses : {W V : Type 0} (s : Slab (Branch W V)) (n : Node V) (v : V) → n ≡ Leaf v → LosesBranches s n s
leaf_loses s n v i t h = omega (arith, leaf_count s n v t i h)

module _ {W V : Type 0} (bits : ℕ) (eq : V → V → Bool) (s s1 : Slab (Branch W V)) (p : Cidr) (n : Node V) (h : IsHeld bits eq s p n) (len : slab_len s1 + 1 ≡ slab_len s) where
  module _ (r : Cidr) (x y : Node V) (v : IsCidr bits p) (taken : (t : Trie V) → Holds bits eq s p n t → IsTakenFork bits eq s1 p r x y t) where
    fork_count : (t : Trie V) → Spells s n t → branches_of t ≡ 1 + (branches_of (taken h.trie h.holds).l + branches_of (taken h.trie h.holds).u)
    fork_count t ht = same_count s n t h.trie ht h.holds.spelled ∙ ap (λ (z : Trie V). branches_of z) (taken h.trie h.holds).is

    low_spelled : (s2 : Slab (Branch W V)) → KeepsOutside bits (upper_half bits p) s1 s2 → Spells s2 x (taken h.trie h.holds).l
    low_spelled s2 o = let k = taken h.trie h.holds in (holds_kept bits eq (lower_half p) s1 s2 x k.l (lower_half-IsCidr bits p v k.room) (other_low bits p s1 s2 o) k.low).spelled

    high_spelled : (s2 : Slab (Branch W V)) → KeepsOutside bits (lower_half p) s1 s2 → Spells s2 y (taken h.trie h.holds).u
    high_spelled s2 o = let k = taken h.trie h.holds in (holds_kept bits eq (upper_half bits p) s1 s2 y k.u (upper_half-IsCidr bits p v k.room) (other_high bits p s1 s2 o) k.high).spelled

    pub fork_loses : (s2 s3 : Slab (Branch W V)) → KeepsOutside bits (lower_half p) s1 s2 → LosesBranches s1 x s2 → LosesBranches s2 y s3 → LosesBranches s n s3
    fork_loses s2 s3 o a b t ht =
        let k = taken h.trie h.holds in
        omega (arith, len, fork_count t ht, a k.l k.low.spelled, b k.u (high_spelled s2 o))

    -- a half is set
    pub high_swaps : (s2 s3 : Slab (Branch W V)) (y' n' : Node V) (z : Trie V) → KeepsOutside bits (upper_half bits p) s1 s2 → Spells s2 y' z → SwapsBranches s1 y s2 y' → JoinsBranches s2 x y' s3 n' → SwapsBranches s n s3 n'
    high_swaps s2 s3 y' n' z o hz a b t w ht hw =
        let k = taken h.trie h.holds in
        omega (arith, len, fork_count t ht, a k.u z k.high.spelled hz, b k.l z w (low_spelled s2 o) hz hw)

    pub low_swaps : (s2 s3 : Slab (Branch W V)) (x' n' : Node V) (z : Trie V) → KeepsOutside bits (lower_half p) s1 s2 → Spells s2 x' z → SwapsBranches s1 x s2 x' → JoinsBranches s2 x' y s3 n' → SwapsBranches s n s3 n'
    low_swaps s2 s3 x' n' z o hz a b t w ht hw =
        let k = taken h.trie h.holds in
        omega (arith, len, fork_count t ht, a k.l z k.low.spelled hz, b z k.u w hz (high_spelled s2 o) hw)

    -- a half is kept
    pub high_stays : (s2 s3 : Slab (Branch W V)) (y' n' : Node V) → IsKept bits eq (upper_half bits p) s1 y s2 y' → SwapsBranches s1 y s2 y' → slab_len s3 ≡ slab_len s2 + 1 → IsKept bits eq p s n s3 n' → SwapsBranches s n s3 n'
    high_stays s2 s3 y' n' kept a more all t w ht hw =
        let k = taken h.trie h.holds in
        omega (arith, len, more, a k.u k.u k.high.spelled (kept k.u k.high).spelled, same_count s n t h.trie ht h.holds.spelled, same_count s3 n' w h.trie hw (all h.trie h.holds).spelled)

    pub low_stays : (s2 s3 : Slab (Branch W V)) (x' n' : Node V) → IsKept bits eq (lower_half p) s1 x s2 x' → SwapsBranches s1 x s2 x' → slab_len s3 ≡ slab_len s2 + 1 → IsKept bits eq p s n s3 n' → SwapsBranches s n s3 n'
    low_stays s2 s3 x' n' kept a more all t w ht hw =
        let k = taken h.trie h.holds in
        omega (arith, len, more, a k.l k.l k.low.spelled (kept k.l k.low).spelled, same_count s n t h.trie ht h.holds.spelled, same_count s3 n' w h.trie hw (all h.trie h.holds).spelled)

  module _ (q : Cidr) (b : V) (x : Node V) (taken : (t : Trie V) → Holds bits eq s p n t → IsTakenPath bits eq s1 p q b x t) where
    path_count : (t : Trie V) → Spells s n t → branches_of t ≡ 1 + branches_of (taken h.trie h.holds).m
    path_count t ht = same_count s n t h.trie ht h.holds.spelled ∙ ap (λ (z : Trie V). branches_of z) (taken h.trie h.holds).is

    pub path_loses : (s2 : Slab (Branch W V)) → LosesBranches s1 x s2 → LosesBranches s n s2
    path_loses s2 a t ht =
        let k = taken h.trie h.holds in
        omega (arith, len, path_count t ht, a k.m k.inner.spelled)

    pub inner_swaps : (s2 s3 : Slab (Branch W V)) (x' n' : Node V) (z : Trie V) → Spells s2 x' z → SwapsBranches s1 x s2 x' → SwapsBranches s2 x' s3 n' → SwapsBranches s n s3 n'
    inner_swaps s2 s3 x' n' z hz a c t w ht hw =
        let k = taken h.trie h.holds in
        omega (arith, len, path_count t ht, a k.m z k.inner.spelled hz, c z w hz hw)

    pub inner_stays : (s2 s3 : Slab (Branch W V)) (x' n' : Node V) → IsKept bits eq q s1 x s2 x' → SwapsBranches s1 x s2 x' → slab_len s3 ≡ slab_len s2 + 1 → IsKept bits eq p s n s3 n' → SwapsBranches s n s3 n'
    inner_stays s2 s3 x' n' kept a more all t w ht hw =
        let k = taken h.trie h.holds in
        omega (arith, len, more, a k.m k.m k.inner.spelled (kept k.m k.inner).spelled, same_count s n t h.trie ht h.holds.spelled, same_count s3 n' w h.trie hw (all h.trie h.holds).spelled)

    pub over_swaps : (s2 s3 : Slab (Branch W V)) (value : V) (n' : Node V) → LosesBranches s1 x s2 → SwapsBranches s2 (Leaf value) s3 n' → SwapsBranches s n s3 n'
    over_swaps s2 s3 value n' a c t w ht hw =
        let k = taken h.trie h.holds in
        omega (arith, len, path_count t ht, a k.m k.inner.spelled, c (One value) w refl hw)

    pub beside_swaps : (s2 : Slab (Branch W V)) (value : V) (n' : Node V) → JoinsBranches s1 x (Leaf value) s2 n' → SwapsBranches s n s2 n'
    beside_swaps s2 value n' c t w ht hw =
        let k = taken h.trie h.holds in
        omega (arith, len, path_count t ht, c k.m (One value) w k.inner.spelled refl hw)

    pub path_stays : (s2 : Slab (Branch W V)) (n' : Node V) → slab_len s2 ≡ slab_len s1 + 1 → IsKept bits eq p s n s2 n' → SwapsBranches s n s2 n'
    path_stays s2 n' more all t w ht hw = omega (arith, len, more, same_count s n t h.trie ht h.holds.spelled, same_count s2 n' w h.trie hw (all h.trie h.holds).spelled)

module _ {W V : Type 0} (s s' : Slab (Branch W V)) (n : Node V) where
  pub whole_swaps : (x : Node V) (value : V) → x ≡ n → LosesBranches s x s' → SwapsBranches s n s' (Leaf value)
  whole_swaps x value i a t w ht hw = omega (arith, a t (subst (λ z. Spells s z t) (sym i) ht), leaf_count s' (Leaf value) value w refl hw)

  pub leaf_swaps : (old value : V) (n' : Node V) → n ≡ Leaf old → SwapsBranches s (Leaf value) s' n' → SwapsBranches s n s' n'
  leaf_swaps old value n' i a t w ht hw = omega (arith, leaf_count s n old t i ht, a (One value) w refl hw)

-- ---- a node made in another slab
module _ {W V : Type 0} where
  pub fork_gains : (s0 s1 s2 s3 s4 : Slab (Branch W V)) (x y n : Node V) (l u : Trie V) → Extends s1 s3 → Extends s2 s3 → slab_len s3 ≡ slab_len s2 → Spells s1 x l → Spells s2 y u
      → GainsBranches s0 s1 x → GainsBranches s1 s2 y → JoinsBranches s3 x y s4 n → GainsBranches s0 s4 n
  fork_gains s0 s1 s2 s3 s4 x y n l u e1 e2 len hl hu a b c w hw =
      omega (arith, len, a l hl, b u hu, c l u w (spells_extends s1 s3 x l e1 hl) (spells_extends s2 s3 y u e2 hu) hw)

  pub path_gains : (s0 s1 s2 s3 : Slab (Branch W V)) (x n : Node V) (m : Trie V) → Extends s1 s2 → slab_len s2 ≡ slab_len s1 → Spells s1 x m → GainsBranches s0 s1 x → SwapsBranches s2 x s3 n → GainsBranches s0 s3 n
  path_gains s0 s1 s2 s3 x n m e len hm a c w hw = omega (arith, len, a m hm, c m w (spells_extends s1 s2 x m e hm) hw)

  pub leaf_gains : (s : Slab (Branch W V)) (v : V) → GainsBranches s s (Leaf v)
  leaf_gains s v t h = omega (arith, leaf_count s (Leaf v) v t refl h)

  -- ---- the root
  pub no_branches : (s : Slab (Branch W V)) → s.slots ≡ [] → slab_len s ≡ 0
  no_branches s e = ap (λ k. count_by is_some k) e

  pub leaf_counted : (s : Slab (Branch W V)) (v : V) → s.slots ≡ [] → IsCounted s (Leaf v)
  leaf_counted s v e t h = no_branches s e ∙ sym (leaf_count s (Leaf v) v t refl h)

  pub gained_counted : (s s' : Slab (Branch W V)) (n : Node V) → s.slots ≡ [] → GainsBranches s s' n → IsCounted s' n
  gained_counted s s' n e a t h = omega (arith, no_branches s e, a t h)

  pub reserved_counted : (s s' : Slab (Branch W V)) (n : Node V) (t : Trie V) → Extends s s' → slab_len s' ≡ slab_len s → Spells s n t → IsCounted s n → IsCounted s' n
  reserved_counted s s' n t e len h a w hw = omega (arith, len, a t h, same_count s' n t w (spells_extends s s' n t e h) hw)

  pub swapped_counted : (s s1 s2 : Slab (Branch W V)) (n n' : Node V) (t : Trie V) → Extends s s1 → slab_len s1 ≡ slab_len s → Spells s n t → IsCounted s n → SwapsBranches s1 n s2 n' → IsCounted s2 n'
  swapped_counted s s1 s2 n n' t e len h a b w hw = omega (arith, len, a t h, b t w (spells_extends s s1 n t e h) hw)
