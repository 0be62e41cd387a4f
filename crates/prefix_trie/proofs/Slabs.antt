-- What a slab spells: a node opened at its key, and what a change elsewhere leaves as it was.
use Rattle.std.specs.Prelude.{IfSome}
use Rattle.std.proofs.Common.{◌≡◌, ℕ, zero, suc, ◌+◌, ◌-◌, ◌<◌, ◌≤◌, ◌⊎◌, ⊎_elim, inl, inr, Bool, false, Some, None, arith, refl, sym, ap, ◌∙◌, subst}
use Rattle.addr_bits.specs.Width.{bit_of, cut_of}
use Rattle.addr_bits.specs.Prefix.{Cidr, IsCidr, Covers, lower_half, upper_half}
use Rattle.addr_bits.proofs.Cidrs.{bit_cases, bit_of-Covers, cut_of-Covers, Covers-lower_half, Covers-upper_half, Covers-from_lower, Covers-from_upper, range_from_Covers, lower_half-IsCidr, upper_half-IsCidr}
use Rattle.slab.specs.Slab.{Slab, get, ContainsKey, Updates}
use Rattle.prefix_trie.specs.Leaves.{whole_cidr}
use Rattle.prefix_trie.specs.Node.{leaves_of}
use Rattle.prefix_trie.specs.declared.node.Node.{Node}
use Rattle.prefix_trie.specs.declared.node.Node.TheVariants.{Leaf, At}
use Rattle.prefix_trie.specs.declared.node.Branch.{Branch}
use Rattle.prefix_trie.specs.declared.node.Branch.TheVariants.{Fork, Path}
use Rattle.prefix_trie.specs.Tree.{Tree, Whole, Halved}
use Rattle.prefix_trie.specs.Trie.{Trie, One, Forked, Pathed, trie_at, path_tree, tree_of, one_has, IsNode, IsBranch, IsKey, reach_of, Spells, Holds, IsHeld, read, listed, view_of_root, Inside, KeepsOutside, Extends, IsBelow, IsHalved, IsEntered}
use Rattle.prefix_trie.proofs.Bridge.{trie_at-inside, trie_at-outside, trie_at-lower, trie_at-upper}

-- ---- prefixes
pub same_cidr : (p q : Cidr) → p.start ≡ q.start → p.len ≡ q.len → p ≡ q
same_cidr p q e f = ap (λ (s : ℕ). record { start = s; len = p.len }) e ∙ ap (λ (l : ℕ). record { start = q.start; len = l }) f

-- a prefix covers what one below it does
pub covers_through : (bits : ℕ) (p q : Cidr) (a : ℕ) → q.len ≤ bits → IsBelow bits p q → Covers bits q a → Covers bits p a
covers_through bits p q a h b c = cut_of-Covers bits q a p.len h b.longer c ∙ b.covered

-- of the same length they are the same
pub same_below : (bits : ℕ) (p q : Cidr) → IsCidr bits q → IsBelow bits p q → q.len ≡ p.len → q ≡ p
same_below bits p q n b e = same_cidr q p (sym n.cut ∙ ap (λ (l : ℕ). cut_of bits q.start l) e ∙ b.covered) e

pub below_lower : (bits : ℕ) (p : Cidr) → IsCidr bits p → p.len < bits → IsBelow bits p (lower_half p)
below_lower bits p n h = record { longer = omega arith; covered = n.cut }

pub below_upper : (bits : ℕ) (p : Cidr) → IsCidr bits p → p.len < bits → IsBelow bits p (upper_half bits p)
below_upper bits p n h = record { longer = omega arith; covered = Covers-from_upper bits p _ n h (upper_half-IsCidr bits p n h).cut }

pub halves_apart : (bits : ℕ) (p : Cidr) (a : ℕ) → Covers bits (lower_half p) a → Covers bits (upper_half bits p) a → ⊥
halves_apart bits p a c d =
    let r = range_from_Covers bits (lower_half p) a c in
    let s = range_from_Covers bits (upper_half bits p) a d in
    omega (arith, r.1, s.0)

-- a longer prefix in one half
pub lower_below : (bits : ℕ) (p q h : Cidr) → h ≡ lower_half p → p.len < q.len → p.len < bits → Covers bits p q.start → bit_of bits q.start p.len ≡ 0 → IsBelow bits h q
lower_below bits p q h e l s c z = subst (λ (k : Cidr). IsBelow bits k q) (sym e) (record { longer = omega arith; covered = Covers-lower_half bits p q.start s c z })

pub upper_below : (bits : ℕ) (p q h : Cidr) → h ≡ upper_half bits p → p.len < q.len → p.len < bits → Covers bits p q.start → bit_of bits q.start p.len ≡ 1 → IsBelow bits h q
upper_below bits p q h e l s c z = subst (λ (k : Cidr). IsBelow bits k q) (sym e) (record { longer = omega arith; covered = Covers-upper_half bits p q.start s c z })

-- the longest prefix above two lies below each that is above both
pub common_below : (bits : ℕ) (p q r c : Cidr) → IsBelow bits p q → IsBelow bits p r → IsCidr bits q → IsCidr bits c → c.len ≤ q.len → c.len ≤ r.len → Covers bits c q.start
    → (c.len < q.len → c.len < r.len → bit_of bits q.start c.len ≡ bit_of bits r.start c.len → ⊥) → IsBelow bits p c
common_below bits p q r c b d n m h k v differ = record { longer = long; covered = sym (cut_of-Covers bits c q.start p.len m.short long v) ∙ b.covered }
  where
    total : (i j : ℕ) → (i ≤ j) ⊎ (j < i)
    total zero j = inl (omega arith)
    total (suc i) zero = inr (omega arith)
    total (suc i) (suc j) = ⊎_elim (λ l. inl (omega arith)) (λ l. inr (omega arith)) (total i j)

    long : p.len ≤ c.len
    long = ⊎_elim (λ l. l)
        (λ (l : c.len < p.len).
        absurd (differ (omega (arith, b.longer)) (omega (arith, d.longer))
        (bit_of-Covers bits p q.start c.len (omega (arith, b.longer, n.short)) l b.covered
        ∙ sym (bit_of-Covers bits p r.start c.len (omega (arith, b.longer, n.short)) l d.covered))))
        (total p.len c.len)

-- ---- a node opened
pub record IsForkOf {W V : Type 0} (s : Slab (Branch W V)) (r : Cidr) (x y : Node V) (t : Trie V) : Type 0 where
  pub l : Trie V
  pub u : Trie V
  pub is : t ≡ Forked r l u
  pub low : Spells s x l
  pub high : Spells s y u

pub fork_opens : {W V : Type 0} (s : Slab (Branch W V)) (n : Node V) (k : ℕ) (r : Cidr) (x y : Node V) (t : Trie V) → n ≡ At k → get s k ≡ Some (Fork r x y) → Spells s n t → IsForkOf s r x y t
fork_opens s n k r x y (One v) i g h = absurd (cc)
fork_opens {W} {V} s n k r x y (Forked p l u) i g (k', x', y', e, g', sx, sy) =
    let ek : k' ≡ k = cc in
    let g2 : get s k ≡ Some (Fork p x' y') = subst (λ m. get s m ≡ Some (Fork p x' y')) ek g' in
    let ep : p ≡ r = cc in
    let ex : x' ≡ x = cc in
    let ey : y' ≡ y = cc in
    record { l = l; u = u; is = ap (λ (c : Cidr). Forked c l u) ep; low = subst (λ m. Spells s m l) ex sx; high = subst (λ m. Spells s m u) ey sy }
fork_opens {W} {V} s n k r x y (Pathed q b m) i g (k', x', e, g', sx) =
    let ek : k' ≡ k = cc in
    let g2 : get s k ≡ Some (Path q b x') = subst (λ j. get s j ≡ Some (Path q b x')) ek g' in
    absurd (cc)

pub record IsPathOf {W V : Type 0} (s : Slab (Branch W V)) (q : Cidr) (b : V) (x : Node V) (t : Trie V) : Type 0 where
  pub m : Trie V
  pub is : t ≡ Pathed q b m
  pub within : Spells s x m

pub path_opens : {W V : Type 0} (s : Slab (Branch W V)) (n : Node V) (k : ℕ) (q : Cidr) (b : V) (x : Node V) (t : Trie V) → n ≡ At k → get s k ≡ Some (Path q b x) → Spells s n t → IsPathOf s q b x t
path_opens s n k q b x (One v) i g h = absurd (cc)
path_opens {W} {V} s n k q b x (Forked p l u) i g (k', x', y', e, g', sx, sy) =
    let ek : k' ≡ k = cc in
    let g2 : get s k ≡ Some (Fork p x' y') = subst (λ m. get s m ≡ Some (Fork p x' y')) ek g' in
    absurd (cc)
path_opens {W} {V} s n k q b x (Pathed q' b' m) i g (k', x', e, g', sx) =
    let ek : k' ≡ k = cc in
    let g2 : get s k ≡ Some (Path q' b' x') = subst (λ j. get s j ≡ Some (Path q' b' x')) ek g' in
    let eq : q' ≡ q = cc in
    let eb : b' ≡ b = cc in
    let ex : x' ≡ x = cc in
    record { m = m; is = ap (λ (c : Cidr). Pathed c b' m) eq ∙ ap (λ c. Pathed q c m) eb; within = subst (λ j. Spells s j m) ex sx }

pub leaf_opens : {W V : Type 0} (s : Slab (Branch W V)) (n : Node V) (v : V) (t : Trie V) → n ≡ Leaf v → Spells s n t → t ≡ One v
leaf_opens s n v (One w) i h = let e : w ≡ v = cc in ap (λ x. One x) e
leaf_opens s n v (Forked p l u) i (k', x', y', e, g', sx, sy) = absurd (cc)
leaf_opens s n v (Pathed q b m) i (k', x', e, g', sx) = absurd (cc)

pub contains : {W V : Type 0} (s : Slab (Branch W V)) (n : Node V) (k : ℕ) (t : Trie V) → n ≡ At k → Spells s n t → ContainsKey s k
contains s n k (One v) i h = absurd (cc)
contains {W} {V} s n k (Forked p l u) i (k', x', y', e, g', sx, sy) =
    let ek : k' ≡ k = cc in
    subst (λ m. ContainsKey s m) ek (rw g' refl)
contains {W} {V} s n k (Pathed q b m) i (k', x', e, g', sx) =
    let ek : k' ≡ k = cc in
    subst (λ m. ContainsKey s m) ek (rw g' refl)

-- a slab and a node spell one thing
pub spells_once : {W V : Type 0} (s : Slab (Branch W V)) (n : Node V) (t t' : Trie V) → Spells s n t → Spells s n t' → t ≡ t'
spells_once s n (One v) t' h h' = sym (leaf_opens s n v t' h h')
spells_once s n (Forked p l u) t' (k, x, y, e, g, sx, sy) h' =
    let o = fork_opens s n k p x y t' e g h' in
    ap (λ c. Forked p c u) (spells_once s x l o.l sx o.low) ∙ ap (λ c. Forked p o.l c) (spells_once s y u o.u sy o.high) ∙ sym o.is
spells_once s n (Pathed q b m) t' (k, x, e, g, sx) h' =
    let o = path_opens s n k q b x t' e g h' in
    ap (λ c. Pathed q b c) (spells_once s x m o.m sx o.within) ∙ sym o.is

-- ---- what a change elsewhere leaves
pub inside_through : {W V : Type 0} (bits : ℕ) (p q : Cidr) (b : Branch W V) → q.len ≤ bits → IsBelow bits p q → Inside bits q b → Inside bits p b
inside_through bits p q (Fork r x y) h d i = (omega (arith, d.longer, i.0), covers_through bits p q r.start h d i.1)
inside_through bits p q (Path r v x) h d i = (omega (arith, d.longer, i.0), covers_through bits p q r.start h d i.1)

pub insides_apart : {W V : Type 0} (bits : ℕ) (p : Cidr) (b : Branch W V) → Inside bits (lower_half p) b → Inside bits (upper_half bits p) b → ⊥
insides_apart bits p (Fork r x y) i j = halves_apart bits p r.start i.1 j.1
insides_apart bits p (Path r v x) i j = halves_apart bits p r.start i.1 j.1

abbrev pub KeepsInside : {W V : Type 0} → (bits : ℕ) → Cidr → Slab (Branch W V) → Slab (Branch W V) → Type 0
KeepsInside {W} {V} bits p old new = (k : ℕ) (b : Branch W V) → get old k ≡ Some b → Inside bits p b → get new k ≡ Some b

pub spells_kept : {W V : Type 0} (bits : ℕ) (eq : V → V → Bool) (p : Cidr) (s s' : Slab (Branch W V)) (n : Node V) (t : Trie V) → IsCidr bits p → KeepsInside bits p s s' → IsNode bits eq p t → Spells s n t → Spells s' n t
spells_kept bits eq p s s' n (One v) c keeps i h = h
spells_kept {W} {V} bits eq p s s' n (Forked r l u) c keeps i (k, x, y, e, g, sx, sy) =
    let inside : Inside {W = W} bits p (Fork r x y) = (omega (arith, ap (λ (z : Cidr). z.len) i.0), ap (λ (z : Cidr). cut_of bits z.start p.len) i.0 ∙ c.cut) in (
      k,
      x,
      y,
      e,
      keeps k (Fork r x y) g inside,
      spells_kept bits eq (lower_half p) s s' x l (lower_half-IsCidr bits p c i.1) (λ j b f d. keeps j b f (inside_through bits p (lower_half p) b (omega (arith, i.1)) (below_lower bits p c i.1) d)) i.3 sx,
      spells_kept bits eq (upper_half bits p) s s' y u (upper_half-IsCidr bits p c i.1) (λ j b f d. keeps j b f (inside_through bits p (upper_half bits p) b (omega (arith, i.1)) (below_upper bits p c i.1) d)) i.4 sy,
    )
spells_kept bits eq p s s' n (Pathed q b m) c keeps i (k, x, e, g, sx) =
    let below : IsBelow bits p q = record { longer = omega (arith, i.1); covered = i.2 } in (
      k,
      x,
      e,
      keeps k (Path q b x) g (i.1, i.2),
      spells_kept bits eq q s s' x m i.0 (λ j b' f d. keeps j b' f (inside_through bits p q b' (i.0).short below d)) i.4 sx,
    )

pub holds_kept : {W V : Type 0} (bits : ℕ) (eq : V → V → Bool) (p : Cidr) (s s' : Slab (Branch W V)) (n : Node V) (t : Trie V) → IsCidr bits p → KeepsInside bits p s s' → Holds bits eq s p n t → Holds bits eq s' p n t
holds_kept bits eq p s s' n t c keeps h = record { spelled = spells_kept bits eq p s s' n t c keeps h.placed h.spelled; placed = h.placed }

pub spells_extends : {W V : Type 0} (s s' : Slab (Branch W V)) (n : Node V) (t : Trie V) → Extends s s' → Spells s n t → Spells s' n t
spells_extends s s' n (One v) x h = h
spells_extends s s' n (Forked r l u) z (k, x, y, e, g, sx, sy) = (k, x, y, e, z k (Fork r x y) g, spells_extends s s' x l z sx, spells_extends s s' y u z sy)
spells_extends s s' n (Pathed q b m) z (k, x, e, g, sx) = (k, x, e, z k (Path q b x) g, spells_extends s s' x m z sx)

pub holds_extends : {W V : Type 0} (bits : ℕ) (eq : V → V → Bool) (p : Cidr) (s s' : Slab (Branch W V)) (n : Node V) (t : Trie V) → Extends s s' → Holds bits eq s p n t → Holds bits eq s' p n t
holds_extends bits eq p s s' n t x h = record { spelled = spells_extends s s' n t x h.spelled; placed = h.placed }

pub held_extends : {W V : Type 0} (bits : ℕ) (eq : V → V → Bool) (p : Cidr) (s s' : Slab (Branch W V)) (n : Node V) → Extends s s' → IsHeld bits eq s p n → IsHeld bits eq s' p n
held_extends bits eq p s s' n x h = record { trie = h.trie; holds = holds_extends bits eq p s s' n h.trie x h.holds }

pub extends_through : {W V : Type 0} (s s' s'' : Slab (Branch W V)) → Extends s s' → Extends s' s'' → Extends s s''
extends_through s s' s'' x y k b g = y k b (x k b g)

pub removed_inside : {W V : Type 0} (bits : ℕ) (p : Cidr) (s s' : Slab (Branch W V)) (key : ℕ) (b : Branch W V) → Updates s s' key None → get s key ≡ Some b → (Inside bits p b → ⊥) → KeepsInside bits p s s'
removed_inside {W} {V} bits p s s' key b up g n k b' g' i = up.others k other ∙ g'
  where
    other : k ≡ key → ⊥
    other e =
        let h : get s key ≡ Some b' = subst (λ m. get s m ≡ Some b') e g' in
        let f : b' ≡ b = cc in
        n (subst (Inside bits p) f i)

pub removed_outside : {W V : Type 0} (bits : ℕ) (p : Cidr) (s s' : Slab (Branch W V)) (key : ℕ) (b : Branch W V) → Updates s s' key None → get s key ≡ Some b → Inside bits p b → KeepsOutside bits p s s'
removed_outside {W} {V} bits p s s' key b up g i k b' g' n = up.others k other ∙ g'
  where
    other : k ≡ key → ⊥
    other e =
        let h : get s key ≡ Some b' = subst (λ m. get s m ≡ Some b') e g' in
        let f : b ≡ b' = cc in
        n (subst (Inside bits p) f i)

pub outside_through : {W V : Type 0} (bits : ℕ) (p : Cidr) (s s' s'' : Slab (Branch W V)) → KeepsOutside bits p s s' → KeepsOutside bits p s' s'' → KeepsOutside bits p s s''
outside_through bits p s s' s'' x y k b g n = y k b (x k b g n) n

pub outside_below : {W V : Type 0} (bits : ℕ) (p q : Cidr) (s s' : Slab (Branch W V)) → q.len ≤ bits → IsBelow bits p q → KeepsOutside bits q s s' → KeepsOutside bits p s s'
outside_below bits p q s s' h d x k b g n = x k b g (λ i. n (inside_through bits p q b h d i))

pub outside_extends : {W V : Type 0} (bits : ℕ) (p : Cidr) (s s' : Slab (Branch W V)) → Extends s s' → KeepsOutside bits p s s'
outside_extends bits p s s' x k b g n = x k b g

-- ---- what is read off at the root
pub read-holds : {W V : Type 0} (bits : ℕ) (eq : V → V → Bool) (p : Cidr) (s : Slab (Branch W V)) (n : Node V) (t : Trie V) (steps : ℕ) → p.len ≤ bits → bits < steps + p.len → IsNode bits eq p t → Spells s n t → read steps s n ≡ Some t
read-holds bits eq p s n t zero h l i z = absurd (omega arith)
read-holds bits eq p s n (One v) (suc f) h l i z = rw z refl
read-holds bits eq p s n (Forked r a b) (suc f) h l i (k, x, y, e, g, sx, sy) =
    let ex : read f s x ≡ Some a = read-holds bits eq (lower_half p) s x a f (omega (arith, i.1)) (omega arith) i.3 sx in
    let ey : read f s y ≡ Some b = read-holds bits eq (upper_half bits p) s y b f (omega (arith, i.1)) (omega arith) i.4 sy in
    rw (e, g, ex, ey) refl
read-holds bits eq p s n (Pathed q b m) (suc f) h l i (k, x, e, g, sx) =
    let ex : read f s x ≡ Some m = read-holds bits eq q s x m f (i.0).short (omega (arith, i.1)) i.4 sx in
    rw (e, g, ex) refl

pub view-holds : {W V : Type 0} (bits : ℕ) (eq : V → V → Bool) (s : Slab (Branch W V)) (n : Node V) (t : Trie V) → Holds bits eq s whole_cidr n t → view_of_root bits s n ≡ leaves_of bits whole_cidr (tree_of bits 0 t)
view-holds bits eq s n t h = ap (listed bits) (read-holds bits eq whole_cidr s n t (suc bits) (omega arith) (omega arith) h.placed h.spelled)

-- ---- the halves of a node
path_steps : {V : Type 0} (bits start len to : ℕ) (b : V) (t : Tree V) → len < to → path_tree bits start len (to - len) b t ≡ path_tree bits start len (suc (to - (len + 1))) b t
path_steps bits start len to b t h = let e : to - len ≡ suc (to - (len + 1)) = omega arith in ap (λ (k : ℕ). path_tree bits start len k b t) e

step_upper : {V : Type 0} (bits start len to : ℕ) (b : V) (t : Tree V) → len < to → bit_of bits start len ≡ 1 → path_tree bits start len (to - len) b t ≡ Halved (Whole b) (path_tree bits start (len + 1) (to - (len + 1)) b t)
step_upper bits start len to b t h z = path_steps bits start len to b t h ∙ rw z refl

step_lower : {V : Type 0} (bits start len to : ℕ) (b : V) (t : Tree V) → len < to → bit_of bits start len ≡ 0 → path_tree bits start len (to - len) b t ≡ Halved (path_tree bits start (len + 1) (to - (len + 1)) b t) (Whole b)
step_lower bits start len to b t h z = path_steps bits start len to b t h ∙ rw z refl

no_steps : {V : Type 0} (bits start len to : ℕ) (b : V) (t : Trie V) → to ≡ len → path_tree bits start len (to - len) b (tree_of bits to t) ≡ tree_of bits len t
no_steps bits start len to b t e =
    let z : to - len ≡ 0 = omega arith in
    rw z (ap (λ (k : ℕ). tree_of bits k t) e)

pub halved_leaf : {W V : Type 0} (bits : ℕ) (eq : V → V → Bool) (s : Slab (Branch W V)) (p : Cidr) (n : Node V) (v : V) (t : Trie V) → n ≡ Leaf v → Holds bits eq s p n t → IsHalved bits eq s p t n n
halved_leaf {W} {V} bits eq s p n v t i h =
    let e : t ≡ One v = leaf_opens s n v t i h.spelled in
    let one : Spells s n (One v) = i in
    rw e (record {
      l = One v;
      u = One v;
      lower_holds = record { spelled = one; placed = tt };
      upper_holds = record { spelled = one; placed = tt };
      low = λ a c. refl;
      high = λ a c. refl;
      tree = λ b. absurd b;
    })

pub halved_fork : {W V : Type 0} (bits : ℕ) (eq : V → V → Bool) (s : Slab (Branch W V)) (p : Cidr) (n : Node V) (k : ℕ) (r : Cidr) (x y x' y' : Node V) (t : Trie V) → IsCidr bits p → n ≡ At k → get s k ≡ Some (Fork r x y) → x' ≡ x → y' ≡ y → Holds bits eq s p n t → IsHalved bits eq s p t x' y'
halved_fork {W} {V} bits eq s p n k r x y x' y' t v i g ex ey h = at (fork_opens s n k r x y t i g h.spelled)
  where
    at : IsForkOf s r x y t → IsHalved bits eq s p t x' y'
    at o =
        let placed : IsNode bits eq p (Forked r o.l o.u) = subst (IsNode bits eq p) o.is h.placed in
        rw (o.is, ex, ey) (record {
          l = o.l;
          u = o.u;
          lower_holds = record { spelled = o.low; placed = placed.3 };
          upper_holds = record { spelled = o.high; placed = placed.4 };
          low = λ a c. trie_at-lower bits r o.l o.u a (ap (λ (z : Cidr). bit_of bits a z.len) placed.0 ∙ bit_low a c placed.1);
          high = λ a c. trie_at-upper bits r o.l o.u a (ap (λ (z : Cidr). bit_of bits a z.len) placed.0 ∙ bit_high a c placed.1);
          tree = λ b. refl;
        })
      where
        bit_low : (a : ℕ) → Covers bits (lower_half p) a → p.len < bits → bit_of bits a p.len ≡ 0
        bit_low a c l = ⊎_elim (λ z. z) (λ z. absurd (halves_apart bits p a c (Covers-upper_half bits p a l (Covers-from_lower bits p a v l c) z))) (bit_cases bits a p.len)

        bit_high : (a : ℕ) → Covers bits (upper_half bits p) a → p.len < bits → bit_of bits a p.len ≡ 1
        bit_high a c l = ⊎_elim (λ z. absurd (halves_apart bits p a (Covers-lower_half bits p a l (Covers-from_upper bits p a v l c) z) c)) (λ z. z) (bit_cases bits a p.len)

-- the node for the half in which a path's end lies
pub record IsHalfway {W V : Type 0} (bits : ℕ) (eq : V → V → Bool) (s : Slab (Branch W V)) (half q : Cidr) (b : V) (m : Trie V) (n : Node V) : Type 0 where
  pub trie : Trie V
  pub holds : Holds bits eq s half n trie
  pub at : (a : ℕ) → Covers bits half a → trie_at bits (Pathed q b m) a ≡ trie_at bits trie a
  pub tree : path_tree bits q.start half.len (q.len - half.len) b (tree_of bits q.len m) ≡ tree_of bits half.len trie

pub halfway : {W V : Type 0} (bits : ℕ) (eq : V → V → Bool) (s : Slab (Branch W V)) (half q : Cidr) (b : V) (m : Trie V) (n below x : Node V) → IsCidr bits q → IsBelow bits half q → one_has eq m b ≡ false → IsNode bits eq q m → Spells s x m → Spells s n (Pathed q b m)
    → ((q.len ≡ half.len) × (below ≡ x)) ⊎ ((q.len ≡ half.len → ⊥) × (below ≡ n)) → IsHalfway bits eq s half q b m below
halfway {W} {V} bits eq s half q b m n below x v d f i sx sn c = ⊎_elim at_end on_way c
  where
    at_end : (q.len ≡ half.len) × (below ≡ x) → IsHalfway bits eq s half q b m below
    at_end e =
        let same : q ≡ half = same_below bits half q v d e.0 in
        record {
          trie = m;
          holds = record { spelled = subst (λ z. Spells s z m) (sym e.1) sx; placed = subst (λ (z : Cidr). IsNode bits eq z m) same i };
          at = λ a c. trie_at-inside bits q b m a (subst (λ (z : Cidr). Covers bits z a) (sym same) c);
          tree = no_steps bits q.start half.len q.len b m e.0;
        }

    on_way : (q.len ≡ half.len → ⊥) × (below ≡ n) → IsHalfway bits eq s half q b m below
    on_way e = record {
      trie = Pathed q b m;
      holds = record { spelled = subst (λ z. Spells s z (Pathed q b m)) (sym e.1) sn; placed = (v, omega (arith, d.longer, e.0), d.covered, f, i) };
      at = λ a c. refl;
      tree = refl;
    }

pub halved_path_upper : {W V : Type 0} (bits : ℕ) (eq : V → V → Bool) (s : Slab (Branch W V)) (p : Cidr) (n : Node V) (k : ℕ) (q : Cidr) (b : V) (x below : Node V) (t : Trie V) → p.len < bits → n ≡ At k → get s k ≡ Some (Path q b x) → bit_of bits q.start p.len ≡ 1
    → ((q.len ≡ p.len + 1) × (below ≡ x)) ⊎ ((q.len ≡ p.len + 1 → ⊥) × (below ≡ n)) → Holds bits eq s p n t → IsHalved bits eq s p t (Leaf b) below
halved_path_upper {W} {V} bits eq s p n k q b x below t l i g z c h = at (path_opens s n k q b x t i g h.spelled)
  where
    at : IsPathOf s q b x t → IsHalved bits eq s p t (Leaf b) below
    at o =
        let placed : IsNode bits eq p (Pathed q b o.m) = subst (IsNode bits eq p) o.is h.placed in
        let spelled : Spells s n (Pathed q b o.m) = subst (Spells s n) o.is h.spelled in
        let d : IsBelow bits (upper_half bits p) q = upper_below bits p q (upper_half bits p) refl placed.1 l placed.2 z in
        let w : IsHalfway bits eq s (upper_half bits p) q b o.m below = halfway bits eq s (upper_half bits p) q b o.m n below x placed.0 d placed.3 placed.4 o.within spelled c in
        rw o.is (record {
          l = One b;
          u = w.trie;
          lower_holds = record { spelled = refl; placed = tt };
          upper_holds = w.holds;
          low = λ a c. trie_at-outside bits q b o.m a (λ y. halves_apart bits p a c (covers_through bits (upper_half bits p) q a (placed.0).short d y));
          high = w.at;
          tree = λ y. step_upper bits q.start p.len q.len b (tree_of bits q.len o.m) placed.1 z ∙ ap (λ r. Halved (Whole b) r) w.tree;
        })

pub halved_path_lower : {W V : Type 0} (bits : ℕ) (eq : V → V → Bool) (s : Slab (Branch W V)) (p : Cidr) (n : Node V) (k : ℕ) (q : Cidr) (b : V) (x below : Node V) (t : Trie V) → p.len < bits → n ≡ At k → get s k ≡ Some (Path q b x) → bit_of bits q.start p.len ≡ 0
    → ((q.len ≡ p.len + 1) × (below ≡ x)) ⊎ ((q.len ≡ p.len + 1 → ⊥) × (below ≡ n)) → Holds bits eq s p n t → IsHalved bits eq s p t below (Leaf b)
halved_path_lower {W} {V} bits eq s p n k q b x below t l i g z c h = at (path_opens s n k q b x t i g h.spelled)
  where
    at : IsPathOf s q b x t → IsHalved bits eq s p t below (Leaf b)
    at o =
        let placed : IsNode bits eq p (Pathed q b o.m) = subst (IsNode bits eq p) o.is h.placed in
        let spelled : Spells s n (Pathed q b o.m) = subst (Spells s n) o.is h.spelled in
        let d : IsBelow bits (lower_half p) q = lower_below bits p q (lower_half p) refl placed.1 l placed.2 z in
        let w : IsHalfway bits eq s (lower_half p) q b o.m below = halfway bits eq s (lower_half p) q b o.m n below x placed.0 d placed.3 placed.4 o.within spelled c in
        rw o.is (record {
          l = w.trie;
          u = One b;
          lower_holds = w.holds;
          upper_holds = record { spelled = refl; placed = tt };
          low = w.at;
          high = λ a c. trie_at-outside bits q b o.m a (λ y. halves_apart bits p a (covers_through bits (lower_half p) q a (placed.0).short d y) c);
          tree = λ y. step_lower bits q.start p.len q.len b (tree_of bits q.len o.m) placed.1 z ∙ ap (λ r. Halved r (Whole b)) w.tree;
        })

-- ---- the node on the way down a path
pub entered_path : {W V : Type 0} (bits : ℕ) (eq : V → V → Bool) (s : Slab (Branch W V)) (p c : Cidr) (n : Node V) (k : ℕ) (q : Cidr) (b : V) (x below : Node V) (t : Trie V) → n ≡ At k → get s k ≡ Some (Path q b x)
    → ((u : Trie V) → Spells s n u → IfSome (reach_of u) (IsBelow bits c))
    → ((q.len ≡ c.len) × (below ≡ x)) ⊎ ((q.len ≡ c.len → ⊥) × (below ≡ n)) → Holds bits eq s p n t → IsEntered bits eq s p c t b below
entered_path {W} {V} bits eq s p c n k q b x below t i g reached e h = at (path_opens s n k q b x t i g h.spelled)
  where
    at : IsPathOf s q b x t → IsEntered bits eq s p c t b below
    at o =
        let placed : IsNode bits eq p (Pathed q b o.m) = subst (IsNode bits eq p) o.is h.placed in
        let spelled : Spells s n (Pathed q b o.m) = subst (Spells s n) o.is h.spelled in
        let d : IsBelow bits c q = reached (Pathed q b o.m) spelled in
        let w : IsHalfway bits eq s c q b o.m below = halfway bits eq s c q b o.m n below x placed.0 d placed.3 placed.4 o.within spelled e in
        rw o.is (record {
          trie = w.trie;
          holds = w.holds;
          within = w.at;
          around = λ a v z. trie_at-outside bits q b o.m a (λ y. z (covers_through bits c q a (placed.0).short d y));
        })

-- ---- the prefix of a branch
-- a node under a key is no single value, and its prefix has halves
pub key_branches : {W V : Type 0} (s : Slab (Branch W V)) (n : Node V) (t : Trie V) → IsKey n → Spells s n t → IsBranch t
key_branches s n (One v) k h = let f : IsKey (Leaf v) = subst IsKey h k in absurd f
key_branches s n (Forked r l u) k h = tt
key_branches s n (Pathed q b m) k h = tt

pub branch_short : {V : Type 0} (bits : ℕ) (eq : V → V → Bool) (p : Cidr) (t : Trie V) → IsBranch t → IsNode bits eq p t → p.len < bits
branch_short bits eq p (One v) b i = absurd b
branch_short bits eq p (Forked r l u) b i = i.1
branch_short bits eq p (Pathed q v m) b i = omega (arith, i.1, (i.0).short)

pub held_short : {W V : Type 0} (bits : ℕ) (eq : V → V → Bool) (s : Slab (Branch W V)) (p : Cidr) (n : Node V) → IsKey n → IsHeld bits eq s p n → p.len < bits
held_short bits eq s p n k h = branch_short bits eq p h.trie (key_branches s n h.trie k h.holds.spelled) h.holds.placed
