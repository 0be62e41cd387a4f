-- The node of answers on the values of two nodes, from those of the nodes below.
use Rattle.std.proofs.Common.{◌≡◌, ℕ, ◌<◌, ⊎_elim, Bool, refl, sym, ap, ◌∙◌, subst}
use Rattle.std.specs.Prelude.{Result, Ok}
use Rattle.std.specs.Cmp.{IsEquivalence}
use Rattle.std.proofs.lemmas.Bool.Decides.{eqb_tells}
use Rattle.addr_bits.specs.Width.{cut_of}
use Rattle.addr_bits.specs.Prefix.{Cidr, Covers, lower_half, upper_half}
use Rattle.slab.specs.Slab.{Slab, get}
use Rattle.prefix_trie.specs.Leaves.{IsAnswer}
use Rattle.prefix_trie.specs.declared.node.Node.{Node}
use Rattle.prefix_trie.specs.declared.node.Node.TheVariants.{Leaf}
use Rattle.prefix_trie.specs.declared.node.Branch.{Branch}
use Rattle.prefix_trie.specs.Trie.{Trie, One, trie_at, Holds, IsHeld, Extends, IsHalved, IsEntered, IsForked, IsPathed, IsJoined}
use Rattle.prefix_trie.proofs.Slabs.{leaf_opens, holds_extends}
use Rattle.prefix_trie.proofs.Least.{halves_cover}

-- to reserve changes no value
pub reserve_extends : {W V : Type 0} (s s' : Slab (Branch W V)) (n : ℕ) → s' ≡ record s { capacity = n } → Extends s s'
reserve_extends s s' n e k b g = ap (λ z. get z k) e ∙ g

pub entered_held : {W V : Type 0} (bits : ℕ) (eq : V → V → Bool) (s : Slab (Branch W V)) (p c : Cidr) (n x : Node V) (b : V) (h : IsHeld bits eq s p n) → ((t : Trie V) → Holds bits eq s p n t → IsEntered bits eq s p c t b x) → IsHeld bits eq s c x
entered_held bits eq s p c n x b h f = let r = f h.trie h.holds in record { trie = r.trie; holds = r.holds }

pub joined_held : {W V U X E : Type 0} (bits : ℕ) (veq : V → V → Bool) (ueq : U → U → Bool) (eq : X → X → Bool) (answers : V → U → Result X E → Type 0) (p q : Cidr) (ls : Slab (Branch W V)) (x : Node V) (rs : Slab (Branch W U)) (y : Node U) (s s' : Slab (Branch W X)) (n : Node X)
    → q ≡ p → Extends s s' → IsJoined bits veq ueq eq answers q ls x rs y s n → IsHeld bits eq s' p n
joined_held bits veq ueq eq answers p q ls x rs y s s' n e z j = record { trie = j.trie; holds = holds_extends bits eq p s s' n j.trie z (subst (λ (c : Cidr). Holds bits eq s c n j.trie) e j.holds) }

module _ {W V U X E : Type 0} (bits : ℕ) (veq : V → V → Bool) (ueq : U → U → Bool) {eq : X → X → Bool} (e : IsEquivalence eq) (answers : V → U → Result X E → Type 0) (p : Cidr) (ls : Slab (Branch W V)) (left : Node V) (rs : Slab (Branch W U)) (right : Node U) where
  pub joined_leaves : (s : Slab (Branch W X)) (v : V) (u : U) (x : X) → left ≡ Leaf v → right ≡ Leaf u → answers v u (Ok x) → IsJoined bits veq ueq eq answers p ls left rs right s (Leaf x)
  joined_leaves s v u x i j f = record {
    trie = One x;
    holds = record { spelled = refl; placed = tt };
    joins = λ t k ht hk a c. rw (leaf_opens ls left v t i ht.spelled, leaf_opens rs right u k j hk.spelled) (x, f, e.refl x);
  }

  pub joined_fork : (s1 s2 s3 s4 : Slab (Branch W X)) (n low high : Node X) (lo hi : Cidr) (ll lu : Node V) (rl ru : Node U) → p.len < bits → lo ≡ lower_half p → hi ≡ upper_half bits p
      → ((t : Trie V) → Holds bits veq ls p left t → IsHalved bits veq ls p t ll lu) → ((t : Trie U) → Holds bits ueq rs p right t → IsHalved bits ueq rs p t rl ru)
      → IsJoined bits veq ueq eq answers lo ls ll rs rl s1 low → IsJoined bits veq ueq eq answers hi ls lu rs ru s2 high
      → Extends s1 s3 → Extends s2 s3 → IsForked bits eq p s3 low high s4 n → IsJoined bits veq ueq eq answers p ls left rs right s4 n
  joined_fork s1 s2 s3 s4 n low high lo hi ll lu rl ru h el eu hl hr jl ju x1 x2 f = record { trie = f.trie; holds = f.holds; joins = at }
    where
      at : (t : Trie V) (u : Trie U) → Holds bits veq ls p left t → Holds bits ueq rs p right u → (a : ℕ) → Covers bits p a → IsAnswer eq answers (trie_at bits t a) (trie_at bits u a) (trie_at bits f.trie a)
      at t u ht hu a c = ⊎_elim in_low in_high (halves_cover bits p a h c)
        where
          in_low : Covers bits (lower_half p) a → IsAnswer eq answers (trie_at bits t a) (trie_at bits u a) (trie_at bits f.trie a)
          in_low d =
              let l = hl t ht in
              let r = hr u hu in
              let j = jl.joins l.l r.l (subst (λ (z : Cidr). Holds bits veq ls z ll l.l) (sym el) l.lower_holds) (subst (λ (z : Cidr). Holds bits ueq rs z rl r.l) (sym el) r.lower_holds) a (subst (λ (z : Cidr). Covers bits z a) (sym el) d) in
              let g = f.low jl.trie (holds_extends bits eq (lower_half p) s1 s3 low jl.trie x1 (subst (λ (z : Cidr). Holds bits eq s1 z low jl.trie) el jl.holds)) a d in
              rw (l.low a d, r.low a d) (j.0, j.1, e.congr j.0 (trie_at bits jl.trie a) (trie_at bits f.trie a) j.2 ∙ g)

          in_high : Covers bits (upper_half bits p) a → IsAnswer eq answers (trie_at bits t a) (trie_at bits u a) (trie_at bits f.trie a)
          in_high d =
              let l = hl t ht in
              let r = hr u hu in
              let j = ju.joins l.u r.u (subst (λ (z : Cidr). Holds bits veq ls z lu l.u) (sym eu) l.upper_holds) (subst (λ (z : Cidr). Holds bits ueq rs z ru r.u) (sym eu) r.upper_holds) a (subst (λ (z : Cidr). Covers bits z a) (sym eu) d) in
              let g = f.high ju.trie (holds_extends bits eq (upper_half bits p) s2 s3 high ju.trie x2 (subst (λ (z : Cidr). Holds bits eq s2 z high ju.trie) eu ju.holds)) a d in
              rw (l.high a d, r.high a d) (j.0, j.1, e.congr j.0 (trie_at bits ju.trie a) (trie_at bits f.trie a) j.2 ∙ g)

  pub joined_path : (s1 s2 s3 : Slab (Branch W X)) (n inner : Node X) (c : Cidr) (v : V) (u : U) (b : X) (li : Node V) (ri : Node U)
      → ((t : Trie V) → Holds bits veq ls p left t → IsEntered bits veq ls p c t v li) → ((t : Trie U) → Holds bits ueq rs p right t → IsEntered bits ueq rs p c t u ri)
      → answers v u (Ok b) → IsJoined bits veq ueq eq answers c ls li rs ri s1 inner → Extends s1 s2 → IsPathed bits eq p c b s2 inner s3 n → IsJoined bits veq ueq eq answers p ls left rs right s3 n
  joined_path s1 s2 s3 n inner c v u b li ri hl hr f j x1 w = record { trie = w.trie; holds = w.holds; joins = at }
    where
      at : (t : Trie V) (k : Trie U) → Holds bits veq ls p left t → Holds bits ueq rs p right k → (a : ℕ) → Covers bits p a → IsAnswer eq answers (trie_at bits t a) (trie_at bits k a) (trie_at bits w.trie a)
      at t k ht hk a d = ⊎_elim (λ h. inside h.1) (λ h. outside (λ z. h.1 z)) (eqb_tells (cut_of bits a c.len) c.start)
        where
          inside : Covers bits c a → IsAnswer eq answers (trie_at bits t a) (trie_at bits k a) (trie_at bits w.trie a)
          inside z =
              let l = hl t ht in
              let r = hr k hk in
              let q = j.joins l.trie r.trie l.holds r.holds a z in
              let g = w.within j.trie (holds_extends bits eq c s1 s2 inner j.trie x1 j.holds) a z in
              rw (l.within a z, r.within a z) (q.0, q.1, e.congr q.0 (trie_at bits j.trie a) (trie_at bits w.trie a) q.2 ∙ g)

          outside : (Covers bits c a → ⊥) → IsAnswer eq answers (trie_at bits t a) (trie_at bits k a) (trie_at bits w.trie a)
          outside z = rw ((hl t ht).around a d z, (hr k hk).around a d z) (b, f, w.around a d z)
