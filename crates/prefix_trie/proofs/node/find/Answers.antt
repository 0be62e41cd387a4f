use Rattle.std.proofs.Common.{◌∙◌, Some, ap, arith, refl, sym, subst}
use Rattle.std.proofs.lemmas.Bool.{false≢true}
use Rattle.prefix_trie.specs.Trie.{IsFindable, trie_at}
use Rattle.prefix_trie.proofs.Sets.{bit_zero}
use Rattle.prefix_trie.proofs.Slabs.{contains, leaf_opens}
use Rattle.prefix_trie.proofs.Finds.{find_short, find_upper, find_lower, find_inner, found_upper, found_lower, found_inner, found_beside}
use Rattle.prefix_trie.proofs.node.find.Goals as goal
use Rattle.prefix_trie.proofs.node.find.Goals.{then-bit, else-bit}

pub loop-node-init : goal.loop-node-init
loop-node-init g c = record { findable = c.requires; onward = λ v f. f }

pub returns-in-Leaf : goal.returns-in-Leaf
returns-in-Leaf g c = c.loop-node.invariant.onward c.in-Leaf.value (λ t h. sym (ap (λ n. trie_at g.W.Width.BITS n (g.W.Width.number c.args.a)) (leaf_opens c.args.slab.now c.loop-node.node.now c.in-Leaf.value t c.in-Leaf.is h)))

pub branch_at-requires : goal.branch_at-requires
branch_at-requires g c =
    let own = c.loop-node.invariant.findable in
    contains c.args.slab.now c.loop-node.node.now c.in-At.key own.trie c.in-At.is own.holds.spelled

pub bit-requires : goal.bit-requires
bit-requires g c = (find_short g.W.Width.BITS g.V.PartialEq.eq c.args.slab.now c.loop-node.node.now c.in-At.key c.loop-node.len (g.W.Width.number c.args.a) c.loop-node.invariant.findable c.in-At.is _ _ _ (c.branch_at.ensures ∙ ap Some c.in-Fork.is)).0

pub overflow_add-len : goal.overflow_add-len
overflow_add-len g c =
    let s = find_short g.W.Width.BITS g.V.PartialEq.eq c.args.slab.now c.loop-node.node.now c.in-At.key c.loop-node.len (g.W.Width.number c.args.a) c.loop-node.invariant.findable c.in-At.is _ _ _ (c.branch_at.ensures ∙ ap Some c.in-Fork.is) in
    omega (arith, s.0, g.met.W.Width.few_bits)

pub loop-node-smaller-in-Fork : goal.loop-node-smaller-in-Fork
loop-node-smaller-in-Fork g c =
    let s = find_short g.W.Width.BITS g.V.PartialEq.eq c.args.slab.now c.loop-node.node.now c.in-At.key c.loop-node.len (g.W.Width.number c.args.a) c.loop-node.invariant.findable c.in-At.is _ _ _ (c.branch_at.ensures ∙ ap Some c.in-Fork.is) in
    omega (arith, s.0)

pub loop-node-preserved-in-Fork : goal.loop-node-preserved-in-Fork
loop-node-preserved-in-Fork g c =
    let bits = g.W.Width.BITS in
    let eq = g.V.PartialEq.eq in
    let s = c.args.slab.now in
    let n = c.loop-node.node.now in
    let a = g.W.Width.number c.args.a in
    let own = c.loop-node.invariant in
    let e = c.branch_at.ensures ∙ ap Some c.in-Fork.is in
    elim c.if-bit.branch [
      | then-bit w ↦ rw (ap (λ b. b.now) w.node-is) (record {
        findable = find_upper bits eq s n c.in-At.key c.loop-node.len a own.findable c.in-At.is _ _ _ e (w.if-bit.ensures.bit.0 refl);
        onward = λ v f. own.onward v (found_upper bits eq s n c.in-At.key c.loop-node.len a own.findable c.in-At.is _ _ _ v e (w.if-bit.ensures.bit.0 refl) f);
      })
      | else-bit w ↦ rw (ap (λ b. b.now) w.node-is) (record {
        findable = find_lower bits eq s n c.in-At.key c.loop-node.len a own.findable c.in-At.is _ _ _ e (bit_zero _ _ _ (λ z. false≢true (w.if-bit.ensures.bit.1 z)));
        onward = λ v f. own.onward v (found_lower bits eq s n c.in-At.key c.loop-node.len a own.findable c.in-At.is _ _ _ v e (bit_zero _ _ _ (λ z. false≢true (w.if-bit.ensures.bit.1 z))) f);
      })
    ]

pub returns-then-not-covers : goal.returns-then-not-covers
returns-then-not-covers g c =
    let own = c.loop-node.invariant in
    own.onward c.in-Path.beside
    (found_beside g.W.Width.BITS g.V.PartialEq.eq c.args.slab.now c.loop-node.node.now c.in-At.key c.loop-node.len (g.W.Width.number c.args.a) own.findable c.in-At.is _ _ _ (c.branch_at.ensures ∙ ap Some c.in-Path.is) (λ z. false≢true (c.if-not-covers.ensures.covers.1 z)))

pub loop-node-smaller : goal.loop-node-smaller
loop-node-smaller g c =
    let r = find_inner g.W.Width.BITS g.V.PartialEq.eq c.args.slab.now c.loop-node.node.now c.in-At.key c.loop-node.len (g.W.Width.number c.args.a) c.loop-node.invariant.findable c.in-At.is _ _ _ (c.branch_at.ensures ∙ ap Some c.in-Path.is) (c.if-not-covers.ensures.covers.0 refl) in
    omega (arith, r.1, r.2, c.len-len.ensures.value)

pub loop-node-preserved : goal.loop-node-preserved
loop-node-preserved g c =
    let bits = g.W.Width.BITS in
    let eq = g.V.PartialEq.eq in
    let s = c.args.slab.now in
    let n = c.loop-node.node.now in
    let a = g.W.Width.number c.args.a in
    let own = c.loop-node.invariant in
    let e = c.branch_at.ensures ∙ ap Some c.in-Path.is in
    record {
      findable = subst (λ k. IsFindable bits eq s c.in-Path.inner k a) (sym c.len-len.ensures.value) (find_inner bits eq s n c.in-At.key c.loop-node.len a own.findable c.in-At.is _ _ _ e (c.if-not-covers.ensures.covers.0 refl)).0;
      onward = λ v f. own.onward v (found_inner bits eq s n c.in-At.key c.loop-node.len a own.findable c.in-At.is _ _ _ v e (c.if-not-covers.ensures.covers.0 refl) f);
    }
