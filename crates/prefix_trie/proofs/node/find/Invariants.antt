use Rattle.std.proofs.Common.{◌≡◌, ◌-◌}
use Rattle.prefix_trie.specs.Trie.{Trie, trie_at, Spells, IsFindable}
use Rattle.prefix_trie.proofs.node.find.Given as goal

-- the node stands on the way to the address, and what is found below it is what the first node has there
abbrev pub invariant-loop-node : goal.invariant-loop-node
invariant-loop-node g l = record {
  findable : IsFindable g.W.Width.BITS g.V.PartialEq.eq l.slab l.node l.len (g.W.Width.number l.a);
  onward : (v : g.row.V.Denot) → ((t : Trie g.row.V.Denot) → Spells l.slab l.node t → v ≡ trie_at g.W.Width.BITS t (g.W.Width.number l.a))
      → (t : Trie g.row.V.Denot) → Spells l.slab l.fn.node t → v ≡ trie_at g.W.Width.BITS t (g.W.Width.number l.a);
}

-- the bits past the prefix
abbrev pub decreases-loop-node : goal.decreases-loop-node
decreases-loop-node g l = g.W.Width.BITS - l.len
