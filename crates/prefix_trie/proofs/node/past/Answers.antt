use Rattle.std.proofs.Common.{◌-◌, ◌∙◌, ap}
use Rattle.addr_bits.specs.Width.{with_bit_of}
use Rattle.prefix_trie.proofs.Least.{with_last_bit}
use Rattle.prefix_trie.proofs.node.past.Goals as goal

pub returns : goal.returns
returns g c =
    c.with_bit.ensures.value ∙ ap (λ n. with_bit_of g.W.Width.BITS n (c.len-2.result - 1)) c.start.ensures.value ∙ ap (λ n. with_bit_of g.W.Width.BITS c.args.end.start (n - 1)) c.len-2.ensures.value
    ∙ with_last_bit g.W.Width.BITS c.args.p c.args.end c.len.ensures.valid c.len-2.ensures.valid.short c.requires.longer c.requires.same
