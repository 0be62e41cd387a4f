use Rattle.std.proofs.Common.{◌≡◌, ℕ, ◌++◌, ap₂, ◌∙◌}
use Rattle.addr_bits.specs.Address.{bits_of}
use Rattle.addr_bits.specs.Prefix.{cidr_of}
use Rattle.spf_grammar.proofs.HostCuts.{no_address, no_network_len, network_read}
use Rattle.spf_grammar.proofs.networks.read_network.Goals as goal

pub returns-in_err-network : goal.returns-in_err-network
returns-in_err-network g c = rw c.from_residual.ensures (λ p h. c.in_err-network.ensures (h.network ++ h.after) h.whole)

pub returns-in_default : goal.returns-in_default
returns-in_default g c =
    no_address g.W.AddressFamily.family c.args.text.now c.in_ok-network.network.now c.split_slash.result.0.now c.split_slash.result.1.now c.in_ok-network.ensures c.split_slash.ensures c.in_default.ensures

pub returns-in_err-len : goal.returns-in_err-len
returns-in_err-len g c =
    let bits : c.BITS.result ≡ bits_of g.W.AddressFamily.family = c.BITS.ensures ∙ g.met.W.AddressFamily.bits in
    rw c.from_residual-in_err-len.ensures (no_network_len g.W.AddressFamily.family c.args.text.now c.in_ok-network.network.now c.split_slash.result.0.now c.split_slash.result.1.now c.in_ok-network.ensures c.split_slash.ensures
    (rw bits at c.in_err-len.ensures))

pub returns : goal.returns
returns g c =
    let bits : c.BITS.result ≡ bits_of g.W.AddressFamily.family = c.BITS.ensures ∙ g.met.W.AddressFamily.bits in
    network_read g.W.AddressFamily.family c.new.result c.args.text.now c.in_ok-network.network.now c.split_slash.result.0.now c.split_slash.result.1.now (g.W.Width.number c.in-Ok.address) c.in_ok-len.len c.in_ok-network.ensures
    c.split_slash.ensures c.in-Ok.ensures (rw bits at c.in_ok-len.ensures) (c.new.ensures.value ∙ ap₂ (λ (w k : ℕ). cidr_of w k (g.W.Width.number c.in-Ok.address)) g.met.W.AddressFamily.bits c.from.ensures)
