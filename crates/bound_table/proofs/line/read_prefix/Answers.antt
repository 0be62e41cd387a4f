use Rattle.std.proofs.Common.{◌≡◌, ◌<◌, ap, sym, ◌∙◌, true≢false, arith}
use Rattle.std.specs.Cmp.{unsigned_Decides}
use Rattle.std.specs.Cmp.Lexicographic.{pointwise_decides}
use Rattle.addr_bits.specs.Address.{bits_of, text_in}
use Rattle.bound_table.proofs.LineLemmas.{no_prefix_address, no_prefix_len, long_prefix, prefix_read, prefix_other}
use Rattle.bound_table.proofs.line.read_prefix.Goals as goal

pub returns-in_default : goal.returns-in_default
returns-in_default g c = λ p s. no_prefix_address g.W.AddressFamily.family c.args.text.now c.in_ok-address.address.now c.in_ok-address.len.now c.in_ok-address.ensures c.in_default.ensures p s

pub returns-in_err-len : goal.returns-in_err-len
returns-in_err-len g c = rw c.from_residual-in_err-len.ensures (λ p s. no_prefix_len g.W.AddressFamily.family c.args.text.now c.in_ok-address.address.now c.in_ok-address.len.now c.in_ok-address.ensures c.in_err-len.ensures p s)

pub returns-then-len-BITS : goal.returns-then-len-BITS
returns-then-len-BITS g c = λ p s.
    let bits : c.BITS.result ≡ bits_of g.W.AddressFamily.family = c.BITS.ensures ∙ g.met.W.AddressFamily.bits in
    let long : bits_of g.W.AddressFamily.family < c.in_ok-len.len = omega (arith, bits, c.if-len-BITS.true) in
    long_prefix g.W.AddressFamily.family c.in_ok-len.len c.args.text.now c.in_ok-address.address.now c.in_ok-address.len.now c.in_ok-address.ensures c.in_ok-len.ensures long p s

pub returns-then-eq : goal.returns-then-eq
returns-then-eq g c =
    let text = c.as_bytes.ensures.value ∙ c.as_str.ensures.value ∙ c.write-written.ensures.text ∙ ap (λ n. text_in g.W.AddressFamily.family n) c.start.ensures.value in
    prefix_read g.W.AddressFamily.family g.W.Width.BITS (g.W.Width.number c.in-Ok.start) c.in_ok-len.len c.new-prefix.result c.args.text.now c.in_ok-address.address.now c.in_ok-address.len.now c.as_bytes.result.now
    g.met.W.AddressFamily.bits c.in_ok-address.ensures c.in_ok-len.ensures c.new-prefix.ensures.value c.new-prefix.ensures.valid text
    ((pointwise_decides unsigned_Decides c.as_bytes.result.now c.in_ok-address.address.now).0 (sym c.eq.ensures ∙ c.if-eq.true))

pub returns-else-eq : goal.returns-else-eq
returns-else-eq g c = λ p s.
    let text = c.as_bytes.ensures.value ∙ c.as_str.ensures.value ∙ c.write-written.ensures.text ∙ ap (λ n. text_in g.W.AddressFamily.family n) c.start.ensures.value in
    prefix_other g.W.AddressFamily.family g.W.Width.BITS (g.W.Width.number c.in-Ok.start) c.in_ok-len.len c.new-prefix.result c.args.text.now c.in_ok-address.address.now c.in_ok-address.len.now c.as_bytes.result.now
    g.met.W.AddressFamily.bits c.in_ok-address.ensures c.in-Ok.ensures c.in_ok-len.ensures c.new-prefix.ensures.value text
    (λ same. true≢false (sym ((pointwise_decides unsigned_Decides c.as_bytes.result.now c.in_ok-address.address.now).1 same) ∙ sym c.eq.ensures ∙ c.if-eq.false)) p s
