use Rattle.std.proofs.Common.{◌∷◌, take, drop, sym, ap, ap₂, subst, ◌∙◌, arith, List, ℕ}
use Rattle.dns_name.specs.Name.{IsWire}
use Rattle.dns_name.specs.Wire.{labels_in}
use Rattle.dns_name.proofs.Wire.{cut_wire}
use Rattle.dns_name.proofs.label.split_label.Goals as goal

pub split_at-requires : goal.split_at-requires
split_at-requires c =
    let first = c.in_ok-len.ensures.cases.0 in
    let cut = cut_wire c.args.wire.now c.in_ok-len.octets.now c.in_ok-len.len.now c.requires first (omega (arith, c.if-len-eq0.false)) in
    omega (arith, cut.fits, c.from.ensures)

pub returns : goal.returns
returns c =
    let first = c.in_ok-len.ensures.cases in
    let cut = cut_wire c.args.wire.now c.in_ok-len.octets.now c.in_ok-len.len.now c.requires first.0 (omega (arith, c.if-len-eq0.false)) in
    let front = c.split_at.ensures.front ∙ ap (λ n. take n c.in_ok-len.octets.now) c.from.ensures in
    let back = c.split_at.ensures.back ∙ ap (λ n. drop n c.in_ok-len.octets.now) c.from.ensures in (
      cut.labels ∙ ap₂ (λ (l m : List ℕ). l ∷ labels_in m) (sym front) (sym back),
      subst IsWire (sym back) cut.behind,
      omega (arith, c.split_at.ensures.back_len, first.1),
    )
