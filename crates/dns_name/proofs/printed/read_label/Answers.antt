use Rattle.std.proofs.Common.{◌++◌, List, ℕ, ap, sym, subst, ◌∙◌, arith, append-nil, flat_map, length, eqb-true}
use Rattle.std.proofs.lemmas.Bool.{eqb-false}
use Rattle.std.proofs.lemmas.List.{nil_from_length}
use Rattle.dns_name.specs.Printed.{printed_byte}
use Rattle.dns_name.proofs.Printing.{IsRead, none_further, none_longer, read_more}
use Rattle.dns_name.proofs.printed.read_label.Goals as goal

pub returns-in_err-byte : goal.returns-in_err-byte
returns-in_err-byte c =
    let some = eqb-false (length c.loop-rest.rest.now) 0 (sym c.is_empty.ensures ∙ c.loop-rest-test.true) in
    rw c.from_residual.ensures
    (none_further c.args.text.now c.loop-rest.label.items c.loop-rest.rest.now c.loop-rest.invariant (λ e. some (ap length e)) c.in_err-byte.ensures)

pub returns-then-is_full : goal.returns-then-is_full
returns-then-is_full c =
    none_longer c.args.text.now c.loop-rest.label.items c.loop-rest.rest.now c.in_ok-byte.behind.now c.in_ok-byte.byte c.loop-rest.invariant c.in_ok-byte.ensures.0
    (eqb-true (length c.loop-rest.label.items) 63 (sym c.is_full.ensures.value ∙ c.if-is_full.true))

pub returns : goal.returns
returns c =
    let none = nil_from_length c.loop-rest.rest.now (eqb-true (length c.loop-rest.rest.now) 0 (sym c.is_empty.ensures ∙ c.loop-rest-test.false)) in (
      c.loop-rest.invariant.spelled ∙ ap (λ (t : List ℕ). flat_map printed_byte c.loop-rest.label.items ++ t) none ∙ append-nil (flat_map printed_byte c.loop-rest.label.items),
      c.loop-rest.invariant.printable,
    )

pub loop-rest-preserved : goal.loop-rest-preserved
loop-rest-preserved c =
    subst (λ (l : List ℕ). IsRead c.args.text.now l c.in_ok-byte.behind.now) (sym c.push.ensures.items)
    (read_more c.args.text.now c.loop-rest.label.items c.loop-rest.rest.now c.in_ok-byte.behind.now c.in_ok-byte.byte c.loop-rest.invariant c.in_ok-byte.ensures.0 (let ne = eqb-false (length c.loop-rest.label.items) 63 (sym c.is_full.ensures.value ∙ c.if-is_full.false) in omega (arith, c.is_full.ensures.fits)) c.in_ok-byte.ensures.2 c.in_ok-byte.ensures.1)
