use Rattle.std.proofs.Common.{sym, ap, ◌∙◌, arith}
use Rattle.std.specs.Prelude.{decimal}
use Rattle.std.proofs.lemmas.Bool.{both_ways}
use Rattle.spf_grammar.proofs.Numbers.{not_digits, same_number}
use Rattle.spf_grammar.proofs.lengths.read_number.Goals as goal
use Rattle.spf_grammar.proofs.lengths.read_number.Goals.{else-number-most-via-then-number-most+else-is_written, else-number-most-via-else-number-most}

pub returns-then-not-are_digits : goal.returns-then-not-are_digits
returns-then-not-are_digits c = not_digits c.args.most c.args.text.now (omega arith) (sym c.if-not-are_digits.ensures)

pub returns-else-number-most : goal.returns-else-number-most
returns-else-number-most c = λ n s.
    let same = same_number c.args.most c.args.text.now n c.held_number-number.result (omega arith) c.held_number-number.ensures s in
    elim c.else-number-most.branch [
      | else-number-most-via-then-number-most+else-is_written w ↦ both_ways w.is_written.result w.if-is_written.false (w.is_written.ensures.1 (s.1 ∙ ap decimal (sym same)))
      | else-number-most-via-else-number-most w ↦ absurd (omega (arith, same, s.0, w.if-number-most.false))
    ]
