use Rattle.std.proofs.Common.{◌^◌, ◌∙◌, ap, min, ◌+◌, ◌*◌}
use Rattle.master_reader.proofs.Spelling.{digit_from_48, number_more}
use Rattle.master_reader.proofs.words.number_of.Goals as goal

pub overflow_sub-digit : goal.overflow_sub-digit
overflow_sub-digit c = digit_from_48 c.args.digits.now c.loop-digit.digit-index c.loop-digit-test.true c.requires

pub loop-digit-preserved : goal.loop-digit-preserved
loop-digit-preserved c =
    number_more c.args.digits.now (2 ^ 32) c.loop-digit.digit-index c.loop-digit.number c.min-number.result c.loop-digit-test.true c.requires c.loop-digit.invariant
    (c.min-number.ensures ∙ ap (λ b. min (2 ^ 32) (10 * c.loop-digit.number + b)) c.from.ensures)
