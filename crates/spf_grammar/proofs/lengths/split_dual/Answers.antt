use Rattle.std.proofs.Common.{length, ap, arith}
use Rattle.std.specs.Char.{is_ascii_digit}
use Rattle.spf_macros.proofs.Spans.{prefix_within}
use Rattle.spf_grammar.proofs.Numbers.{first_split}
use Rattle.spf_grammar.proofs.lengths.split_dual.Goals as goal

pub overflow_add-digit_count : goal.overflow_add-digit_count
overflow_add-digit_count c = omega (arith, c.digit_count.ensures, prefix_within is_ascii_digit c.in-Some.rest.now, ap length c.in-Some.ensures)

pub split_at-requires-in-None : goal.split_at-requires-in-None
split_at-requires-in-None c = omega (arith, c.digit_count.ensures, prefix_within is_ascii_digit c.in-Some.rest.now, ap length c.in-Some.ensures)

pub returns-in-None : goal.returns-in-None
returns-in-None c =
    first_split c.args.lens.now c.in-Some.rest.now c.split_at-in-None.result.0.now c.split_at-in-None.result.1.now c.digit_count.result c.in-Some.ensures c.in-None.ensures c.digit_count.ensures
    c.split_at-in-None.ensures.front c.split_at-in-None.ensures.back
