use Rattle.std.proofs.Common.{arith}
use Rattle.fewest_terms.specs.Tables.{number}
use Rattle.bound_table.proofs.NumberLemmas.{capped_rule, whole_rule}
use Rattle.bound_table.proofs.numbers.keeps.Goals as goal

pub check_row-requires-clause-low : goal.check_row-requires-clause-low
check_row-requires-clause-low c = λ x. omega (arith, c.capped.ensures x)

pub check_row-requires-clause-high : goal.check_row-requires-clause-high
check_row-requires-clause-high c = λ x. omega (arith, c.capped-then-are_small.ensures x)

pub returns-then-are_small : goal.returns-then-are_small
returns-then-are_small c =
    let low = number c.args.low.now in
    let high = number c.args.high.now in
    let small-low = number c.capped.result in
    let small-high = number c.capped-then-are_small.result in (
      (λ h. (
        (λ x. whole_rule low high small-low small-high x (number c.args.row.now x) c.capped.ensures c.capped-then-are_small.ensures (c.check_row.ensures.0 h x)),
        c.are_small.ensures.0 c.if-are_small.true,
      )),
      λ h. c.check_row.ensures.1 (λ x. capped_rule low high small-low small-high x (number c.args.row.now x) (h.1 x) c.capped.ensures c.capped-then-are_small.ensures (h.0 x)),
    )
