use Rattle.bound_table.proofs.LineLemmas.{cut_is}
use Rattle.bound_table.proofs.LineSplit.{cut_lines, last_line}
use Rattle.bound_table.proofs.table.cut_line.Goals as goal

pub returns-in-Some-clause-lines : goal.returns-in-Some-clause-lines
returns-in-Some-clause-lines c =
    cut_lines c.args.lines.now c.split_before.result.0.now c.in-Some.behind.now (cut_is 10 _ c.args.lines.now c.split_before.result.0.now c.split_before.result.1.now c.in-Some.behind.now c.split_before.ensures c.in-Some.ensures.cases.0)

pub returns-in-None-clause-lines : goal.returns-in-None-clause-lines
returns-in-None-clause-lines c = last_line c.args.lines.now c.split_before.result.0.now c.split_before.result.1.now c.requires c.split_before.ensures c.in-None.ensures.cases
