use Rattle.bound_table.proofs.LineLemmas.{cut_is, no_cut}
use Rattle.bound_table.proofs.line.cut_at.Goals as goal

pub returns-in_err-behind : goal.returns-in_err-behind
returns-in_err-behind c = rw c.from_residual.ensures (λ front rest e. no_cut c.args.byte c.args.text.now c.split_before.result.0.now c.split_before.result.1.now c.split_before.ensures c.in_err-behind.ensures.cases front rest e)

pub returns : goal.returns
returns c = cut_is c.args.byte _ c.args.text.now c.split_before.result.0.now c.split_before.result.1.now c.in_ok-behind.behind.now c.split_before.ensures c.in_ok-behind.ensures.cases.0
