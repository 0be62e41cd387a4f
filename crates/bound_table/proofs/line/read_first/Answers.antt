use Rattle.bound_table.proofs.LineLemmas.{first_none}
use Rattle.bound_table.proofs.line.read_first.Goals as goal

pub returns-in_err-number-2 : goal.returns-in_err-number-2
returns-in_err-number-2 c = rw c.from_residual-in_err-number-2.ensures (λ n rest small e. first_none c.args.text.now c.in_ok-number.number.now c.in_ok-number.rest.now c.in_ok-number.ensures c.in_err-number-2.ensures n rest small e)
