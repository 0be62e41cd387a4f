use Rattle.bound_table.proofs.LineLemmas.{no_total_word}
use Rattle.bound_table.proofs.line.read_total.Goals as goal

pub returns-in_err-behind : goal.returns-in_err-behind
returns-in_err-behind c = rw c.from_residual.ensures (λ total s. no_total_word c.args.line.now c.in_err-behind.ensures total s)
