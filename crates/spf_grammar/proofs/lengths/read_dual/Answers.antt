use Rattle.spf_grammar.proofs.Numbers.{no_first_len, no_second_len}
use Rattle.spf_grammar.proofs.lengths.read_dual.Goals as goal

pub returns-in_err-len4 : goal.returns-in_err-len4
returns-in_err-len4 c = rw c.from_residual.ensures (no_first_len c.args.lens.now c.split_dual.result.0.now c.split_dual.result.1.now c.split_dual.ensures c.in_err-len4.ensures)

pub returns-in_err-len6 : goal.returns-in_err-len6
returns-in_err-len6 c = rw c.from_residual-in_err-len6.ensures (no_second_len c.args.lens.now c.split_dual.result.0.now c.split_dual.result.1.now c.split_dual.ensures c.in_err-len6.ensures)
