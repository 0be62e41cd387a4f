use Rattle.std.proofs.Common.{arith}
use Rattle.spf_macros.proofs.MacroReading.{two_first, no_macro}
use Rattle.spf_macros.proofs.read.read_piece.Goals as goal

pub returns-in_err-read-in-37-4 : goal.returns-in_err-read-in-37-4
returns-in_err-read-in-37-4 c = rw c.from_residual.ensures (no_macro c.args.text.now _ (two_first c.args.text.now 37 123 c.in-37-4.len_at_least (omega arith) (omega arith)) c.in_err-read-in-37-4.ensures)
