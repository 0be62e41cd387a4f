use Rattle.std.proofs.Common.{Some, None}
use Rattle.std.proofs.lemmas.Bool.Decides.{Decides-eqb}
use Rattle.std.proofs.lemmas.Slice.Eq.{strip_prefix_is}
use Rattle.bound_table.proofs.line.behind.Goals as goal

pub returns-in_err-rest : goal.returns-in_err-rest
returns-in_err-rest c = rw c.from_residual.ensures (strip_prefix_is Decides-eqb c.args.text.now c.args.word.now None c.in_err-rest.ensures.cases)

pub returns : goal.returns
returns c = strip_prefix_is Decides-eqb c.args.text.now c.args.word.now (Some c.in_ok-rest.rest) c.in_ok-rest.ensures.cases
