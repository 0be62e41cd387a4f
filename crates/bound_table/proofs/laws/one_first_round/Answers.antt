use Rattle.bound_table.proofs.OneRound.{one_first_round}
use Rattle.bound_table.proofs.laws.one_first_round.Goals as goal

pub returns : goal.returns
returns c = one_first_round
