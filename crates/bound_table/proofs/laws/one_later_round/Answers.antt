use Rattle.bound_table.proofs.LaterRounds.{one_later_round}
use Rattle.bound_table.proofs.laws.one_later_round.Goals as goal

pub returns : goal.returns
returns c = one_later_round
