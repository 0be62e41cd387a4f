use Rattle.zone_answers.proofs.Reversals.{one_name}
use Rattle.zone_answers.proofs.laws.one_reversed_name.Goals as goal

pub returns : goal.returns
returns c = one_name
