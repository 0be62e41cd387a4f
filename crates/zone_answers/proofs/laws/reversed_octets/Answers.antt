use Rattle.zone_answers.proofs.Reversals.{octets_reversed}
use Rattle.zone_answers.proofs.laws.reversed_octets.Goals as goal

pub returns : goal.returns
returns c = octets_reversed
