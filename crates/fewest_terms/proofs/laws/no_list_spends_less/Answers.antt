use Rattle.fewest_terms.proofs.LowerBound.{need-le}
use Rattle.fewest_terms.proofs.laws.no_list_spends_less.Goals as goal

pub returns : goal.returns
returns c = need-le
