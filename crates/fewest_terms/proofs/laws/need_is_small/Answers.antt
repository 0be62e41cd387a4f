use Rattle.fewest_terms.proofs.Mixed.{need-small}
use Rattle.fewest_terms.proofs.laws.need_is_small.Goals as goal

pub returns : goal.returns
returns c = need-small
