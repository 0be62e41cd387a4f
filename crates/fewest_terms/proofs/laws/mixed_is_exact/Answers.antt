use Rattle.fewest_terms.proofs.Mixed.{is_mixed_iff}
use Rattle.fewest_terms.proofs.laws.mixed_is_exact.Goals as goal

pub returns : goal.returns
returns c = is_mixed_iff
