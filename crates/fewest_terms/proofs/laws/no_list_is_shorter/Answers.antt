use Rattle.fewest_terms.proofs.Whole.{total-le}
use Rattle.fewest_terms.proofs.laws.no_list_is_shorter.Goals as goal

pub returns : goal.returns
returns c = total-le
