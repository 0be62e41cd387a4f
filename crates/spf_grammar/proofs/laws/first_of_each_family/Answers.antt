use Rattle.spf_grammar.proofs.FirstLemmas.{first-seen}
use Rattle.spf_grammar.proofs.laws.first_of_each_family.Goals as goal

pub returns : goal.returns
returns c = first-seen
