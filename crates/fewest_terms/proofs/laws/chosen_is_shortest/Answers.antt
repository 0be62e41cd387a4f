use Rattle.fewest_terms.proofs.ChosenLemmas.{chosen_list-same, length-chosen_list}
use Rattle.fewest_terms.proofs.laws.chosen_is_shortest.Goals as goal

pub returns-clause-same : goal.returns-clause-same
returns-clause-same c = chosen_list-same

pub returns-clause-shortest : goal.returns-clause-shortest
returns-clause-shortest c = length-chosen_list
