use Rattle.zone_answers.proofs.Fit.{found_fit}
use Rattle.zone_answers.proofs.laws.found_bodies_are_fit.Goals as goal

pub returns : goal.returns
returns c = found_fit
