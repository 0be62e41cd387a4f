use Rattle.zone_answers.proofs.Bare.{bare_alike}
use Rattle.zone_answers.proofs.laws.bare_names_answer_alike.Goals as goal

pub returns : goal.returns
returns c = bare_alike
