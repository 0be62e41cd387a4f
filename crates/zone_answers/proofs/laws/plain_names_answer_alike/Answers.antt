use Rattle.zone_answers.proofs.Bare.{plain_alike}
use Rattle.zone_answers.proofs.laws.plain_names_answer_alike.Goals as goal

pub returns : goal.returns
returns c = plain_alike
