use Rattle.spf_model.proofs.RunLaws.{rests_on_its_questions}
use Rattle.spf_model.proofs.laws.rests_on_its_questions.Goals as goal

pub returns : goal.returns
returns c = rests_on_its_questions
