use Rattle.zone_answers.proofs.Bare.{bare_names}
use Rattle.zone_answers.proofs.laws.bare_by_names.Goals as goal

pub returns : goal.returns
returns c = bare_names
