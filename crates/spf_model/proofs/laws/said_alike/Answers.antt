use Rattle.spf_model.proofs.Saying.{said_alike}
use Rattle.spf_model.proofs.laws.said_alike.Goals as goal

pub returns : goal.returns
returns c = said_alike
