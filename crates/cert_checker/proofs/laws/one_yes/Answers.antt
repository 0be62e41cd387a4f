use Rattle.cert_checker.proofs.OneReason.{one_yes}
use Rattle.cert_checker.proofs.laws.one_yes.Goals as goal

pub returns : goal.returns
returns c = one_yes
