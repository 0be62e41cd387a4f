use Rattle.cert_checker.proofs.OneReason.{no_reason_beside_yes}
use Rattle.cert_checker.proofs.laws.no_reason_beside_yes.Goals as goal

pub returns : goal.returns
returns c = no_reason_beside_yes
