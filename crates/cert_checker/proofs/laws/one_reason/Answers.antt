use Rattle.cert_checker.proofs.OneReason.{one_reason}
use Rattle.cert_checker.proofs.laws.one_reason.Goals as goal

pub returns : goal.returns
returns c = one_reason
