use Rattle.policy_verdicts.proofs.OneAnswer.{one_verdict}
use Rattle.policy_verdicts.proofs.laws.one_verdict.Goals as goal

pub returns : goal.returns
returns c = one_verdict
