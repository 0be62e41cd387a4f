use Rattle.policy_verdicts.proofs.OneAnswer.{one_refused}
use Rattle.policy_verdicts.proofs.laws.one_refused.Goals as goal

pub returns : goal.returns
returns c = one_refused
