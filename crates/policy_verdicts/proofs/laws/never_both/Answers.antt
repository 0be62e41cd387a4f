use Rattle.policy_verdicts.proofs.OneAnswer.{never_both}
use Rattle.policy_verdicts.proofs.laws.never_both.Goals as goal

pub returns : goal.returns
returns c = never_both
