use Rattle.policy_trial.proofs.Verdicts.{trials_have_verdicts}
use Rattle.policy_trial.proofs.laws.trials_have_verdicts.Goals as goal

pub returns : goal.returns
returns c = trials_have_verdicts
