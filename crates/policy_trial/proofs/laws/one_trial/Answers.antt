use Rattle.policy_trial.proofs.OneTrial as lemma
use Rattle.policy_trial.proofs.laws.one_trial.Goals as goal

pub returns : goal.returns
returns c = lemma.one_trial
