use Rattle.job_trial.specs.Laws.{never_refused}
use Rattle.job_trial.proofs.laws.never_refused.Goals as goal

pub returns : goal.returns
returns c = never_refused
