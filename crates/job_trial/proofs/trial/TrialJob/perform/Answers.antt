use Rattle.jobs.specs.Meaning.{Gives}
use Rattle.job_trial.proofs.trial.TrialJob.perform.Goals as goal

pub returns : goal.returns
returns c = record {
  done = (c.in_ok-summary.summary, c.in_ok-summary.ensures, λ i. Gives (record { bytes = c.in_ok-bytes.ensures i; asked = c.new.ensures i }));
  refused = tt;
}
