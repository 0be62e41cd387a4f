-- What the job means.
use Rattle.std.specs.Prelude.{◌≡◌, ◌≤◌, []}
use Rattle.loading.specs.declared.loaded.Loaded.{Loaded}
use Rattle.loading.specs.declared.refusal.Refusal.{Refusal}
use Rattle.jobs.specs.Meaning.{Due, Refuses, Gives, Meaning}
use Rattle.jobs.specs.declared.output.Output.{Output}
use Rattle.policy_trial.specs.Trial.{TrialDue}
use Rattle.policy_trial.specs.declared.summary.Summary.{Summary}
use Rattle.job_trial.specs.Line.{trial_line}
use Rattle.job_trial.specs.declared.trial.Trial.{Trial}

-- there are 1 to 10,000 networks
pub record IsReady (job : Trial) : Type 0 where
  pub some : 1 ≤ job.networks
  pub few : job.networks ≤ 10000

-- the line of a summary; no question is told of
abbrev pub output_of : Trial → Summary → Output
output_of job summary = record { bytes = trial_line job.start job.networks summary; asked = [] }

-- what the trial comes to is due, whatever was read
abbrev pub TrialJobDue : Trial → Loaded → Due → Type 0
TrialJobDue job loaded due =
    (summary : Summary) × TrialDue job.start job.networks summary × (due ≡ Gives (output_of job summary))

-- the output is the line of what the trial comes to
abbrev pub IsTrialLine : Trial → Loaded → Output → Type 0
IsTrialLine job loaded output =
    (summary : Summary) × TrialDue job.start job.networks summary × (output ≡ output_of job summary)

-- what the job means
abbrev pub meaning_of_trial : Trial → Meaning
meaning_of_trial job =
    record { inputs = job.inputs; IsReady = IsReady job; IsDue = TrialJobDue job; IsBest = IsTrialLine job }

-- a trial is never refused: for nothing that was read, and for no reason, a refusal is due
abbrev pub NeverRefused : Type 0
NeverRefused = (job : Trial) (loaded : Loaded) (why : Refusal) → ¬ TrialJobDue job loaded (Refuses why)
