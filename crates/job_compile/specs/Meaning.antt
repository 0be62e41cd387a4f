-- What the job means.
use Rattle.std.specs.Prelude.{◌≡◌, Bool, true, false, List, [], Ok, Err}
use Rattle.zone_answers.specs.declared.answer.Question.{Question}
use Rattle.spf_model.specs.Result.{AreModest}
use Rattle.spf_model.specs.Run.{says}
use Rattle.symbolic_check.specs.Evaluation.{AreAsked}
use Rattle.loading.specs.declared.loaded.Loaded.{Loaded}
use Rattle.jobs.specs.Meaning.{Due, Refuses, Gives, Meaning}
use Rattle.jobs.specs.declared.output.Output.{Output}
use Rattle.publishing.specs.Policy.{PolicyDue, IsShortest}
use Rattle.publishing.specs.Settings.{AreLegal}
use Rattle.job_compile.specs.declared.compile.Compile.{Compile}

-- the settings are legal, and the limits are modest
pub record IsReady (job : Compile) : Type 0 where
  pub legal : AreLegal job.settings
  pub modest : AreModest job.limits

-- with `--trace` the questions that are told are those that check_host asks for some address; without it none is told
abbrev pub AreTraced : (trace : Bool) → Compile → Loaded → List Question → Type 0
AreTraced true job loaded asked = AreAsked (says loaded.zones) job.limits job.settings.domain.text asked
AreTraced false job loaded asked = asked ≡ []

-- the output is the fragment that is due for the policy, and what is told
pub record IsOutput (job : Compile) (loaded : Loaded) (output : Output) : Type 0 where
  pub written : PolicyDue job.settings job.limits loaded.zones (Ok output.bytes)
  pub traced : AreTraced job.trace job loaded output.asked

-- what is due for the policy is due
abbrev pub CompileDue : Compile → Loaded → Due → Type 0
CompileDue job loaded (Gives output) = IsOutput job loaded output
CompileDue job loaded (Refuses why) = PolicyDue job.settings job.limits loaded.zones (Err why)

-- the output is a shortest fragment, and what is told
pub record IsBest (job : Compile) (loaded : Loaded) (output : Output) : Type 0 where
  pub shortest : IsShortest job.settings job.limits loaded.zones output.bytes
  pub traced : AreTraced job.trace job loaded output.asked

-- what the job means
abbrev pub meaning_of_compile : Compile → Meaning
meaning_of_compile job =
    record { inputs = job.inputs; IsReady = IsReady job; IsDue = CompileDue job; IsBest = IsBest job }
