-- What the job means.
use Rattle.std.specs.Prelude.{◌≡◌, []}
use Rattle.kept_lists.specs.Lists.{AreReadingLimits, IsKeptDomain}
use Rattle.deps_watch.specs.Keeping.{IsKeptOf}
use Rattle.deps_watch.specs.Laws.{IsKeptWell}
use Rattle.loading.specs.declared.loaded.Loaded.{Loaded}
use Rattle.jobs.specs.Meaning.{Due, Gives, Meaning}
use Rattle.jobs.specs.declared.output.Output.{Output}
use Rattle.job_keep.specs.declared.keep.Keep.{Keep}

-- RFC 7208, section 4: the output is the kept list of the questions that check_host asks over the zones for some
-- address of either family, each with what the zones say to it; no question is told of
pub record IsKeptList (job : Keep) (loaded : Loaded) (output : Output) : Type 0 where
  pub list : IsKeptOf loaded.zones job.subject.limits job.subject.domain.text output.bytes
  pub untold : output.asked ≡ []

-- RFC 7208, section 4: this list is read back with the domain and the limits of the job and with lines that agree with
-- the zones, and the policy rests on these lines alone. Over all other zones that agree with each of them, every
-- address has the same outcome
pub record IsBest (job : Keep) (loaded : Loaded) (output : Output) : Type 0 where
  pub is : IsKeptList job loaded output
  pub well : IsKeptWell loaded.zones job.subject.limits job.subject.domain.text output.bytes

-- the output is due
abbrev pub KeepDue : Keep → Loaded → Due → Type 0
KeepDue job loaded due = (output : Output) × IsKeptList job loaded output × (due ≡ Gives output)

-- the domain is one in lower case, and the limits are within the ranges of the options of reading
pub record IsReady (job : Keep) : Type 0 where
  pub named : IsKeptDomain job.subject.domain.text
  pub ranges : AreReadingLimits job.subject.limits

-- what the job means
abbrev pub meaning_of_keep : Keep → Meaning
meaning_of_keep job =
    record { inputs = job.subject.inputs; IsReady = IsReady job; IsDue = KeepDue job; IsBest = IsBest job }
