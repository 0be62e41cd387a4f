-- What the job means.
use Rattle.std.specs.Prelude.{◌≡◌, ℕ, List, [], Ok}
use Rattle.addr_bits.specs.declared.address.Address.{Address}
use Rattle.dns_name.specs.Name.{name_of_text}
use Rattle.zone_answers.specs.Zone.{Zone}
use Rattle.spf_model.specs.Lines.{outcome_words}
use Rattle.spf_model.specs.Result as model
use Rattle.spf_model.specs.Result.{AreModest}
use Rattle.spf_model.specs.Run.{says}
use Rattle.spf_model.specs.declared.outcome.Limits.{Limits}
use Rattle.spf_model.specs.declared.outcome.Outcome.{Outcome}
use Rattle.loading.specs.Lines.{line_of}
use Rattle.loading.specs.declared.loaded.Loaded.{Loaded}
use Rattle.jobs.specs.Meaning.{Due, Gives, Meaning}
use Rattle.jobs.specs.declared.output.Output.{Output}
use Rattle.job_check.specs.declared.check.Check.{Check}

-- RFC 7208, section 4: the bytes are the line of the outcome that check_host gives the address over these zones
pub record IsOutcomeLine (zones : List Zone) (domain : List ℕ) (address : Address) (limits : Limits)
    (bytes : List ℕ) : Type 0 where
  pub outcome : Outcome
  pub gives : model.Gives (says zones) limits domain address outcome
  pub is : bytes ≡ line_of [] (outcome_words outcome)

-- the output is that line; no question is told of. The outcome of an address is one alone
pub record IsOutcome (job : Check) (loaded : Loaded) (output : Output) : Type 0 where
  pub line : IsOutcomeLine loaded.zones job.domain.text job.address job.limits output.bytes
  pub untold : output.asked ≡ []

-- the output is due
abbrev pub OutcomeDue : Check → Loaded → Due → Type 0
OutcomeDue job loaded due = (output : Output) × IsOutcome job loaded output × (due ≡ Gives output)

-- the domain is a legal name, and the limits are modest
pub record IsReady (job : Check) : Type 0 where
  pub named : name_of_text job.domain.text ≡ Ok job.domain.name
  pub modest : AreModest job.limits

-- what the job means
abbrev pub meaning_of_check : Check → Meaning
meaning_of_check job =
    record { inputs = job.inputs; IsReady = IsReady job; IsDue = OutcomeDue job; IsBest = IsOutcome job }
