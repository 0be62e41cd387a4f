-- What the job means.
use Rattle.std.specs.Prelude.{◌≡◌, ℕ, List, [], ◌∷◌, Result, Ok, Err}
use Rattle.addr_bits.specs.declared.address.Address.{Address}
use Rattle.spf_grammar.specs.declared.verdict.Verdict.{Verdict}
use Rattle.spf_model.specs.Result.{AreModest}
use Rattle.spf_model.specs.declared.outcome.Outcome.{Outcome}
use Rattle.spfc_words.specs.declared.domain.Domain.{Domain}
use Rattle.loading.specs.declared.loaded.Loaded.{Loaded}
use Rattle.loading.specs.declared.refusal.Refusal.{Refusal}
use Rattle.loading.specs.declared.refusal.Refusal.TheVariants.{NoVerdict}
use Rattle.jobs.specs.Meaning.{Due, Refuses, Gives, Meaning}
use Rattle.jobs.specs.declared.output.Output.{Output}
use Rattle.publishing.specs.Policy.{IsShortestOf}
use Rattle.publishing.specs.Published.{PublicationDue}
use Rattle.publishing.specs.Settings.{AreLegal}
use Rattle.job_join.specs.Verdicts.{AllGive, AreNamed, IsFirstRefused, IsJoint}
use Rattle.job_join.specs.declared.join.Join.{Join}

-- the domains and the settings are legal, the limits are modest, and the records are published at the first domain
pub record IsReady (job : Join) : Type 0 where
  pub named : AreNamed job.domains
  pub legal : AreLegal job.settings
  pub modest : AreModest job.limits
  pub others : List Domain
  pub first : job.domains ≡ job.settings.domain ∷ others

-- a refusal, or a fragment; no question is told of
abbrev pub due_of : Result (List ℕ) Refusal → Due
due_of (Ok bytes) = Gives (record { bytes = bytes; asked = [] })
due_of (Err why) = Refuses why

-- what is due: the first domain for which some address has no verdict is refused; else what is due for the strongest of
-- the verdicts that the domains give each address, or for the weakest, published at the first domain
pub data JoinDue (job : Join) (loaded : Loaded) (due : Due) : Type 0 where
  refused : (address : Address) (outcome : Outcome)
      → IsFirstRefused job.limits loaded.zones job.domains address outcome
      → due ≡ Refuses (NoVerdict address outcome) → JoinDue job loaded due
  kept : (given : List (Address → Verdict)) (v4 v6 : ℕ → Verdict) (published : Result (List ℕ) Refusal)
      → AllGive job.limits loaded.zones job.domains given → IsJoint job.weakest given v4 v6
      → PublicationDue job.settings loaded.zones v4 v6 published → due ≡ due_of published → JoinDue job loaded due

-- The output is a shortest publication of the strongest of the verdicts that check_host gives each address for the
-- domains, or of the weakest; no question is told of
pub record IsShortestJoin (job : Join) (loaded : Loaded) (output : Output) : Type 0 where
  pub given : List (Address → Verdict)
  pub v4 : ℕ → Verdict
  pub v6 : ℕ → Verdict
  pub each : AllGive job.limits loaded.zones job.domains given
  pub joint : IsJoint job.weakest given v4 v6
  pub shortest : IsShortestOf job.settings loaded.zones v4 v6 output.bytes
  pub untold : output.asked ≡ []

-- what the job means
abbrev pub meaning_of_join : Join → Meaning
meaning_of_join job =
    record { inputs = job.inputs; IsReady = IsReady job; IsDue = JoinDue job; IsBest = IsShortestJoin job }
