-- The words of the job: `START N`. Their form is the project's own choice.
use Rattle.std.specs.Prelude.{ℕ, ◌≡◌, List, [], ◌∷◌}
use Rattle.spfc_words.specs.Options.{IsNumber}
use Rattle.job_trial.specs.declared.trial.Trial.{Trial}

-- a number of 64 bits, and one from 1 to 10,000; no file is read
pub record IsTrial (start networks : List ℕ) (job : Trial) : Type 0 where
  pub started : IsNumber 0 18446744073709551615 start job.start
  pub sized : IsNumber 1 10000 networks job.networks
  pub unread : job.inputs ≡ []

-- the words behind `trial`
abbrev pub SpellsTrial : List (List ℕ) → Trial → Type 0
SpellsTrial [] job = ⊥
SpellsTrial (start ∷ []) job = ⊥
SpellsTrial (start ∷ networks ∷ []) job = IsTrial start networks job
SpellsTrial (start ∷ networks ∷ more ∷ words) job = ⊥
