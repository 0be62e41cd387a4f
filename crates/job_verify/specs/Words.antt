-- The words of the job: `DOMAIN FILE OPTIONS ORIGIN=FILE..`. Their form is the project's own choice.
use Rattle.std.specs.Prelude.{◌≡◌, ◌<◌, ℕ, List, [], ◌∷◌, ◌++◌, length}
use Rattle.spfc_words.specs.Domains.{IsDomain}
use Rattle.spfc_words.specs.Inputs.{AreZoneInputs, file_input}
use Rattle.spfc_words.specs.Limits.{AreLimits, lookups_option, voids_option, exchanges_option}
use Rattle.spfc_words.specs.Options.{NumberIs, behind_options}
use Rattle.spfc_words.specs.Rows.{OptionRow}
use Rattle.spfc_words.specs.Size.{size_option}
use Rattle.spfc_words.specs.declared.input.Group.TheVariants.{Zones}
use Rattle.spfc_words.specs.declared.input.Input.{Input}
use Rattle.job_verify.specs.declared.verify.Verify.{Verify}

-- the options of the job: those of the reading limits, and the size of a record
abbrev pub verify_options : List OptionRow
verify_options = lookups_option ∷ voids_option ∷ exchanges_option ∷ size_option ∷ []

-- the files that are read: those of the zones that the words name, and behind them the file
pub record AreVerifyInputs (file : List ℕ) (words : List (List ℕ)) (inputs : List Input) : Type 0 where
  pub zones : List Input
  pub named : AreZoneInputs Zones words zones
  pub are : inputs ≡ zones ++ file_input file ∷ []

-- a domain, the name of a file, which is any word that is not empty, and behind them options of the reading limits and
-- of the size, and zone words
pub record IsVerify (domain file : List ℕ) (words : List (List ℕ)) (job : Verify) : Type 0 where
  pub some : 0 < length file
  pub named : IsDomain domain job.domain
  pub sized : NumberIs verify_options words size_option job.size
  pub reading : AreLimits verify_options words job.limits
  pub inputs : AreVerifyInputs file (behind_options verify_options words) job.inputs

-- the words behind `verify`
abbrev pub SpellsVerify : List (List ℕ) → Verify → Type 0
SpellsVerify [] job = ⊥
SpellsVerify (domain ∷ []) job = ⊥
SpellsVerify (domain ∷ file ∷ words) job = IsVerify domain file words job
