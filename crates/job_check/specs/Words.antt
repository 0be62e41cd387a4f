-- The words of the job: `DOMAIN ADDRESS READING ORIGIN=FILE..`. Their form is the project's own choice.
use Rattle.std.specs.Prelude.{ℕ, List, [], ◌∷◌}
use Rattle.addr_bits.specs.Address.{SpellsAddress}
use Rattle.spfc_words.specs.Domains.{IsDomain}
use Rattle.spfc_words.specs.Inputs.{AreZoneInputs}
use Rattle.spfc_words.specs.Limits.{AreLimits, reading_options}
use Rattle.spfc_words.specs.Options.{behind_options}
use Rattle.spfc_words.specs.declared.input.Group.TheVariants.{Zones}
use Rattle.job_check.specs.declared.check.Check.{Check}

-- a domain, an address, and behind them options of the reading limits and zone words
pub record IsCheck (domain address : List ℕ) (words : List (List ℕ)) (job : Check) : Type 0 where
  pub named : IsDomain domain job.domain
  pub spelled : SpellsAddress address job.address
  pub reading : AreLimits reading_options words job.limits
  pub zones : AreZoneInputs Zones (behind_options reading_options words) job.inputs

-- the words behind `check`
abbrev pub SpellsCheck : List (List ℕ) → Check → Type 0
SpellsCheck [] job = ⊥
SpellsCheck (domain ∷ []) job = ⊥
SpellsCheck (domain ∷ address ∷ words) job = IsCheck domain address words job
