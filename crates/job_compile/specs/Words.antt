-- The words of the job: `DOMAIN OPTIONS ORIGIN=FILE..`. Their form is the project's own choice.
use Rattle.std.specs.Prelude.{ℕ, List, [], ◌∷◌, codes}
use Rattle.spfc_words.specs.Inputs.{AreZoneInputs}
use Rattle.spfc_words.specs.Limits.{AreLimits, lookups_option, voids_option, exchanges_option}
use Rattle.spfc_words.specs.Options.{behind_options, FlagIs}
use Rattle.spfc_words.specs.Rows.{OptionRow, FlagOption}
use Rattle.spfc_words.specs.Size.{size_option}
use Rattle.spfc_words.specs.declared.input.Group.TheVariants.{Zones}
use Rattle.publishing.specs.Settings.{AreSettings, ttl_option, label_option}
use Rattle.job_compile.specs.declared.compile.Compile.{Compile}

abbrev pub trace_option : OptionRow
trace_option = FlagOption (codes "--trace")

-- the options of the job: those of the reading limits, of a chain of records, and whether questions are told
abbrev pub compile_options : List OptionRow
compile_options =
    lookups_option ∷ voids_option ∷ exchanges_option ∷ size_option ∷ ttl_option ∷ label_option ∷ trace_option ∷ []

-- a domain, and behind it options of the reading limits and of a chain of records, perhaps `--trace`, and zone words
pub record IsCompile (domain : List ℕ) (words : List (List ℕ)) (job : Compile) : Type 0 where
  pub settings : AreSettings compile_options domain words job.settings
  pub reading : AreLimits compile_options words job.limits
  pub tracing : FlagIs compile_options words trace_option job.trace
  pub zones : AreZoneInputs Zones (behind_options compile_options words) job.inputs

-- the words behind `compile`
abbrev pub SpellsCompile : List (List ℕ) → Compile → Type 0
SpellsCompile [] job = ⊥
SpellsCompile (domain ∷ words) job = IsCompile domain words job
