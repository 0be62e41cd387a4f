-- The words of the job: `FILE ORIGIN=FILE..`. Their form is the project's own choice.
use Rattle.std.specs.Prelude.{◌≡◌, ◌<◌, ℕ, List, [], ◌∷◌, ◌++◌, length}
use Rattle.spfc_words.specs.Inputs.{AreZoneInputs, file_input}
use Rattle.spfc_words.specs.declared.input.Group.TheVariants.{Zones}
use Rattle.spfc_words.specs.declared.input.Input.{Input}
use Rattle.job_stale.specs.declared.stale.Stale.{Stale}

-- the name of a file, which is any word that is not empty, and behind it zone words; the file is read behind the zones
pub record IsStaleJob (file : List ℕ) (words : List (List ℕ)) (job : Stale) : Type 0 where
  pub some : 0 < length file
  pub kept : job.file ≡ file
  pub zones : List Input
  pub named : AreZoneInputs Zones words zones
  pub are : job.inputs ≡ zones ++ file_input file ∷ []

-- the words behind `stale`
abbrev pub SpellsStale : List (List ℕ) → Stale → Type 0
SpellsStale [] job = ⊥
SpellsStale (file ∷ words) job = IsStaleJob file words job
