-- The words of the job: `DOMAIN DOMAIN READING ORIGIN=FILE.. with ORIGIN=FILE..`. Their form is the project's own
-- choice.
use Rattle.std.specs.Prelude.{◌≡◌, ℕ, Bool, true, false, List, [], ◌∷◌, ◌++◌, codes, bytes_eq}
use Rattle.std.specs.List.{before_first, after_first, list_any}
use Rattle.spfc_words.specs.Domains.{IsDomain}
use Rattle.spfc_words.specs.Inputs.{AreZoneInputs}
use Rattle.spfc_words.specs.Limits.{AreLimits, reading_options}
use Rattle.spfc_words.specs.Options.{behind_options}
use Rattle.spfc_words.specs.declared.input.Group.TheVariants.{Zones, Others}
use Rattle.spfc_words.specs.declared.input.Input.{Input}
use Rattle.job_compare.specs.declared.compare.Compare.{Compare}
use Rattle.job_compare.specs.declared.groups.Groups.{Groups}

-- the word between two groups of zones
abbrev pub is_with : List ℕ → Bool
is_with word = bytes_eq word (codes "with")

-- the words are those of one group, over which both policies are read
pub record IsOneGroup (words : List (List ℕ)) (groups : Groups) : Type 0 where
  pub zones : AreZoneInputs Zones words groups.inputs
  pub second : groups.second ≡ Zones

-- the words are those of two groups: the words in front of `with`, and those behind it
pub record AreTwoGroups (front behind : List (List ℕ)) (groups : Groups) : Type 0 where
  pub first : List Input
  pub others : List Input
  pub zones : AreZoneInputs Zones front first
  pub other_zones : AreZoneInputs Others behind others
  pub both : groups.inputs ≡ first ++ others
  pub second : groups.second ≡ Others

-- the groups, by whether `with` is written
abbrev pub AreGroupsBy : (with : Bool) → (words : List (List ℕ)) → Groups → Type 0
AreGroupsBy true words = AreTwoGroups (before_first is_with words) (after_first is_with words)
AreGroupsBy false words = IsOneGroup words

-- the words name these zones
abbrev pub AreGroups : (words : List (List ℕ)) → Groups → Type 0
AreGroups words = AreGroupsBy (list_any is_with words) words

-- two domains, and behind them options of the reading limits and zones
pub record IsCompare (one two : List ℕ) (words : List (List ℕ)) (job : Compare) : Type 0 where
  pub first : IsDomain one job.one
  pub second : IsDomain two job.two
  pub reading : AreLimits reading_options words job.limits
  pub zones : AreGroups (behind_options reading_options words) job.groups

-- the words behind `compare`
abbrev pub SpellsCompare : List (List ℕ) → Compare → Type 0
SpellsCompare [] job = ⊥
SpellsCompare (one ∷ []) job = ⊥
SpellsCompare (one ∷ two ∷ words) job = IsCompare one two words job
