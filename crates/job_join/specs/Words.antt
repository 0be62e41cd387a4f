-- The words of the job: `DOMAIN DOMAIN.. OPTIONS ORIGIN=FILE..`. Their form is the project's own choice.
use Rattle.std.specs.Prelude.{◌≢◌, ◌≤◌, ℕ, Bool, not, List, [], ◌∷◌, length, drop, codes, AllPairs}
use Rattle.std.specs.List.{AllZip, before_first, position_or_len}
use Rattle.spf_macros.specs.Words.{is_domain}
use Rattle.spfc_words.specs.Domains.{IsDomain}
use Rattle.spfc_words.specs.Inputs.{AreZoneInputs}
use Rattle.spfc_words.specs.Limits.{AreLimits, lookups_option, voids_option, exchanges_option}
use Rattle.spfc_words.specs.Options.{behind_options, FlagIs}
use Rattle.spfc_words.specs.Rows.{OptionRow, FlagOption}
use Rattle.spfc_words.specs.Size.{size_option}
use Rattle.spfc_words.specs.declared.domain.Domain.{Domain}
use Rattle.spfc_words.specs.declared.input.Group.TheVariants.{Zones}
use Rattle.publishing.specs.Settings.{AreSettings, ttl_option, label_option}
use Rattle.job_join.specs.declared.join.Join.{Join}

-- whether a word is no domain: an option and a zone word are none
abbrev pub is_other : List ℕ → Bool
is_other word = not (is_domain word)

-- the words in front of the first that is no domain
abbrev pub domains_in : List (List ℕ) → List (List ℕ)
domains_in words = before_first is_other words

-- and the words from it on
abbrev pub behind_domains : List (List ℕ) → List (List ℕ)
behind_domains words = drop (position_or_len is_other words) words

-- no two domains have the same text, in lower case
abbrev pub HaveOwnTexts : List Domain → Type 0
HaveOwnTexts domains = AllPairs (λ a b. a.text ≢ b.text) domains

-- 2 to 8 domains, none twice
pub record AreDomains (words : List (List ℕ)) (domains : List Domain) : Type 0 where
  pub each : AllZip IsDomain words domains
  pub some : 2 ≤ length words
  pub few : length words ≤ 8
  pub own : HaveOwnTexts domains

abbrev pub weakest_option : OptionRow
weakest_option = FlagOption (codes "--weakest")

-- the options of the job: those of the reading limits, of a chain of records, and whether the weakest verdict is taken
abbrev pub join_options : List OptionRow
join_options =
    lookups_option ∷ voids_option ∷ exchanges_option ∷ size_option ∷ ttl_option ∷ label_option ∷ weakest_option ∷ []

-- domains, of which one is the first, and behind them options of the reading limits and of a chain of records, perhaps
-- `--weakest`, and zone words
pub record IsJoin (first : List ℕ) (front rest : List (List ℕ)) (job : Join) : Type 0 where
  pub named : AreDomains front job.domains
  pub settings : AreSettings join_options first rest job.settings
  pub reading : AreLimits join_options rest job.limits
  pub taking : FlagIs join_options rest weakest_option job.weakest
  pub zones : AreZoneInputs Zones (behind_options join_options rest) job.inputs

-- the domains in front, and the words behind them
abbrev pub SpellsParts : (front rest : List (List ℕ)) → Join → Type 0
SpellsParts [] rest job = ⊥
SpellsParts (first ∷ others) rest job = IsJoin first (first ∷ others) rest job

-- the words behind `join`
abbrev pub SpellsJoin : List (List ℕ) → Join → Type 0
SpellsJoin words job = SpellsParts (domains_in words) (behind_domains words) job
