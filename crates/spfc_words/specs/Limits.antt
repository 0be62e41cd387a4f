-- The limits of reading, as options; those of a mail receiver where no option is written (RFC 7208, section 4.6.4).
use Rattle.std.specs.Prelude.{ℕ, List, [], ◌∷◌, codes}
use Rattle.spf_model.specs.declared.outcome.Limits.{Limits}
use Rattle.spfc_words.specs.Rows.{OptionRow, NumberOption}
use Rattle.spfc_words.specs.Options.{NumberIs}

abbrev pub lookups_option : OptionRow
lookups_option = NumberOption (codes "--lookups") 10 20 10

abbrev pub voids_option : OptionRow
voids_option = NumberOption (codes "--voids") 2 20 2

abbrev pub exchanges_option : OptionRow
exchanges_option = NumberOption (codes "--exchanges") 10 100 10

-- the options of a job that has those of reading alone
abbrev pub reading_options : List OptionRow
reading_options = lookups_option ∷ voids_option ∷ exchanges_option ∷ []

-- the limits that the words in front say
pub record AreLimits (rows : List OptionRow) (words : List (List ℕ)) (limits : Limits) : Type 0 where
  pub lookups : NumberIs rows words lookups_option limits.lookups
  pub voids : NumberIs rows words voids_option limits.voids
  pub exchanges : NumberIs rows words exchanges_option limits.exchanges
