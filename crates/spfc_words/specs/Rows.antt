-- Tables of options: the project's own form.
use Rattle.std.specs.Prelude.{ℕ, List, Bool, false, bytes_eq}
use Rattle.std.specs.List.{list_any}
use Rattle.spfc_words.specs.declared.row.Row.{Row}
use Rattle.spfc_words.specs.declared.row.Row.TheVariants.{Number, Text, Flag}

-- a row as a value: `NAME N`, a number from low to high; `NAME TEXT`, a text; or `NAME`
pub data OptionRow : Type 0 where
  NumberOption : (name : List ℕ) (low high by_default : ℕ) → OptionRow
  TextOption : (name by_default : List ℕ) → OptionRow
  FlagOption : (name : List ℕ) → OptionRow

abbrev pub plain : Row → OptionRow
plain (Number row) = NumberOption row.name.now row.low row.high row.by_default
plain (Text row) = TextOption row.name.now row.by_default.now
plain (Flag row) = FlagOption row.name.now

-- the word is the flag of this row
abbrev pub is_flag_of : (word : List ℕ) → OptionRow → Bool
is_flag_of word (NumberOption name low high by_default) = false
is_flag_of word (TextOption name by_default) = false
is_flag_of word (FlagOption name) = bytes_eq name word

-- the word is the option of this row, which has a value
abbrev pub is_valued_of : (word : List ℕ) → OptionRow → Bool
is_valued_of word (NumberOption name low high by_default) = bytes_eq name word
is_valued_of word (TextOption name by_default) = bytes_eq name word
is_valued_of word (FlagOption name) = false

-- the word is a flag of the table
abbrev pub is_flag : List OptionRow → List ℕ → Bool
is_flag rows word = list_any (is_flag_of word) rows

-- the word is an option of the table that has a value
abbrev pub is_valued : List OptionRow → List ℕ → Bool
is_valued rows word = list_any (is_valued_of word) rows
