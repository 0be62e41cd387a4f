-- The size of a record, as an option.
use Rattle.std.specs.Prelude.{codes}
use Rattle.spfc_words.specs.Rows.{OptionRow, NumberOption}

-- what a record may take, in octets and plus one (450 after the guideline of RFC 7208, section 3.4)
abbrev pub size_option : OptionRow
size_option = NumberOption (codes "--size") 64 4096 450
