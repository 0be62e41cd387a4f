-- How the records of a chain are written, as the words say it: the project's own form.
use Rattle.std.specs.Prelude.{◌≡◌, ℕ, ◌+◌, ◌≤◌, Bool, IsTrue, List, length, nat_le, codes, Ok}
use Rattle.std.specs.Str.{str_to_ascii_lowercase}
use Rattle.dns_name.specs.Name.{name_of_text}
use Rattle.spf_macros.specs.Words.{is_label}
use Rattle.zone_writer.specs.Written.{AreChainWords}
use Rattle.spfc_words.specs.Domains.{IsDomain}
use Rattle.spfc_words.specs.Options.{NumberIs, TextIs}
use Rattle.spfc_words.specs.Rows.{OptionRow, NumberOption, TextOption}
use Rattle.spfc_words.specs.Size.{size_option}
use Rattle.publishing.specs.declared.settings.ChainSettings.{ChainSettings}

-- RFC 2181, section 8: the TTL of the records, in seconds
abbrev pub ttl_option : OptionRow
ttl_option = NumberOption (codes "--ttl") 0 2147483647 3600

-- what the names of the records behind the first begin with
abbrev pub label_option : OptionRow
label_option = TextOption (codes "--label") (codes "_spf")

-- `_` and 0 to 60 letters, digits, hyphens and underscores, taken in lower case
pub record IsLabelOption (rows : List OptionRow) (words : List (List ℕ)) (label : List ℕ) : Type 0 where
  pub text : List ℕ
  pub written : TextIs rows words label_option text
  pub form : IsTrue (is_label text)
  pub lower : label ≡ str_to_ascii_lowercase text

-- RFC 1035, section 2.3.4: the name of the last record of a chain, LABEL10.DOMAIN, has at most 253 characters
abbrev pub has_room : (label domain : List ℕ) → Bool
has_room label domain = nat_le (length label + length (codes "10.") + length domain) 253

-- the domain and the options in front of the words give these settings
pub record AreSettings (rows : List OptionRow) (domain : List ℕ) (words : List (List ℕ))
    (settings : ChainSettings) : Type 0 where
  pub named : IsDomain domain settings.domain
  pub sized : NumberIs rows words size_option settings.size
  pub lasting : NumberIs rows words ttl_option settings.ttl
  pub labelled : IsLabelOption rows words settings.label
  pub room : IsTrue (has_room settings.label settings.domain.text)

-- settings with which each chain of records has legal names, and can be written: those of words have this
pub record AreLegal (settings : ChainSettings) : Type 0 where
  pub chain : AreChainWords settings.domain.text settings.label
  pub named : name_of_text settings.domain.text ≡ Ok settings.domain.name
  pub small : settings.size ≤ 4096
  pub lasting : settings.ttl ≤ 2147483647
