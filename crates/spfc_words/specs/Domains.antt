-- Domains.
use Rattle.std.specs.Prelude.{◌≡◌, ℕ, List, IsTrue, IsOk, Ok}
use Rattle.std.specs.Str.{str_to_ascii_lowercase}
use Rattle.dns_name.specs.Name.{name_of_text}
use Rattle.spf_macros.specs.Words.{is_domain}
use Rattle.spfc_words.specs.declared.domain.Domain.{Domain}

-- RFC 7208, section 7.1: the word is a domain, which is taken in lower case, with the name that its text writes
pub record IsDomain (word : List ℕ) (domain : Domain) : Type 0 where
  pub form : IsTrue (is_domain word)
  pub lower : domain.text ≡ str_to_ascii_lowercase word
  pub named : name_of_text domain.text ≡ Ok domain.name

-- RFC 1034, section 3.1, and RFC 1035, section 2.3.4: a domain, taken in lower case, is a legal name
abbrev pub DomainsAreNames : Type 0
DomainsAreNames = (text : List ℕ) → IsTrue (is_domain text) → IsOk (name_of_text (str_to_ascii_lowercase text))
