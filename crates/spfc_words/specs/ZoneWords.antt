-- Zone words: the project's own form.
use Rattle.std.specs.Prelude.{◌≡◌, ◌≢◌, ℕ, ◌<◌, ◌≤◌, ◌==◌, Bool, IsTrue, ◌||◌, List, length, Ok, codes, bytes_eq}
use Rattle.std.specs.Prelude.{AllPairs}
use Rattle.std.specs.List.{AllZip, list_all, slice_split, before_first, after_first}
use Rattle.dns_name.specs.Name.{name_of_text, is_dot}
use Rattle.dns_name.specs.Parts.{without_final}
use Rattle.spf_macros.specs.Words.{is_domain_label}
use Rattle.spfc_words.specs.declared.zone_word.ZoneWord.{ZoneWord}

-- a zone word is an origin, `=` (61) and the name of a file, which may have a `=` too: its origin
abbrev pub origin_in : List ℕ → List ℕ
origin_in word = before_first (λ b. b == 61) word

-- and its file
abbrev pub file_in : List ℕ → List ℕ
file_in word = after_first (λ b. b == 61) word

-- `.`, or labels as a domain has them, joined by dots, with or without a final dot
abbrev pub is_origin : List ℕ → Bool
is_origin text = bytes_eq text (codes ".") || list_all is_domain_label (slice_split is_dot (without_final is_dot text))

-- RFC 1034, section 3.1: the text has the form of an origin, and writes this name, which is legal
pub record IsOrigin (text : List ℕ) (name : List (List ℕ)) : Type 0 where
  pub form : IsTrue (is_origin text)
  pub written : name_of_text text ≡ Ok name

-- the word is an origin, `=` and the name of a file, which is not empty
pub record IsZoneWord (word : List ℕ) (zone : ZoneWord) : Type 0 where
  pub named : IsOrigin (origin_in word) zone.origin
  pub kept : zone.file ≡ file_in word
  pub some : 0 < length zone.file

-- no two zones have the same origin
abbrev pub HaveOwnOrigins : List ZoneWord → Type 0
HaveOwnOrigins zones = AllPairs (λ a b. a.origin ≢ b.origin) zones

-- 1 to 64 zone words, of different origins
pub record AreZoneWords (words : List (List ℕ)) (zones : List ZoneWord) : Type 0 where
  pub each : AllZip IsZoneWord words zones
  pub some : 1 ≤ length words
  pub few : length words ≤ 64
  pub own : HaveOwnOrigins zones
