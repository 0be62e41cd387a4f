-- What is due for verdicts that are published at a domain: a refusal, or the fragment of a shortest list in the fewest
-- records that fit.
use Rattle.std.specs.Prelude.{ℕ, ◌≡◌, ◌<◌, ◌≤◌, ◌^◌, Bool, false, IsTrue, IsFalse, List, length, Result, Ok, Err}
use Rattle.dns_name.specs.Name.{name_of_text}
use Rattle.dns_name.specs.declared.fault.NameFault.{NameFault}
use Rattle.zone_answers.specs.Zone.{Zone}
use Rattle.zone_answers.specs.Names.{has_own_alias, other_text_of, is_taken}
use Rattle.spf_grammar.specs.Families.{HavePrefixes}
use Rattle.spf_grammar.specs.Lists.{IsSame}
use Rattle.spf_grammar.specs.declared.flat.FlatTerm.{FlatTerm}
use Rattle.spf_grammar.specs.declared.verdict.Verdict.{Verdict}
use Rattle.fewest_terms.specs.Chosen.{chosen_list}
use Rattle.fewest_terms.specs.Row.{NeedRow}
use Rattle.fewest_terms.specs.Tables.{need_rows, IsGoodTable}
use Rattle.fewest_terms.specs.Totals.{total}
use Rattle.record_pack.specs.Records.{record_name, IsFittingCut, HasFewest, TakeMost}
use Rattle.zone_writer.specs.Fragment.{fragment_text}
use Rattle.published_records.specs.Published.{Stands}
use Rattle.published_records.specs.Standing.{HoldsName}
use Rattle.loading.specs.declared.refusal.Refusal.{Refusal}
use Rattle.loading.specs.declared.refusal.Refusal.TheVariants.{Alias, Taken, TooBig}
use Rattle.publishing.specs.Settings.{AreLegal}
use Rattle.publishing.specs.declared.settings.ChainSettings.{ChainSettings}

-- ---- the records
-- RFC 7208, section 3.4: the records between these ends fit, beside other texts of so many octets at the domain
abbrev pub CutFits : ChainSettings → (others : ℕ) → List FlatTerm → (ends : List ℕ) → Type 0
CutFits settings others list ends = IsFittingCut settings.domain.text settings.label settings.size others list ends

-- project's own choice: of the cuts that fit, the one with the fewest records in which each but the last takes as many
-- terms as fit
pub record IsChosenCut (settings : ChainSettings) (others : ℕ) (list : List FlatTerm) (ends : List ℕ) : Type 0 where
  pub fits : CutFits settings others list ends
  pub fewest : HasFewest settings.domain.text settings.label settings.size others list ends
  pub most : TakeMost settings.domain.text settings.label settings.size others list 0 0 ends

-- the bytes of the list in the records between these ends
abbrev pub fragment_of : ChainSettings → List FlatTerm → (ends : List ℕ) → (rows4 rows6 : List NeedRow) → (sum : ℕ)
    → List ℕ
fragment_of settings list ends rows4 rows6 sum =
    fragment_text settings.domain.text settings.label settings.ttl list ends rows4 rows6 sum

-- ---- their names
-- the name of record k, as a text
abbrev pub name_text : ChainSettings → (k : ℕ) → List ℕ
name_text settings k = record_name settings.domain.text settings.label k

-- project's own choice: whether something stands at or below a name that is to be free
abbrev pub is_name_taken : List Zone → Result (List (List ℕ)) NameFault → Bool
is_name_taken zones (Ok name) = is_taken zones name
is_name_taken zones (Err fault) = false

-- project's own choice: whether the name of record k is taken
abbrev pub is_record_taken : ChainSettings → List Zone → (k : ℕ) → Bool
is_record_taken settings zones k = is_name_taken zones (name_of_text (name_text settings k))

-- the first record behind the one at the domain, of so many records, whose name is taken
pub record IsFirstTaken (settings : ChainSettings) (zones : List Zone) (records k : ℕ) : Type 0 where
  pub behind : 1 ≤ k
  pub within : k < records
  pub taken : IsTrue (is_record_taken settings zones k)
  pub none_before : (j : ℕ) → 1 ≤ j → j < k → IsFalse (is_record_taken settings zones j)

-- the names of the records behind the one at the domain are free
abbrev pub AreFree : ChainSettings → List Zone → (records : ℕ) → Type 0
AreFree settings zones records = (k : ℕ) → 1 ≤ k → k < records → IsFalse (is_record_taken settings zones k)

-- ---- refusals
-- no cut of the list fits
abbrev pub IsTooBig : ChainSettings → (others : ℕ) → List FlatTerm → Refusal → Type 0
IsTooBig settings others list why = (why ≡ TooBig) × ((ends : List ℕ) → ¬ CutFits settings others list ends)

-- the name of a record is taken, of so many records
abbrev pub IsFirstTakenRefusal : ChainSettings → List Zone → (records : ℕ) → Refusal → Type 0
IsFirstTakenRefusal settings zones records why =
    (k : ℕ) × IsFirstTaken settings zones records k × (why ≡ Taken k (name_text settings k))

-- ---- what is due
-- for a chosen list, with its rows and its total, beside the other texts at the domain
pub data ListDue (settings : ChainSettings) (zones : List Zone) (list : List FlatTerm) (rows4 rows6 : List NeedRow)
    (sum : ℕ) (due : Result (List ℕ) Refusal) : Type 0 where
  too_big : ((ends : List ℕ) → ¬ CutFits settings (other_text_of zones settings.domain.name) list ends)
      → due ≡ Err TooBig → ListDue settings zones list rows4 rows6 sum due
  taken : (ends : List ℕ) (k : ℕ) → IsChosenCut settings (other_text_of zones settings.domain.name) list ends
      → IsFirstTaken settings zones (length ends) k → due ≡ Err (Taken k (name_text settings k))
      → ListDue settings zones list rows4 rows6 sum due
  written : (ends : List ℕ) → IsChosenCut settings (other_text_of zones settings.domain.name) list ends
      → AreFree settings zones (length ends) → due ≡ Ok (fragment_of settings list ends rows4 rows6 sum)
      → ListDue settings zones list rows4 rows6 sum due

-- for these verdicts, which the domain has
pub data PublicationDue (settings : ChainSettings) (zones : List Zone) (v4 v6 : ℕ → Verdict)
    (due : Result (List ℕ) Refusal) : Type 0 where
  alias : IsTrue (has_own_alias zones settings.domain.name) → due ≡ Err (Alias settings.domain.text)
      → PublicationDue settings zones v4 v6 due
  packed : IsFalse (has_own_alias zones settings.domain.name)
      → ListDue settings zones (chosen_list v4 v6) (need_rows 32 v4 32 0) (need_rows 128 v6 128 0) (total v4 v6) due
      → PublicationDue settings zones v4 v6 due

-- for the same verdicts one thing is due at most
abbrev pub OnePublication : Type 0
OnePublication = (settings : ChainSettings) (zones : List Zone) (v4 v6 w4 w6 : ℕ → Verdict)
    (x y : Result (List ℕ) Refusal)
    → ((a : ℕ) → a < 2 ^ 32 → v4 a ≡ w4 a) → ((a : ℕ) → a < 2 ^ 128 → v6 a ≡ w6 a)
    → PublicationDue settings zones v4 v6 x → PublicationDue settings zones w4 w6 y → x ≡ y

-- ---- what is best
-- The bytes are the fragment of a list with these verdicts. No list with these verdicts has fewer terms, in any order,
-- with any mixture of families and any number of `all`, as the table of the fragment shows. The list stands in records
-- that fit beside the other texts at the domain, no cut of it that fits has fewer records, and their names are free.
-- Where one of the zones holds the domain, the records stand where they are published.
pub record IsBestPublication (settings : ChainSettings) (zones : List Zone) (v4 v6 : ℕ → Verdict)
    (bytes : List ℕ) : Type 0 where
  pub list : List FlatTerm
  pub ends : List ℕ
  pub rows4 : List NeedRow
  pub rows6 : List NeedRow
  pub sum : ℕ
  pub written : bytes ≡ fragment_of settings list ends rows4 rows6 sum
  pub fits : CutFits settings (other_text_of zones settings.domain.name) list ends
  pub fewest : (other : List ℕ) → CutFits settings (other_text_of zones settings.domain.name) list other
      → length ends ≤ length other
  pub free : AreFree settings zones (length ends)
  pub prefixes : HavePrefixes list
  pub same : IsSame v4 v6 list
  pub shortest : (other : List FlatTerm) → IsSame v4 v6 other → length list ≤ length other
  pub table : IsGoodTable v4 v6 rows4 rows6 sum
  pub counted : sum ≡ length list
  pub stands : HoldsName zones settings.domain.name
      → Stands settings.domain.text settings.label zones settings.domain.name list ends bytes

-- a fragment that is due is best
abbrev pub DueIsBest : Type 0
DueIsBest = (settings : ChainSettings) (zones : List Zone) (v4 v6 : ℕ → Verdict) (bytes : List ℕ) → AreLegal settings
    → PublicationDue settings zones v4 v6 (Ok bytes) → IsBestPublication settings zones v4 v6 bytes
