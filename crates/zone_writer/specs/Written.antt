-- The records that a fragment is read as.
use Rattle.std.specs.Prelude.{◌≡◌, ℕ, ◌+◌, ◌≤◌, ◌==◌, IsTrue, List, [], ◌∷◌, ◌++◌, length, decimal, Ok, if◌then◌else◌}
use Rattle.std.specs.Str.{str_to_ascii_lowercase}
use Rattle.dns_name.specs.Name.{name_of_text}
use Rattle.master_reader.specs.Reading.{Reads}
use Rattle.master_reader.specs.declared.record.Body.TheVariants.{Txt}
use Rattle.master_reader.specs.declared.record.Record.{Record}
use Rattle.spf_macros.specs.Words.{is_domain, is_label}
use Rattle.spf_grammar.specs.declared.flat.FlatTerm.{FlatTerm}
use Rattle.spf_grammar.specs.Families.{HavePrefixes}
use Rattle.fewest_terms.specs.Row.{NeedRow}
use Rattle.record_pack.specs.Records.{IsFittingCut, pieces_from, record_name, record_text}
use Rattle.zone_writer.specs.Fragment.{fragment_text, is_none, strings_of}

-- project's own choice: record 0 stands at the domain, and record k at the label and k in front of it
abbrev pub record_owner : (name : List (List ℕ)) → (label : List ℕ) → (k : ℕ) → List (List ℕ)
record_owner name label k = if k == 0 then name else (label ++ decimal k) ∷ name

-- RFC 1035, section 3.3.14: the records of the pieces, from record k on
abbrev pub written_records : (domain label : List ℕ) → (name : List (List ℕ)) → (k : ℕ) → List (List FlatTerm)
    → List Record
written_records domain label name k [] = []
written_records domain label name k (piece ∷ pieces) =
    record {
      owner = record_owner name label k;
      body = Txt (strings_of (record_text domain label piece k (is_none pieces)));
    }
    ∷ written_records domain label name (k + 1) pieces

-- project's own choice, after RFC 1123, section 2.1: a domain and a label in lower case, with which the name of the
-- last record of a chain has at most 253 characters
pub record AreChainWords (domain label : List ℕ) : Type 0 where
  pub domain_form : IsTrue (is_domain domain)
  pub label_form : IsTrue (is_label label)
  pub domain_lower : str_to_ascii_lowercase domain ≡ domain
  pub label_lower : str_to_ascii_lowercase label ≡ label
  pub short : length (record_name domain label 10) ≤ 253

-- RFC 1035, section 5: the fragment of a cut that fits is read as its records, by a reader of the zone of the domain
abbrev pub FragmentIsRead : Type 0
FragmentIsRead = (domain label : List ℕ) (ttl size others : ℕ) (list : List FlatTerm) (ends : List ℕ)
    (rows4 rows6 : List NeedRow) (total : ℕ)
    (name : List (List ℕ)) → AreChainWords domain label → name_of_text domain ≡ Ok name → ttl ≤ 2147483647
    → size ≤ 4096 → HavePrefixes list
    → IsFittingCut domain label size others list ends
    → Reads name (fragment_text domain label ttl list ends rows4 rows6 total)
    (written_records domain label name 0 (pieces_from list 0 ends))
