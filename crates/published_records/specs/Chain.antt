-- The records of a chain as SPF records: what their texts spell, and where their redirects lead.
use Rattle.std.specs.Prelude.{◌≡◌, ℕ, ◌+◌, ◌≤◌, Bool, true, false, IsTrue, List, [], ◌∷◌, length, map, filter_map, Ok}
use Rattle.std.specs.Prelude.{Option, Some, None}
use Rattle.addr_bits.specs.declared.address.Family.{Family}
use Rattle.dns_name.specs.Name.{name_of_text}
use Rattle.master_reader.specs.declared.record.Body.{Body}
use Rattle.zone_answers.specs.declared.ask_kind.AskKind.TheVariants as kind
use Rattle.zone_answers.specs.declared.answer.Answer.TheVariants.{Found}
use Rattle.spf_macros.specs.declared.piece.Piece.{Piece}
use Rattle.spf_macros.specs.declared.piece.Piece.TheVariants.{Literal}
use Rattle.spf_macros.specs.declared.expansion.Expanded.TheVariants.{Out}
use Rattle.spf_macros.specs.Expansion.{target}
use Rattle.spf_macros.specs.Words.{is_domain, is_label}
use Rattle.spf_grammar.specs.Families.{HavePrefixes}
use Rattle.spf_grammar.specs.Grammar.{SpellsPolicy}
use Rattle.spf_grammar.specs.declared.flat.FlatTerm.{FlatTerm}
use Rattle.spf_model.specs.Chains.{directives_of, redirect_terms}
use Rattle.spf_model.specs.Chains.{IsChain}
use Rattle.spf_model.specs.Check.{spf_text_of}
use Rattle.spf_model.specs.Run.{Answering}
use Rattle.record_pack.specs.Records.{record_name, record_text}
use Rattle.zone_writer.specs.Fragment.{is_none}
use Rattle.zone_writer.specs.Written.{AreChainWords, record_owner}

-- RFC 7208, section 7.1: the name of the record behind record k as a domain-spec, byte by byte
abbrev pub next_spec : (domain label : List ℕ) → (k : ℕ) → List Piece
next_spec domain label k = map Literal (record_name domain label (k + 1))

-- RFC 7208, section 6.1: the redirect of record k, of which the last record has none
abbrev pub next_redirect : (domain label : List ℕ) → (k : ℕ) → (last : Bool) → Option (List Piece)
next_redirect domain label k true = None
next_redirect domain label k false = Some (next_spec domain label k)

-- RFC 7208, section 4.6: the text of record k spells its terms and then its redirect
abbrev pub RecordsSpell : Type 0
RecordsSpell = (domain label : List ℕ) (terms : List FlatTerm) (k : ℕ) (last : Bool)
    → IsTrue (is_domain domain) → IsTrue (is_label label) → k ≤ 10 → HavePrefixes terms
    → SpellsPolicy (record_text domain label terms k last)
    (record { terms = directives_of terms (redirect_terms (next_redirect domain label k last)) })

-- RFC 7208, sections 4.8 and 7.3: the redirect of record k leads to the name of the next record, for addresses of
-- either family
abbrev pub RecordsLeadOn : Type 0
RecordsLeadOn = (domain label : List ℕ) (k : ℕ) (family : Family) (at : List ℕ)
    → IsTrue (is_domain domain) → IsTrue (is_label label) → k ≤ 10 → length (record_name domain label (k + 1)) ≤ 253
    → target family at (next_spec domain label k) ≡ Out (record_name domain label (k + 1))

-- RFC 7208, section 4.5: TXT at the name is found, with this text as the one SPF text
pub record Holds (zones : Answering) (name : List (List ℕ)) (text : List ℕ) : Type 0 where
  pub bodies : List Body
  pub is_found : zones (record { name = name; kind = kind.Txt }) ≡ Found bodies
  pub alone : filter_map spf_text_of bodies ≡ text ∷ []

-- the records with these terms stand at their names, from record k on
abbrev pub HoldRecords : Answering → (domain label : List ℕ) → (name : List (List ℕ)) → (k : ℕ) → List (List FlatTerm)
    → Type 0
HoldRecords zones domain label name k [] = Unit {0}
HoldRecords zones domain label name k (terms ∷ lists) =
    Holds zones (record_owner name label k) (record_text domain label terms k (is_none lists))
    × HoldRecords zones domain label name (k + 1) lists

-- the terms of each record have prefixes of their families
abbrev pub AllHavePrefixes : List (List FlatTerm) → Type 0
AllHavePrefixes [] = Unit {0}
AllHavePrefixes (terms ∷ lists) = HavePrefixes terms × AllHavePrefixes lists

-- RFC 7208, section 6.1: records that stand at their names are a chain from the domain on
abbrev pub RecordsAreChain : Type 0
RecordsAreChain = (zones : Answering) (domain label : List ℕ) (name : List (List ℕ)) (terms : List FlatTerm)
    (lists : List (List FlatTerm)) → AreChainWords domain label → name_of_text domain ≡ Ok name → length lists ≤ 10
    → AllHavePrefixes (terms ∷ lists)
    → HoldRecords zones domain label name 0 (terms ∷ lists) → IsChain zones domain name (terms ∷ lists)
