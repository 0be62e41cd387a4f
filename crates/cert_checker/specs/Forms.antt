-- The records of a chain, whoever wrote them: each but the last is a TXT record that redirects to the next one.
use Rattle.std.specs.Prelude.{◌≡◌, ⊤, ℕ, ◌+◌, ◌<◌, ◌≤◌, ◌==◌, Bool, true, false, not, ◌&&◌, ◌⊎◌, IsTrue, IsFalse, List}
use Rattle.std.specs.Prelude.{[], ◌∷◌, length, Option, Some, None, Ok, Err, Result, if◌then◌else◌}
use Rattle.std.specs.List.{list_all, list_any}
use Rattle.addr_bits.specs.declared.address.Family.{Family}
use Rattle.dns_name.specs.Name.{name_of_text}
use Rattle.dns_name.specs.declared.fault.NameFault.{NameFault}
use Rattle.master_reader.specs.Reading.{Reads}
use Rattle.master_reader.specs.declared.record.Body.{Body}
use Rattle.master_reader.specs.declared.record.Record.{Record}
use Rattle.spf_macros.specs.Expansion.{target}
use Rattle.spf_macros.specs.Grammar.{is_expand}
use Rattle.spf_macros.specs.Words.{is_label}
use Rattle.spf_macros.specs.declared.expansion.Expanded.TheVariants.{Out}
use Rattle.spf_macros.specs.declared.piece.Piece.{Piece}
use Rattle.spf_grammar.specs.Grammar.{SpellsPolicy}
use Rattle.spf_grammar.specs.declared.flat.FlatTerm.{FlatTerm}
use Rattle.spf_grammar.specs.declared.flat.Net.{Net}
use Rattle.spf_grammar.specs.declared.flat.Net.TheVariants.{V4, V6, All}
use Rattle.spf_grammar.specs.declared.policy.Policy.{Policy}
use Rattle.spf_model.specs.Chains.{all_terms, directives_of, redirect_terms}
use Rattle.spf_model.specs.Check.{text_of}
use Rattle.spf_model.specs.Judging.{Labels, name_of}
use Rattle.record_pack.specs.Records.{IsFittingCut, record_name}
use Rattle.zone_writer.specs.Written.{record_owner}

-- ---- names

-- the name, or the root where there is none
abbrev pub or_root : Result Labels NameFault → Labels
or_root (Ok name) = name
or_root (Err fault) = []

-- RFC 1034, section 3.1: the name that a domain writes
abbrev pub name_at : List ℕ → Labels
name_at domain = or_root (name_of_text domain)

-- ---- terms

-- RFC 7208, section 5.1: every address
abbrev pub is_all : Net → Bool
is_all (V4 p) = false
is_all (V6 p) = false
is_all All = true

-- RFC 7208, section 5.1: one of the terms is `all`
abbrev pub has_all : List FlatTerm → Bool
has_all terms = list_any (λ term. is_all term.net) terms

-- RFC 7208, section 5.1: what stands behind `all` is never reached; here nothing does
abbrev pub has_all_last : List FlatTerm → Bool
has_all_last [] = true
has_all_last (term ∷ []) = true
has_all_last (term ∷ next ∷ terms) = not (is_all term.net) && has_all_last (next ∷ terms)

-- RFC 7208, sections 4.5 and 4.6: a TXT record whose text spells the policy
pub record HasPolicy (body : Body) (policy : Policy) : Type 0 where
  pub text : List ℕ
  pub is_text : text_of body ≡ Some text
  pub spells : SpellsPolicy text policy

-- RFC 7208, sections 5.1, 5.6 and 6.1: its terms are these flat terms and then the redirect, if there is one
abbrev pub IsFlat : Body → List FlatTerm → Option (List Piece) → Type 0
IsFlat body terms redirect = HasPolicy body (record { terms = directives_of terms (redirect_terms redirect) })

-- RFC 7208, sections 6.1, 7.1 and 7.3: a domain-spec without macro-expand, which asks for this name
pub record LeadsTo (spec : List Piece) (name : Labels) : Type 0 where
  pub literal : IsTrue (list_all (λ piece. not (is_expand piece)) spec)
  pub text : List ℕ
  pub asks : (family : Family) (domain : List ℕ) → target family domain spec ≡ Out text
  pub named : name_of text ≡ Some name

-- ---- records

-- project's own choice: the records from record k on stand at the name, and behind it at the label and their numbers
abbrev pub HaveOwners : (name : Labels) → (label : List ℕ) → (k : ℕ) → List Record → Type 0
HaveOwners name label k [] = ⊤
HaveOwners name label k (r ∷ records) = (r.owner ≡ record_owner name label k) × HaveOwners name label (k + 1) records

-- the last record of a chain
pub record IsLast (r : Record) (terms : List FlatTerm) : Type 0 where
  pub flat : IsFlat r.body terms None
  pub ends : IsTrue (has_all_last terms)

-- RFC 7208, section 6.1: a record of a chain that redirects to the next one, which stands at this name
pub record IsLink (r : Record) (next : Labels) (terms : List FlatTerm) : Type 0 where
  pub spec : List Piece
  pub flat : IsFlat r.body terms (Some spec)
  pub goes_on : IsFalse (has_all terms)
  pub leads : LeadsTo spec next

-- RFC 7208, section 6.1: records, one or more, of which each but the last redirects to the next, and their terms
abbrev pub AreLinked : List Record → List (List FlatTerm) → Type 0
AreLinked [] lists = ⊥
AreLinked (r ∷ records) [] = ⊥
AreLinked (r ∷ []) (terms ∷ []) = IsLast r terms
AreLinked (r ∷ []) (terms ∷ more ∷ lists) = ⊥
AreLinked (r ∷ next ∷ records) (terms ∷ lists) = IsLink r next.owner terms × AreLinked (next ∷ records) lists

-- project's own choice: the records are a chain from the name on, whose names behind the first have this label
pub record HasChainForm (name : Labels) (records : List Record) (label : List ℕ) (lists : List (List FlatTerm))
    : Type 0 where
  pub few : length records ≤ 11
  pub labelled : IsTrue (is_label label)
  pub owners : HaveOwners name label 0 records
  pub linked : AreLinked records lists

-- RFC 1035, section 5, and RFC 7208, section 6.1: the bytes are read as such records, by a reader of the domain's zone
pub record ReadChain (domain bytes : List ℕ) : Type 0 where
  pub records : List Record
  pub label : List ℕ
  pub lists : List (List FlatTerm)
  pub reads : Reads (name_at domain) bytes records
  pub form : HasChainForm (name_at domain) records label lists

-- the terms of its records, in order
abbrev pub terms_of : {domain bytes : List ℕ} → ReadChain domain bytes → List FlatTerm
terms_of chain = all_terms chain.lists

-- ---- sizes

-- project's own choice, after the guideline of RFC 7208, section 3.4: record k fits with the text that it has
abbrev pub TextFits : (domain label : List ℕ) → (size others k : ℕ) → Option (List ℕ) → Type 0
TextFits domain label size others k None = ⊥
TextFits domain label size others k (Some text) =
    length (record_name domain label k) + length text + (if k == 0 then others else 0) < size

-- so do the records from record k on
abbrev pub TextsFit : (domain label : List ℕ) → (size others k : ℕ) → List Record → Type 0
TextsFit domain label size others k [] = ⊤
TextsFit domain label size others k (r ∷ records) =
    TextFits domain label size others k (text_of r.body) × TextsFit domain label size others (k + 1) records

-- project's own choice: a cut of the list at the same names with fewer records fits, with the written texts
abbrev pub HasShorterCut : (domain label : List ℕ) → (size others : ℕ) → List FlatTerm → (records : ℕ) → Type 0
HasShorterCut domain label size others list records =
    (ends : List ℕ) × IsFittingCut domain label size others list ends × (length ends < records)

-- a record does not fit, or fewer records would do
abbrev pub IsRecordsFault : (domain label : List ℕ) → (size others : ℕ) → List Record → List FlatTerm → Type 0
IsRecordsFault domain label size others records list =
    ¬ TextsFit domain label size others 0 records ⊎ HasShorterCut domain label size others list (length records)
