-- Chains of records of networks and `all`, each of which but the last redirects to the next.
use Rattle.std.specs.Prelude.{◌≡◌, ℕ, ◌<◌, List, [], ◌∷◌, ◌++◌, length, filter_map, Option, Some, None}
use Rattle.addr_bits.specs.declared.address.Address.{Address}
use Rattle.addr_bits.specs.declared.address.Family.{Family}
use Rattle.master_reader.specs.declared.record.Body.{Body}
use Rattle.zone_answers.specs.declared.ask_kind.AskKind.TheVariants as kind
use Rattle.zone_answers.specs.declared.answer.Answer.{Answer}
use Rattle.zone_answers.specs.declared.answer.Answer.TheVariants.{Found}
use Rattle.spf_macros.specs.declared.piece.Piece.{Piece}
use Rattle.spf_macros.specs.declared.expansion.Expanded.TheVariants.{Out}
use Rattle.spf_macros.specs.Expansion.{target}
use Rattle.spf_grammar.specs.Flat.{first}
use Rattle.spf_grammar.specs.Grammar.{SpellsPolicy}
use Rattle.spf_grammar.specs.declared.flat.FlatTerm.{FlatTerm}
use Rattle.spf_grammar.specs.declared.flat.Net.{Net}
use Rattle.spf_grammar.specs.declared.flat.Net.TheVariants as net
use Rattle.spf_grammar.specs.declared.policy.Mechanism.{Mechanism}
use Rattle.spf_grammar.specs.declared.policy.Mechanism.TheVariants as mechanism
use Rattle.spf_grammar.specs.declared.policy.Term.{Term}
use Rattle.spf_grammar.specs.declared.policy.Term.TheVariants.{Directive, Redirect}
use Rattle.spf_grammar.specs.declared.policy.Policy.{Policy}
use Rattle.spf_model.specs.declared.outcome.Counts.{Counts}
use Rattle.spf_model.specs.declared.outcome.Limits.{Limits}
use Rattle.spf_model.specs.declared.outcome.Outcome.TheVariants.{Is}
use Rattle.spf_model.specs.Run.{Answering, EndsWith}
use Rattle.spf_model.specs.Judging.{Labels, name_of}
use Rattle.spf_model.specs.Check.{spf_text_of, check_host}

-- RFC 7208, sections 5.1 and 5.6: the mechanism of a network
abbrev pub mechanism_of : Net → Mechanism
mechanism_of (net.V4 p) = mechanism.Ip4 p
mechanism_of (net.V6 p) = mechanism.Ip6 p
mechanism_of net.All = mechanism.All

-- flat terms as directives, and then other terms
abbrev pub directives_of : List FlatTerm → List Term → List Term
directives_of [] behind = behind
directives_of (term ∷ terms) behind = Directive term.verdict (mechanism_of term.net) ∷ directives_of terms behind

-- RFC 7208, section 6.1: a redirect, or none
abbrev pub redirect_terms : Option (List Piece) → List Term
redirect_terms None = []
redirect_terms (Some spec) = Redirect spec ∷ []

-- RFC 7208, section 4.5: the answer has one SPF text, which spells these networks and then the redirect, if there is
-- one
pub record IsFlatRecord (found : Answer) (terms : List FlatTerm) (redirect : Option (List Piece)) : Type 0 where
  pub bodies : List Body
  pub text : List ℕ
  pub policy : Policy
  pub is_found : found ≡ Found bodies
  pub alone : filter_map spf_text_of bodies ≡ text ∷ []
  pub spells : SpellsPolicy text policy
  pub is_flat : policy.terms ≡ directives_of terms (redirect_terms redirect)

-- RFC 7208, section 4.3: what stands at the name of a record, which has two labels or more
abbrev pub StandsAt : Answering → Labels → List FlatTerm → Option (List Piece) → Type 0
StandsAt zones [] terms redirect = ⊥
StandsAt zones (label ∷ []) terms redirect = ⊥
StandsAt zones (label ∷ next ∷ labels) terms redirect =
    IsFlatRecord (zones (record { name = label ∷ next ∷ labels; kind = kind.Txt })) terms redirect

-- RFC 7208, section 6.1: where the redirect of a record at a domain leads, for addresses of either family: a domain and
-- its name
pub record LeadsOn (domain : List ℕ) (spec : List Piece) (text : List ℕ) (name : Labels) : Type 0 where
  pub reached : (family : Family) → target family domain spec ≡ Out text
  pub named : name_of text ≡ Some name

-- records from a domain on, whose flat terms are these lists: each but the last redirects to the next
abbrev pub IsChain : Answering → (domain : List ℕ) → (name : Labels) → List (List FlatTerm) → Type 0
IsChain zones domain name [] = ⊥
IsChain zones domain name (terms ∷ []) = StandsAt zones name terms None
IsChain zones domain name (terms ∷ next ∷ lists) =
    (spec : List Piece) × (text : List ℕ) × (there : Labels)
    × StandsAt zones name terms (Some spec) × LeadsOn domain spec text there × IsChain zones text there (next ∷ lists)

-- the terms of all records, in order
abbrev pub all_terms : List (List FlatTerm) → List FlatTerm
all_terms [] = []
all_terms (terms ∷ lists) = terms ++ all_terms lists

-- RFC 7208, section 6.1: the evaluation of a chain gives the address the verdict of the first of all terms that has it,
-- with fewer lookups than records and no void
pub record GivesFlat (zones : Answering) (limits : Limits) (a : Address) (domain : List ℕ) (name : Labels)
    (lists : List (List FlatTerm)) : Type 0 where
  pub counts : Counts
  pub ends : EndsWith zones (check_host limits a domain name) (Is (first (all_terms lists) a)) counts
  pub lookups : counts.lookups < length lists
  pub voids : counts.voids ≡ 0
