-- What the reading of a chain answers: the project's own form.
use Rattle.std.specs.Prelude.{◌≡◌, Bool, true, false, List, [], ◌∷◌, ◌++◌, IsTrue, IsFalse, Option, Some, None}
use Rattle.master_reader.specs.declared.record.Body.{Body}
use Rattle.master_reader.specs.declared.record.Record.{Record}
use Rattle.spf_macros.specs.declared.piece.Piece.{Piece}
use Rattle.spf_grammar.specs.Families.{network_of}
use Rattle.spf_grammar.specs.declared.flat.FlatTerm.{FlatTerm}
use Rattle.spf_grammar.specs.declared.flat.Net.{Net}
use Rattle.spf_grammar.specs.declared.policy.Term.{Term}
use Rattle.spf_grammar.specs.declared.policy.Term.TheVariants.{Directive, Redirect, Exp, Unknown}
use Rattle.spf_grammar.specs.declared.verdict.Verdict.{Verdict}
use Rattle.spf_model.specs.Chains.{all_terms, directives_of}
use Rattle.spf_model.specs.Judging.{Labels}
use Rattle.cert_checker.specs.Forms.{AreLinked, IsFlat, LeadsTo, has_all, has_all_last}

-- RFC 7208, section 4.6.2: the flat term of a verdict and a network, if there is one
abbrev pub flat_with : Verdict → Option Net → Option FlatTerm
flat_with verdict None = None
flat_with verdict (Some net) = Some (record { verdict = verdict; net = net })

-- RFC 7208, sections 5.1 and 5.6: the flat term that a directive with a network or `all` is
abbrev pub flat_of : Term → Option FlatTerm
flat_of (Directive verdict mechanism) = flat_with verdict (network_of mechanism)
flat_of (Redirect spec) = None
flat_of (Exp spec) = None
flat_of (Unknown name value) = None

-- whether a term is one, which was appended to a list
abbrev pub IsPushed : Term → (old new : List FlatTerm) → Bool → Type 0
IsPushed term old new true = (flat : FlatTerm) × (flat_of term ≡ Some flat) × (new ≡ old ++ flat ∷ [])
IsPushed term old new false = (flat_of term ≡ None) × (new ≡ old)

-- the terms do not begin with such a directive
abbrev pub BeginOtherwise : List Term → Type 0
BeginOtherwise [] = Unit {0}
BeginOtherwise (term ∷ terms) = flat_of term ≡ None

-- the terms are flat terms, as many as there are, and others behind them; the flat ones were appended to a list
pub record AreTaken (terms rest : List Term) (old new : List FlatTerm) : Type 0 where
  pub flat : List FlatTerm
  pub whole : terms ≡ directives_of flat rest
  pub most : BeginOtherwise rest
  pub appended : new ≡ old ++ flat

-- RFC 7208, section 6.1: a record with these flat terms, and others behind them, is one of a chain, before a record
-- with this name or as the last one
abbrev pub GoesOn : List FlatTerm → List Term → Option Labels → Type 0
GoesOn flat rest None = (rest ≡ []) × IsTrue (has_all_last flat)
GoesOn flat rest (Some next) =
    (spec : List Piece) × (rest ≡ Redirect spec ∷ []) × IsFalse (has_all flat) × LeadsTo spec next

-- the body is that of a record of a chain, with these terms, before a record with this name or as the last one
abbrev pub IsOneOf : Body → Option Labels → List FlatTerm → Type 0
IsOneOf body None terms = IsFlat body terms None × IsTrue (has_all_last terms)
IsOneOf body (Some next) terms =
    (spec : List Piece) × IsFlat body terms (Some spec) × IsFalse (has_all terms) × LeadsTo spec next

-- whether it is one, and the terms that were appended to a list
abbrev pub IsOneAnswer : Body → Option Labels → (old new : List FlatTerm) → Bool → Type 0
IsOneAnswer body next old new true = (terms : List FlatTerm) × IsOneOf body next terms × (new ≡ old ++ terms)
IsOneAnswer body next old new false = (terms : List FlatTerm) → ¬ IsOneOf body next terms

-- the name of the first record
abbrev pub owner_of : List Record → Option Labels
owner_of [] = None
owner_of (r ∷ records) = Some r.owner

-- whether the records are linked, and the terms that were appended to a list
abbrev pub IsLinkedAnswer : List Record → (old new : List FlatTerm) → Bool → Type 0
IsLinkedAnswer records old new true =
    (lists : List (List FlatTerm)) × AreLinked records lists × (new ≡ old ++ all_terms lists)
IsLinkedAnswer records old new false = (lists : List (List FlatTerm)) → ¬ AreLinked records lists
