-- What the parts of an evaluation say of the run that they are a part of (the project's own form), and what a record
-- has whose terms can be judged. A part is what comes after it, led to a run.
use Rattle.std.specs.Prelude.{◌≡◌, ℕ, ◌≤◌, IsTrue, List, [], ◌∷◌, length, Option, Some, None, Result, Ok, Err}
use Rattle.std.specs.Prelude.{MatchResult, MatchOption}
use Rattle.std.specs.List.{list_all}
use Rattle.dns_name.specs.Wire.{wire_form}
use Rattle.spf_macros.specs.declared.piece.Piece.{Piece}
use Rattle.spf_macros.specs.Grammar.{is_for_all}
use Rattle.spf_grammar.specs.declared.verdict.Verdict.{Verdict}
use Rattle.spf_grammar.specs.declared.policy.Mechanism.{Mechanism}
use Rattle.spf_grammar.specs.declared.policy.Mechanism.TheVariants.{All, Include, A, Mx, Ptr, Ip4, Ip6, Exists}
use Rattle.spf_grammar.specs.declared.policy.Term.{Term}
use Rattle.spf_grammar.specs.declared.policy.Term.TheVariants.{Directive, Redirect, Exp, Unknown}
use Rattle.spf_model.specs.declared.context.RecordContext.{RecordContext}
use Rattle.spf_model.specs.declared.gathered.Gathered.{Gathered}
use Rattle.spf_model.specs.declared.gathered.Hosts.{Hosts}
use Rattle.spf_model.specs.declared.gathered.Hosts.TheVariants.{Common, Reversed}
use Rattle.spf_model.specs.declared.outcome.Cause.TheVariants as cause
use Rattle.spf_model.specs.declared.outcome.Counts.{Counts}
use Rattle.spf_model.specs.declared.outcome.Halt.{Halt}
use Rattle.spf_model.specs.declared.outcome.Halt.TheVariants.{Ended, Memory}
use Rattle.spf_model.specs.declared.outcome.Outcome.{Outcome}
use Rattle.spf_model.specs.declared.outcome.Place.{Place}
use Rattle.spf_model.specs.declared.outcome.Outcome.TheVariants.{Nothing, Is, Perm, Temp, Unsettled}
use Rattle.spf_model.specs.Run.{Run, Answering, EndsWith}
use Rattle.spf_model.specs.Judging.{Site, at}

-- what a context judges by
abbrev pub site_of : RecordContext → Site
site_of context =
    record { limits = context.limits; family = context.family; domain = context.domain.now; name = context.name.now }

-- the run ends as the other does
abbrev pub LeadsTo : Answering → Run → Run → Type 0
LeadsTo zones run rest = (outcome : Outcome) (after : Counts) → EndsWith zones rest outcome after
    → EndsWith zones run outcome after

-- the run ends with this outcome
abbrev pub EndsSo : Answering → Run → Outcome → Type 0
EndsSo zones run outcome = (after : Counts) × EndsWith zones run outcome after

-- the part hands this on
abbrev pub HandsOn : {A : Type 0} → Answering → ((A → Run) → Run) → A → Type 0
HandsOn {A} zones part x = (go : A → Run) → LeadsTo zones (part go) (go x)

-- the outcome is no verdict, so no run goes on after it
abbrev pub NoVerdict : Outcome → Type 0
NoVerdict (Is verdict) = ⊥
NoVerdict (Nothing place) = Unit {0}
NoVerdict (Perm cause place) = Unit {0}
NoVerdict (Temp cause place) = Unit {0}
NoVerdict (Unsettled cause place) = Unit {0}

-- the part ends the run, whatever comes after; without memory nothing is said
abbrev pub Halts : {G : Type 0} → Answering → (G → Run) → Halt → Type 0
Halts {G} zones part (Ended outcome) = NoVerdict outcome × ((go : G) → EndsSo zones (part go) outcome)
Halts {G} zones part Memory = Unit {0}

-- a part that hands its result on
abbrev pub Hands : {A : Type 0} → Answering → ((A → Run) → Run) → Result A Halt → Type 0
Hands {A} zones part result = MatchResult result (HandsOn zones part) (Halts zones part)

-- a part that hands the counts on
abbrev pub Leads : {T : Type 0} → Answering → ((Counts → Run) → Run) → Counts → Result T Halt → Type 0
Leads zones part counts result = MatchResult result (λ _. HandsOn zones part counts) (Halts zones part)

-- a part that hands its result and the counts on
abbrev pub IsJudged : {A : Type 0} → Answering → ((A → Counts → Run) → Run) → Counts → Result A Halt → Type 0
IsJudged {A} zones part counts result =
    MatchResult result (λ x. (go : A → Counts → Run) → LeadsTo zones (part go) (go x counts)) (Halts zones part)

-- a run that ends with a verdict and these counts, or otherwise
abbrev pub IsVerdictOf : Answering → Run → Counts → Result Verdict Halt → Type 0
IsVerdictOf zones run counts result = MatchResult result (λ verdict. EndsWith zones run (Is verdict) counts)
    (Halts zones (λ (u : Unit {0}). run))

-- RFC 7208, sections 5.2 and 6.1: that the record which a term asks for does not exist is an error of the term
abbrev pub required : Place → Outcome → Outcome
required place (Nothing there) = Perm cause.Missing place
required place (Is verdict) = Is verdict
required place (Perm cause there) = Perm cause there
required place (Temp cause there) = Temp cause there
required place (Unsettled cause there) = Unsettled cause there

-- the same where the evaluation of that record halts
abbrev pub required_halt : Site → ℕ → Halt → Halt
required_halt site t (Ended outcome) = Ended (required (at site t) outcome)
required_halt site t Memory = Memory

-- the same where it may have a verdict
abbrev pub required_of : Site → ℕ → Result Verdict Halt → Result Verdict Halt
required_of site t (Ok verdict) = Ok verdict
required_of site t (Err halt) = Err (required_halt site t halt)

-- a part that ends with the verdict of a directive, or hands the counts on
abbrev pub IsTried : Answering → ((Counts → Run) → Run) → Counts → Result (Option Verdict) Halt → Type 0
IsTried zones part counts result =
    MatchResult result (λ found. MatchOption found (HandsOn zones part counts)
    (λ verdict. (go : Counts → Run) → EndsWith zones (part go) (Is verdict) counts))
    (Halts zones part)

-- RFC 1035, section 2.3.4: a name below which the reversed name of each address is no longer than a name may be
abbrev pub IsShort : Hosts → Type 0
IsShort (Common gathered) = Unit {0}
IsShort (Reversed name) = length (wire_form name) ≤ 191

-- what was gathered, as what all addresses of a family have in common
abbrev pub common_of : Result Gathered Halt → Result Hosts Halt
common_of (Ok gathered) = Ok (Common gathered)
common_of (Err halt) = Err halt

-- RFC 7208, section 5.7: only an `exists` asks at reversed names, and below such a name
abbrev pub HostsFit : Mechanism → Hosts → Type 0
HostsFit mechanism (Common gathered) = Unit {0}
HostsFit mechanism (Reversed name) =
    (spec : List Piece) × (mechanism ≡ Exists spec) × (length (wire_form name) ≤ 191)

-- ---- terms that can be judged

-- RFC 7208, section 7.2: the macro text has no letter of explanations alone
abbrev pub TargetFits : Option (List Piece) → Type 0
TargetFits None = Unit {0}
TargetFits (Some spec) = IsTrue (list_all is_for_all spec)

-- RFC 7208, section 12: what the grammar lets a mechanism have
abbrev pub MechanismFits : Mechanism → Type 0
MechanismFits All = Unit {0}
MechanismFits (Include spec) = TargetFits (Some spec)
MechanismFits (A spec len4 len6) = TargetFits spec × (len4 ≤ 32) × (len6 ≤ 128)
MechanismFits (Mx spec len4 len6) = TargetFits spec × (len4 ≤ 32) × (len6 ≤ 128)
MechanismFits (Ptr spec) = Unit {0}
MechanismFits (Ip4 p) = Unit {0}
MechanismFits (Ip6 p) = Unit {0}
MechanismFits (Exists spec) = TargetFits (Some spec)

-- RFC 7208, section 12: what the grammar lets a term have
abbrev pub TermFits : Term → Type 0
TermFits (Directive verdict mechanism) = MechanismFits mechanism
TermFits (Redirect spec) = TargetFits (Some spec)
TermFits (Exp spec) = Unit {0}
TermFits (Unknown name value) = Unit {0}

-- RFC 7208, section 12: what it lets the terms of a record have
abbrev pub TermsFit : List Term → Type 0
TermsFit [] = Unit {0}
TermsFit (term ∷ terms) = TermFits term × TermsFit terms
