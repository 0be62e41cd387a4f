-- A record of a walk: what it asks for, its terms, and what comes where none matches.
use Rattle.std.proofs.Common.{◌≡◌, ℕ, zero, suc, ◌-◌, ◌<◌, true, List, [], ◌∷◌, length, get_or, refl, sym, ap, subst, arith, Option, Some, None, Result, Ok, Err, IfOk}
use Rattle.addr_bits.specs.Prefix.{Cidr}
use Rattle.addr_bits.specs.Address.{family_of}
use Rattle.addr_bits.specs.declared.address.Address.{Address}
use Rattle.addr_bits.specs.declared.address.Family.{Family}
use Rattle.zone_answers.specs.declared.answer.Question.{Question}
use Rattle.spf_macros.specs.declared.piece.Piece.{Piece}
use Rattle.spf_grammar.specs.declared.verdict.Verdict.{Verdict}
use Rattle.spf_grammar.specs.declared.verdict.Verdict.TheVariants.{Neutral}
use Rattle.spf_grammar.specs.declared.policy.Mechanism.{Mechanism}
use Rattle.spf_grammar.specs.declared.policy.Mechanism.TheVariants.{Include as IncludeOf}
use Rattle.spf_grammar.specs.declared.policy.Term.{Term}
use Rattle.spf_grammar.specs.declared.policy.Term.TheVariants.{Directive}
use Rattle.spf_model.specs.declared.outcome.Cause.TheVariants as cause
use Rattle.spf_model.specs.declared.outcome.Counts.{Counts}
use Rattle.spf_model.specs.declared.outcome.Place.{Place}
use Rattle.spf_model.specs.declared.outcome.Halt.TheVariants.{Ended}
use Rattle.spf_model.specs.declared.outcome.Outcome.{Outcome}
use Rattle.spf_model.specs.declared.outcome.Outcome.TheVariants.{Perm}
use Rattle.spf_model.specs.Run.{Run, Answering}
use Rattle.spf_model.specs.Judging.{Labels, naming_target}
use Rattle.spf_model.specs.Check.{check, with_record, evaluated, redirect_from}
use Rattle.spf_model.specs.Leads.{TargetFits, TermFits, TermsFit}
use Rattle.spf_model.specs.declared.context.RecordContext.{RecordContext}
use Rattle.symbolic_check.specs.declared.state.State.{State}
use Rattle.symbolic_check.specs.declared.state.Purpose.{Purpose}
use Rattle.symbolic_check.specs.declared.state.Purpose.TheVariants.{Include, Redirect}
use Rattle.spf_model.specs.Leads.{site_of}
use Rattle.spf_model.specs.Settling.{Settles}
use Rattle.symbolic_check.specs.Steps.{entered, after_lookup, after_match, after_failure, after_target}
use Rattle.symbolic_check.specs.Stretches.{term_stretch, terms_stretch, default_stretch, record_stretch, target_stretch, reached_stretch}
use Rattle.symbolic_check.specs.Walk.{Stretch, Walks, SomeLive, StepsAt, StepsWith}
use Rattle.symbolic_check.proofs.Walking.{walks_twice, walks_by_steps, walks_alike}
use Rattle.symbolic_check.proofs.Stepping.{match_moves, failure_moves}
use Rattle.symbolic_check.proofs.Settling.{after_part, walks_passed, walks_stopped}
use Rattle.symbolic_check.proofs.Targets.{target_walk}

-- the states of a walk, or none for want of memory
abbrev pub Walked : (E : Type 0) (bits : ℕ) → (ℕ → Answering) → (ℕ → Stretch) → List (Cidr × State) → List Question → List Question → Result (List (Cidr × State)) E → Type 0
Walked E bits zones stretch old asked more result = IfOk result (λ new. Walks bits zones stretch old new asked more)

-- a step is a walk
stepped : {E : Type 0} (bits : ℕ) (zones : ℕ → Answering) (stretch : ℕ → Stretch) (step : ℕ → State → State) (old : List (Cidr × State)) (asked : List Question) (result : Result (List (Cidr × State)) E)
    → ((new : List (Cidr × State)) → StepsAt bits step old new → Walks bits zones stretch old new asked asked)
    → IfOk result (λ new. StepsAt bits step old new) → Walked E bits zones stretch old asked asked result
stepped bits zones stretch step old asked (Ok new) walks h = walks new h
stepped bits zones stretch step old asked (Err e) walks h = h

-- ---- a term's record

pub target_used : {E : Type 0} (bits : ℕ) (zones : ℕ → Answering) (address : ℕ → Address) (context : RecordContext) (depth t : ℕ) (spec : List Piece) (purpose : Purpose) (old mid inner : List (Cidr × State)) (asked more : List Question)
    (place : Place) (result : Result (List (Cidr × State)) E) → place ≡ record { name = context.name.now; term = t }
    → StepsAt bits (λ a state. after_lookup context.limits place (entered state)) old mid → Walks bits zones (reached_stretch address context depth t spec) mid inner asked more
    → IfOk result (λ new. StepsWith bits (after_target place purpose) inner old new)
    → Walked E bits zones (target_stretch address context depth t spec purpose) old asked more result
target_used bits zones address context depth t spec purpose old mid inner asked more place (Err e) at_term enters walks uses = uses
target_used bits zones address context depth t spec purpose old mid inner asked more place (Ok new) at_term enters walks uses =
    target_walk bits zones address context depth t spec purpose old mid inner new asked more
    (subst (λ (p : Place). StepsAt bits (λ a state. after_lookup context.limits p (entered state)) old mid) at_term enters) walks
    (subst (λ (p : Place). StepsWith bits (after_target p purpose) inner old new) at_term uses)

-- the record at a term's target, once its lookup is counted
abbrev on_target : (ℕ → Address) → RecordContext → ℕ → ℕ → Counts → List ℕ × Labels → (Counts → Run) → Run
on_target address context depth a counts found go = check context.limits (address a) depth found.0 found.1 counts

abbrev name_part : (ℕ → Address) → RecordContext → ℕ → List Piece → Counts → (List ℕ × Labels → Run) → Run
name_part address context t spec counts = naming_target (site_of context) t spec counts

pub reached_stopped : {E : Type 0} (bits : ℕ) (zones : ℕ → Answering) (address : ℕ → Address) (context : RecordContext) (depth t : ℕ) (spec : List Piece) (outcome : Outcome) (old : List (Cidr × State)) (asked : List Question) (result : Result (List (Cidr × State)) E)
    → SomeLive bits old → ((a : ℕ) → Settles (zones a) (name_part address context t spec) asked asked (Err (Ended outcome)))
    → IfOk result (λ new. StepsAt bits (λ a. after_failure outcome) old new)
    → Walked E bits zones (reached_stretch address context depth t spec) old asked asked result
reached_stopped bits zones address context depth t spec outcome old asked result live settles fails =
    stepped bits zones (reached_stretch address context depth t spec) (λ a. after_failure outcome) old asked result
    (λ new steps. walks_stopped bits zones (name_part address context t spec) outcome (on_target address context depth) old new asked asked (λ a. (settles a).0) (λ a. (settles a).1) live steps)
    fails

pub reached_entered : {E : Type 0} (bits : ℕ) (zones : ℕ → Answering) (address : ℕ → Address) (context : RecordContext) (depth t : ℕ) (spec : List Piece) (text domain : List ℕ) (name : Labels) (old : List (Cidr × State)) (asked more : List Question) (result : Result (List (Cidr × State)) E)
    → SomeLive bits old → ((a : ℕ) → Settles {A = List ℕ × Labels} (zones a) (name_part address context t spec) asked asked (Ok (text, name))) → domain ≡ text
    → Walked E bits zones (λ a counts go. check context.limits (address a) depth domain name counts) old asked more result
    → Walked E bits zones (reached_stretch address context depth t spec) old asked more result
reached_entered bits zones address context depth t spec text domain name old asked more (Err e) live settles same walks = walks
reached_entered bits zones address context depth t spec text domain name old asked more (Ok new) live settles same walks =
    walks_passed bits zones (name_part address context t spec) (text, name) (on_target address context depth) old new asked asked more (λ a. (settles a).0) (λ a. (settles a).1) live
    (subst (λ (d : List ℕ). Walks bits zones (λ a counts go. check context.limits (address a) depth d name counts) old new asked more) same walks)

-- ---- one term

pub row_walked : {E : Type 0} (bits : ℕ) (zones : ℕ → Answering) (address : ℕ → Address) (context : RecordContext) (depth t : ℕ) (term : Term) (row : List Term) (old : List (Cidr × State)) (asked : List Question) (result : Result (List (Cidr × State)) E)
    → row ≡ term ∷ []
    → IfOk result (λ new. (depth t : ℕ) (asked : List Question) → Walks bits zones (terms_stretch address context depth t row) old new asked asked)
    → Walked E bits zones (term_stretch address context depth t term) old asked asked result
row_walked bits zones address context depth t term row old asked (Err e) one h = h
row_walked bits zones address context depth t term row old asked (Ok new) one h =
    subst (λ (terms : List Term). Walks bits zones (terms_stretch address context depth t terms) old new asked asked) one (h depth t asked)

pub include_walked : {E : Type 0} (bits : ℕ) (zones : ℕ → Answering) (address : ℕ → Address) (context : RecordContext) (depth t : ℕ) (term : Term) (verdict : Verdict) (mechanism : Mechanism) (spec : List Piece) (old : List (Cidr × State)) (asked more : List Question) (result : Result (List (Cidr × State)) E)
    → term ≡ Directive verdict mechanism → mechanism ≡ IncludeOf spec
    → Walked E bits zones (target_stretch address context depth t spec (Include verdict)) old asked more result
    → Walked E bits zones (term_stretch address context depth t term) old asked more result
include_walked {E} bits zones address context depth t term verdict mechanism spec old asked more result is of h =
    subst (λ (x : Term). Walked E bits zones (term_stretch address context depth t x) old asked more result) (sym is)
    (subst (λ (m : Mechanism). Walked E bits zones (term_stretch address context depth t (Directive verdict m)) old asked more result) (sym of) h)

pub include_fits : (term : Term) (verdict : Verdict) (mechanism : Mechanism) (spec : List Piece) → term ≡ Directive verdict mechanism → mechanism ≡ IncludeOf spec
    → TermFits term → TargetFits (Some spec)
include_fits term verdict mechanism spec is of fit =
    subst (λ (m : Mechanism). TermFits (Directive verdict m)) of (subst (λ (x : Term). TermFits x) is fit)

pub fit_at : (terms : List Term) (i : ℕ) (term : Term) → i < length terms → TermsFit terms → term ≡ get_or terms i term → TermFits term
fit_at terms i term below fit e = subst (λ (x : Term). TermFits x) (sym e) (there terms i below fit)
  where
    there : (terms : List Term) (i : ℕ) → i < length terms → TermsFit terms → TermFits (get_or terms i term)
    there [] i below fit = absurd (omega (arith, below))
    there (first ∷ terms) zero below fit = fit.0
    there (first ∷ terms) (suc i) below fit = there terms i (omega (arith, below)) fit.1

-- ---- a record

pub redirect_walked : {E : Type 0} (bits : ℕ) (zones : ℕ → Answering) (address : ℕ → Address) (context : RecordContext) (depth t : ℕ) (spec : List Piece) (terms : List Term) (old : List (Cidr × State)) (asked more : List Question) (result : Result (List (Cidr × State)) E)
    → Some (t, spec) ≡ redirect_from 1 terms → Walked E bits zones (target_stretch address context depth t spec Redirect) old asked more result
    → Walked E bits zones (default_stretch address context depth (redirect_from 1 terms)) old asked more result
redirect_walked {E} bits zones address context depth t spec terms old asked more result e h =
    subst (λ (r : Option (ℕ × List Piece)). Walked E bits zones (default_stretch address context depth r) old asked more result) e h

pub neutral_walked : {E : Type 0} (bits : ℕ) (zones : ℕ → Answering) (address : ℕ → Address) (context : RecordContext) (depth : ℕ) (terms : List Term) (old : List (Cidr × State)) (asked : List Question) (result : Result (List (Cidr × State)) E)
    → None ≡ redirect_from 1 terms → IfOk result (λ new. StepsAt bits (λ a. after_match Neutral true) old new)
    → Walked E bits zones (default_stretch address context depth (redirect_from 1 terms)) old asked asked result
neutral_walked {E} bits zones address context depth terms old asked result e h =
    subst (λ (r : Option (ℕ × List Piece)). Walked E bits zones (default_stretch address context depth r) old asked asked result) e
    (stepped bits zones (default_stretch address context depth None) (λ a. after_match Neutral true) old asked result
    (λ new steps. walks_by_steps bits zones (default_stretch address context depth None) (λ a. after_match Neutral true) old new asked
    (λ a s. match_moves (zones a) asked Neutral true s) steps) h)

pub too_deep : {E : Type 0} (bits : ℕ) (zones : ℕ → Answering) (address : ℕ → Address) (context : RecordContext) (depth : ℕ) (place : Place) (old : List (Cidr × State)) (asked : List Question) (result : Result (List (Cidr × State)) E)
    → depth ≡ 0 → place ≡ record { name = context.name.now; term = 0 } → IfOk result (λ new. StepsAt bits (λ a. after_failure (Perm cause.Lookups place)) old new)
    → Walked E bits zones (record_stretch address context depth) old asked asked result
too_deep {E} bits zones address context depth place old asked result none at_term h =
    subst (λ (d : ℕ). Walked E bits zones (record_stretch address context d) old asked asked result) (sym none)
    (stepped bits zones (record_stretch address context 0) (λ a. after_failure (Perm cause.Lookups (record { name = context.name.now; term = 0 }))) old asked result
    (λ new steps. walks_by_steps bits zones (record_stretch address context 0) (λ a. after_failure (Perm cause.Lookups (record { name = context.name.now; term = 0 }))) old new asked
    (λ a s. failure_moves (zones a) asked (Perm cause.Lookups (record { name = context.name.now; term = 0 })) s tt) steps)
    (subst (λ (p : Place). IfOk result (λ new. StepsAt bits (λ a. after_failure (Perm cause.Lookups p)) old new)) at_term h))

-- what a record comes to once it is found
abbrev on_record : (ℕ → Address) → RecordContext → ℕ → ℕ → Counts → List Term → (Counts → Run) → Run
on_record address context depth a counts terms go = evaluated (site_of context) (address a) (check context.limits (address a) depth) terms counts

abbrev find_part : RecordContext → Counts → (List Term → Run) → Run
find_part context counts = with_record context.name.now counts

below_depth : (depth : ℕ) → (depth ≡ 0 → ⊥) → suc (depth - 1) ≡ depth
below_depth zero h = absurd (h refl)
below_depth (suc depth) h = omega arith

-- a check is of the address's family
of_family : (bits : ℕ) (zones : ℕ → Answering) (address : ℕ → Address) (context : RecordContext) (depth : ℕ) (old new : List (Cidr × State)) (asked more : List Question)
    → ((a : ℕ) → family_of (address a) ≡ context.family) → Walks bits zones (after_part (find_part context) (on_record address context depth)) old new asked more
    → Walks bits zones (record_stretch address context (suc depth)) old new asked more
of_family bits zones address context depth old new asked more same =
    walks_alike bits zones (record_stretch address context (suc depth)) (after_part (find_part context) (on_record address context depth)) old new asked more
    (λ a c go. ap (λ (family : Family). with_record context.name.now c
    (λ terms. evaluated (record (site_of context) { family = family }) (address a) (check context.limits (address a) depth) terms c)) (same a))

pub record_stopped : {E : Type 0} (bits : ℕ) (zones : ℕ → Answering) (address : ℕ → Address) (context : RecordContext) (depth : ℕ) (outcome : Outcome) (old : List (Cidr × State)) (asked more : List Question) (result : Result (List (Cidr × State)) E)
    → ((a : ℕ) → family_of (address a) ≡ context.family) → (depth ≡ 0 → ⊥) → SomeLive bits old → ((a : ℕ) → Settles (zones a) (find_part context) asked more (Err (Ended outcome)))
    → IfOk result (λ new. StepsAt bits (λ a. after_failure outcome) old new)
    → Walked E bits zones (record_stretch address context depth) old asked more result
record_stopped bits zones address context depth outcome old asked more (Err e) family deep live settles h = h
record_stopped bits zones address context depth outcome old asked more (Ok new) family deep live settles h =
    subst (λ (d : ℕ). Walks bits zones (record_stretch address context d) old new asked more) (below_depth depth deep)
    (of_family bits zones address context (depth - 1) old new asked more family
    (walks_stopped bits zones (find_part context) outcome (on_record address context (depth - 1)) old new asked more (λ a. (settles a).0) (λ a. (settles a).1) live h))

pub record_walked : {E : Type 0} (bits : ℕ) (zones : ℕ → Answering) (address : ℕ → Address) (context : RecordContext) (depth : ℕ) (terms first next : List Term) (old mid : List (Cidr × State)) (asked found between more : List Question) (result : Result (List (Cidr × State)) E)
    → ((a : ℕ) → family_of (address a) ≡ context.family) → (depth ≡ 0 → ⊥) → SomeLive bits old → ((a : ℕ) → Settles (zones a) (find_part context) asked found (Ok terms)) → first ≡ terms → next ≡ terms
    → Walks bits zones (terms_stretch address context (depth - 1) 1 first) old mid found between
    → Walked E bits zones (default_stretch address context (depth - 1) (redirect_from 1 next)) mid between more result
    → Walked E bits zones (record_stretch address context depth) old asked more result
record_walked bits zones address context depth terms first next old mid asked found between more (Err e) family deep live settles same alike tried default = default
record_walked bits zones address context depth terms first next old mid asked found between more (Ok new) family deep live settles same alike tried default =
    subst (λ (d : ℕ). Walks bits zones (record_stretch address context d) old new asked more) (below_depth depth deep)
    (of_family bits zones address context (depth - 1) old new asked more family
    (walks_passed bits zones (find_part context) terms (on_record address context (depth - 1)) old new asked found more (λ a. (settles a).0) (λ a. (settles a).1) live
    (walks_twice bits zones (terms_stretch address context (depth - 1) 1 terms) (default_stretch address context (depth - 1) (redirect_from 1 terms)) old mid new found between more
    (subst (λ (xs : List Term). Walks bits zones (terms_stretch address context (depth - 1) 1 xs) old mid found between) same tried)
    (subst (λ (xs : List Term). Walks bits zones (default_stretch address context (depth - 1) (redirect_from 1 xs)) mid new between more) alike default))))
