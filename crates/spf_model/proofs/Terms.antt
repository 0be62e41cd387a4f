-- Trying the terms of a record, one after the other, and what a term's record makes of it.
use Rattle.std.proofs.Common.{◌≡◌, ℕ, zero, suc, ◌+◌, ◌<◌, ◌≤◌, Bool, true, false, List, [], ◌∷◌, length, get_or, drop, refl, sym, subst, ap, arith, Option, Some, None, Result, Ok, Err, add-one}
use Rattle.std.proofs.Math.Seq.{drop-cons}
use Rattle.std.proofs.lemmas.Option.{none-some}
use Rattle.addr_bits.specs.Address.{family_of}
use Rattle.addr_bits.specs.declared.address.Address.{Address}
use Rattle.addr_bits.specs.declared.address.Family.{Family}
use Rattle.spf_macros.specs.declared.piece.Piece.{Piece}
use Rattle.spf_grammar.specs.declared.verdict.Verdict.{Verdict}
use Rattle.spf_grammar.specs.declared.verdict.Verdict.TheVariants.{Neutral}
use Rattle.spf_grammar.specs.declared.policy.Mechanism.{Mechanism}
use Rattle.spf_grammar.specs.declared.policy.Mechanism.TheVariants.{Include}
use Rattle.spf_grammar.specs.declared.policy.Term.{Term}
use Rattle.spf_grammar.specs.declared.policy.Term.TheVariants.{Directive, Redirect, Exp, Unknown}
use Rattle.zone_answers.specs.declared.answer.Answer.{Answer}
use Rattle.spf_model.specs.declared.gathered.Gathered.{Gathered}
use Rattle.spf_model.specs.declared.gathered.Hosts.{Hosts}
use Rattle.spf_model.specs.declared.gathered.Hosts.TheVariants.{Common, Reversed}
use Rattle.spf_model.specs.declared.outcome.Counts.{Counts}
use Rattle.spf_model.specs.declared.outcome.Halt.{Halt}
use Rattle.spf_model.specs.declared.outcome.Halt.TheVariants.{Ended, Memory}
use Rattle.spf_model.specs.declared.outcome.Outcome.{Outcome}
use Rattle.spf_model.specs.declared.outcome.Outcome.TheVariants.{Nothing, Is, Perm, Temp, Unsettled}
use Rattle.spf_model.specs.Run.{Run, Ends, Answering, EndsWith, then_do}
use Rattle.spf_model.specs.Judging.{Site, Sub, Labels, Judge, at, counted, void_counted, answered, gather, gather_common, gather_own, reversed_question, some_void, is_met, judge_gathered, judge_hosts, judge, judged_by, is_pass, naming_target, with_verdict, with_domain}
use Rattle.spf_model.specs.Check.{term_after, unless_matched, trying, tried, redirect_from, default, evaluated, with_record, check}
use Rattle.spf_model.specs.Leads.{HostsFit, IsShort, LeadsTo, HandsOn, NoVerdict, Halts, IsJudged, IsVerdictOf, TargetFits, TermsFit, required, required_of}
use Rattle.spf_model.proofs.Parts.{halts_through}
use Rattle.spf_model.proofs.RunLaws.{ends_after}

-- where the record's terms are tried as far as these
abbrev pub TriedSoFar : Answering → Site → Address → List Term → Counts → ℕ → List Term → Counts → Type 0
TriedSoFar zones site a terms first number rest counts = (depth : ℕ) → site.limits.lookups ≤ depth + first.lookups → (last : Counts → Run)
    → LeadsTo zones (tried (judge site a (check site.limits a depth)) 1 terms first last)
    (tried (judge site a (check site.limits a depth)) number rest counts last)

-- ---- the record that a term asks for

-- an outcome of its record that is no verdict ends the term
term_ended : (zones : Answering) (site : Site) (t : ℕ) (go : Verdict → Counts → Run) (outcome : Outcome) (c : Counts) → NoVerdict outcome
    → NoVerdict (required (at site t) outcome) × EndsWith zones (judged_by site t go outcome c) (required (at site t) outcome) c
term_ended zones site t go (Is verdict) c none = absurd none
term_ended zones site t go (Nothing place) c none = (tt, (refl, refl))
term_ended zones site t go (Perm cause place) c none = (tt, (refl, refl))
term_ended zones site t go (Temp cause place) c none = (tt, (refl, refl))
term_ended zones site t go (Unsettled cause place) c none = (tt, (refl, refl))

-- a verdict of its record goes on, and everything else ends the term
pub target_judged : (zones : Answering) (site : Site) (sub : Sub) (t : ℕ) (spec : List Piece) (c : Counts) (text : List ℕ) (name : Labels) (d e : Counts) (r : Result Verdict Halt)
    → ((go : List ℕ → Labels → Counts → Run) → LeadsTo zones (with_domain site t spec c go) (go text name d)) → IsVerdictOf zones (sub text name d) e r
    → IsJudged zones (with_verdict site sub t spec c) e (required_of site t r)
target_judged zones site sub t spec c text name d e (Ok v) found ends = λ go o a h.
    found (λ text name counts. then_do (sub text name counts) (judged_by site t go)) o a (ends_after zones (sub text name d) (judged_by site t go) (Is v) e o a ends h)
target_judged zones site sub t spec c text name d e (Err Memory) found ends = tt
target_judged zones site sub t spec c text name d e (Err (Ended o)) found ends = (
  (term_ended zones site t (λ verdict counts. Ends (Is verdict) counts) o d ends.0).0,
  λ go. let end = ends.1 tt in (
    end.0,
    found (λ text name counts. then_do (sub text name counts) (judged_by site t go)) (required (at site t) o) end.0
        (ends_after zones (sub text name d) (judged_by site t go) o end.0 (required (at site t) o) end.0 end.1 (term_ended zones site t go o end.0 ends.0).1),
  ),
)

-- the domain of a term's record, once its lookup is counted
pub domain_found : (zones : Answering) (site : Site) (t : ℕ) (spec : List Piece) (c d : Counts) (text : List ℕ) (name : Labels) → HandsOn zones (counted site t c) d
    → HandsOn zones (naming_target site t spec d) (text, name)
    → (go : List ℕ → Labels → Counts → Run) → LeadsTo zones (with_domain site t spec c go) (go text name d)
domain_found zones site t spec c d text name count named go = λ outcome after h.
    count (λ counts. naming_target site t spec counts (λ found. go found.0 found.1 counts)) outcome after (named (λ found. go found.0 found.1 d) outcome after h)

-- what a term makes of its domain's record
abbrev on_domain : Site → Sub → ℕ → (Verdict → Counts → Run) → Counts → List ℕ × Labels → Run
on_domain site sub t go counts found = then_do (sub found.0 found.1 counts) (judged_by site t go)

pub target_uncounted : (zones : Answering) (site : Site) (sub : Sub) (t : ℕ) (spec : List Piece) (c : Counts) (halt : Halt)
    → Halts zones (counted site t c) halt → Halts zones (with_verdict site sub t spec c) halt
target_uncounted zones site sub t spec c halt halts =
    halts_through zones (with_verdict site sub t spec c) (counted site t c) (λ go counts. naming_target site t spec counts (on_domain site sub t go counts)) halt
    (λ go outcome after h. h) halts

pub target_unnamed : (zones : Answering) (site : Site) (sub : Sub) (t : ℕ) (spec : List Piece) (c d : Counts) (halt : Halt) → HandsOn zones (counted site t c) d
    → Halts zones (naming_target site t spec d) halt → Halts zones (with_verdict site sub t spec c) halt
target_unnamed zones site sub t spec c d halt count halts =
    halts_through zones (with_verdict site sub t spec c) (naming_target site t spec d) (λ go. on_domain site sub t go d) halt
    (λ go. count (λ counts. naming_target site t spec counts (on_domain site sub t go counts))) halts

-- ---- what is gathered for an address

pub uncommon : (zones : Answering) (site : Site) (t : ℕ) (m : Mechanism) (d : Counts) (halt : Halt) → Halts zones (gather_common site t m d) halt → Halts zones (gather site t m d) halt
uncommon zones site t m d halt halts =
    halts_through zones (gather site t m d) (gather_common site t m d) (λ go hosts. gather_own site t hosts d go) halt (λ go outcome after h. h) halts

pub owns_none : (zones : Answering) (site : Site) (t : ℕ) (m : Mechanism) (d : Counts) (hosts : Hosts) (halt : Halt) → HandsOn zones (gather_common site t m d) hosts
    → Halts zones (gather_own site t hosts d) halt → Halts zones (gather site t m d) halt
owns_none zones site t m d hosts halt common halts =
    halts_through zones (gather site t m d) (gather_own site t hosts d) (λ go. go) halt (λ go outcome after h. common (λ others. gather_own site t others d go) outcome after h) halts

pub owns : (zones : Answering) (site : Site) (t : ℕ) (m : Mechanism) (d : Counts) (hosts : Hosts) (gathered : Gathered) → HandsOn zones (gather_common site t m d) hosts
    → HandsOn zones (gather_own site t hosts d) gathered → HandsOn zones (gather site t m d) gathered
owns zones site t m d hosts gathered common own = λ go outcome after h. common (λ others. gather_own site t others d go) outcome after (own go outcome after h)

-- an `exists` asks below a name that is short enough
pub fit_short : (m : Mechanism) (hosts : Hosts) → HostsFit m hosts → IsShort hosts
fit_short m (Common gathered) fit = tt
fit_short m (Reversed name) fit = fit.2

-- the answer at the reversed name
pub own_answer : (zones : Answering) (site : Site) (t : ℕ) (name : Labels) (c : Counts) (found : Answer) → zones (reversed_question site.family name) ≡ found
    → ((go : Answer → Run) → answered site t c go found ≡ go found) → HandsOn zones (gather_own site t (Reversed name) c) (record { void = false; answers = found ∷ [] })
own_answer zones site t name c found e goes = λ go outcome after h.
    let next : Answer → Run = λ x. go (record { void = false; answers = x ∷ [] }) in
    subst (λ (x : Answer). EndsWith zones (answered site t c next x) outcome after) (sym e)
    (subst (λ (run : Run). EndsWith zones run outcome after) (sym (goes next)) h)

pub own_end : (zones : Answering) (site : Site) (t : ℕ) (name : Labels) (c : Counts) (found : Answer) (o : Outcome) (halt : Halt) → zones (reversed_question site.family name) ≡ found
    → NoVerdict o → ((go : Answer → Run) → answered site t c go found ≡ Ends o c) → halt ≡ Ended o → Halts zones (gather_own site t (Reversed name) c) halt
own_end zones site t name c found o halt e none ends is =
    subst (λ (h : Halt). Halts zones (gather_own site t (Reversed name) c) h) (sym is) (
      none,
      λ go.
          let next : Answer → Run = λ x. go (record { void = false; answers = x ∷ [] }) in (
            c,
            subst (λ (x : Answer). EndsWith zones (answered site t c next x) o c) (sym e)
                (subst (λ (run : Run). EndsWith zones run o c) (sym (ends next)) (refl, refl)),
          ),
    )

-- so it is gathered
pub own_gathered : (zones : Answering) (site : Site) (t : ℕ) (name : Labels) (c : Counts) (found : Answer) (hosts : Hosts) (answers : List Answer) → hosts ≡ Reversed name → answers ≡ found ∷ []
    → zones (reversed_question site.family name) ≡ found → ((go : Answer → Run) → answered site t c go found ≡ go found)
    → HandsOn zones (gather_own site t hosts c) (record { void = false; answers = answers })
own_gathered zones site t name c found hosts answers is are e goes =
    subst (λ (xs : List Answer). HandsOn zones (gather_own site t hosts c) (record { void = false; answers = xs })) (sym are)
    (subst (λ (h : Hosts). HandsOn zones (gather_own site t h c) (record { void = false; answers = found ∷ [] })) (sym is) (own_answer zones site t name c found e goes))

pub own_halts : (zones : Answering) (site : Site) (t : ℕ) (name : Labels) (c : Counts) (found : Answer) (hosts : Hosts) (o : Outcome) (halt : Halt) → hosts ≡ Reversed name
    → zones (reversed_question site.family name) ≡ found → NoVerdict o → ((go : Answer → Run) → answered site t c go found ≡ Ends o c) → halt ≡ Ended o
    → Halts zones (gather_own site t hosts c) halt
own_halts zones site t name c found hosts o halt is e none ends ended =
    subst (λ (h : Hosts). Halts zones (gather_own site t h c) halt) (sym is) (own_end zones site t name c found o halt e none ends ended)

-- ---- a term that asks for hosts

-- what goes on with what was gathered
abbrev on_gathered : Site → Address → ℕ → Mechanism → (Bool → Counts → Run) → Counts → Gathered → Run
on_gathered site a t m go counts gathered = judge_gathered site a t m gathered counts go

pub hosts_uncounted : (zones : Answering) (site : Site) (a : Address) (t : ℕ) (m : Mechanism) (c : Counts) (halt : Halt)
    → Halts zones (counted site t c) halt → Halts zones (judge_hosts site a t m c) halt
hosts_uncounted zones site a t m c halt halts =
    halts_through zones (judge_hosts site a t m c) (counted site t c) (λ go counts. gather site t m counts (on_gathered site a t m go counts)) halt (λ go outcome after h. h) halts

pub hosts_ungathered : (zones : Answering) (site : Site) (a : Address) (t : ℕ) (m : Mechanism) (c d : Counts) (halt : Halt) → HandsOn zones (counted site t c) d
    → Halts zones (gather site t m d) halt → Halts zones (judge_hosts site a t m c) halt
hosts_ungathered zones site a t m c d halt count halts =
    halts_through zones (judge_hosts site a t m c) (gather site t m d) (λ go. on_gathered site a t m go d) halt
    (λ go. count (λ counts. gather site t m counts (on_gathered site a t m go counts))) halts

hosts_gathered : (zones : Answering) (site : Site) (a : Address) (t : ℕ) (m : Mechanism) (c d : Counts) (gathered : Gathered) (void : Bool) → HandsOn zones (counted site t c) d
    → HandsOn zones (gather site t m d) gathered → void ≡ some_void gathered
    → (go : Bool → Counts → Run) → LeadsTo zones (judge_hosts site a t m c go) (void_counted site t void d (go (is_met m a gathered.answers)))
hosts_gathered zones site a t m c d gathered void count gathers is go = λ outcome after h.
    count (λ counts. gather site t m counts (on_gathered site a t m go counts)) outcome after
    (gathers (on_gathered site a t m go d) outcome after
    (subst (λ (b : Bool). EndsWith zones (void_counted site t b d (go (is_met m a gathered.answers))) outcome after) is h))

pub hosts_void : (zones : Answering) (site : Site) (a : Address) (t : ℕ) (m : Mechanism) (c d : Counts) (gathered : Gathered) (void : Bool) (halt : Halt) → HandsOn zones (counted site t c) d
    → HandsOn zones (gather site t m d) gathered → void ≡ some_void gathered → Halts zones (void_counted site t void d) halt → Halts zones (judge_hosts site a t m c) halt
hosts_void zones site a t m c d gathered void halt count gathers is halts =
    halts_through zones (judge_hosts site a t m c) (void_counted site t void d) (λ go. go (is_met m a gathered.answers)) halt
    (hosts_gathered zones site a t m c d gathered void count gathers is) halts

pub hosts_judged : (zones : Answering) (site : Site) (a : Address) (t : ℕ) (m : Mechanism) (c d e : Counts) (gathered : Gathered) (void met : Bool) → HandsOn zones (counted site t c) d
    → HandsOn zones (gather site t m d) gathered → void ≡ some_void gathered → HandsOn zones (void_counted site t void d) e → met ≡ is_met m a gathered.answers
    → (go : Bool → Counts → Run) → LeadsTo zones (judge_hosts site a t m c go) (go met e)
hosts_judged zones site a t m c d e gathered void met count gathers is voids meets go = λ outcome after h.
    hosts_gathered zones site a t m c d gathered void count gathers is go outcome after
    (voids (go (is_met m a gathered.answers)) outcome after (subst (λ (b : Bool). EndsWith zones (go b e) outcome after) meets h))

-- ---- an include

-- an include, by whether its record passes
pub include_halts : (zones : Answering) (site : Site) (a : Address) (sub : Sub) (t : ℕ) (spec : List Piece) (c : Counts) (halt : Halt)
    → Halts zones (with_verdict site sub t spec c) halt → Halts zones (judge site a sub t (Include spec) c) halt
include_halts zones site a sub t spec c halt halts =
    halts_through zones (judge site a sub t (Include spec) c) (with_verdict site sub t spec c) (λ go verdict. go (is_pass verdict)) halt (λ go outcome after h. h) halts

pub includes : (zones : Answering) (site : Site) (a : Address) (sub : Sub) (t : ℕ) (spec : List Piece) (c d : Counts) (v : Verdict) (b : Bool) → b ≡ is_pass v
    → ((go : Verdict → Counts → Run) → LeadsTo zones (with_verdict site sub t spec c go) (go v d))
    → (go : Bool → Counts → Run) → LeadsTo zones (judge site a sub t (Include spec) c go) (go b d)
includes zones site a sub t spec c d v b e judged go = λ outcome after h.
    judged (λ verdict. go (is_pass verdict)) outcome after (subst (λ x. EndsWith zones (go x d) outcome after) e h)

-- ---- one term

pub term_halts : (zones : Answering) (site : Site) (a : Address) (sub : Sub) (t : ℕ) (v : Verdict) (m : Mechanism) (c : Counts) (halt : Halt)
    → Halts zones (judge site a sub t m c) halt → Halts zones (trying (judge site a sub) t (Directive v m) c) halt
term_halts zones site a sub t v m c halt halts =
    halts_through zones (trying (judge site a sub) t (Directive v m) c) (judge site a sub t m c) (λ next. unless_matched v next) halt (λ go outcome after h. h) halts

pub term_matches : (zones : Answering) (site : Site) (a : Address) (sub : Sub) (t : ℕ) (v : Verdict) (m : Mechanism) (c d : Counts) (b : Bool) → b ≡ true
    → ((go : Bool → Counts → Run) → LeadsTo zones (judge site a sub t m c go) (go b d))
    → (next : Counts → Run) → EndsWith zones (trying (judge site a sub) t (Directive v m) c next) (Is v) d
term_matches zones site a sub t v m c d b e judged next =
    judged (unless_matched v next) (Is v) d (subst (λ x. EndsWith zones (unless_matched v next x d) (Is v) d) (sym e) (refl, refl))

pub term_passes : (zones : Answering) (site : Site) (a : Address) (sub : Sub) (t : ℕ) (v : Verdict) (m : Mechanism) (c d : Counts) (b : Bool) → b ≡ false
    → ((go : Bool → Counts → Run) → LeadsTo zones (judge site a sub t m c go) (go b d))
    → HandsOn zones (trying (judge site a sub) t (Directive v m) c) d
term_passes zones site a sub t v m c d b e judged next = λ outcome after h.
    judged (unless_matched v next) outcome after (subst (λ x. EndsWith zones (unless_matched v next x d) outcome after) (sym e) h)

-- ---- one term after another

-- the terms are judged at this depth
abbrev pub judge_at : Site → Address → ℕ → Judge
judge_at site a depth = judge site a (check site.limits a depth)

pub more_halts : (zones : Answering) (site : Site) (a : Address) (terms rest : List Term) (first c : Counts) (number : ℕ) (term : Term) (halt : Halt)
    → TriedSoFar zones site a terms first number (term ∷ rest) c → first.lookups ≤ c.lookups
    → ((depth : ℕ) → site.limits.lookups ≤ depth + c.lookups → Halts zones (trying (judge_at site a depth) number term c) halt)
    → (depth : ℕ) → site.limits.lookups ≤ depth + first.lookups → Halts zones (tried (judge_at site a depth) 1 terms first) halt
more_halts zones site a terms rest first c number term halt so_far grown halts depth within =
    halts_through zones (tried (judge_at site a depth) 1 terms first) (trying (judge_at site a depth) number term c)
    (λ last counts. tried (judge_at site a depth) (term_after number) rest counts last) halt (so_far depth within) (halts depth (omega (arith, within, grown)))

pub more_matches : (zones : Answering) (site : Site) (a : Address) (terms rest : List Term) (first c d : Counts) (number : ℕ) (term : Term) (v : Verdict)
    → TriedSoFar zones site a terms first number (term ∷ rest) c → first.lookups ≤ c.lookups
    → ((depth : ℕ) → site.limits.lookups ≤ depth + c.lookups → (next : Counts → Run) → EndsWith zones (trying (judge_at site a depth) number term c next) (Is v) d)
    → (depth : ℕ) → site.limits.lookups ≤ depth + first.lookups → (last : Counts → Run) → EndsWith zones (tried (judge_at site a depth) 1 terms first last) (Is v) d
more_matches zones site a terms rest first c d number term v so_far grown matched depth within last =
    so_far depth within last (Is v) d (matched depth (omega (arith, within, grown)) (λ counts. tried (judge_at site a depth) (term_after number) rest counts last))

pub more_passes : (zones : Answering) (site : Site) (a : Address) (terms rest : List Term) (first c d : Counts) (number : ℕ) (term : Term)
    → TriedSoFar zones site a terms first number (term ∷ rest) c → first.lookups ≤ c.lookups
    → ((depth : ℕ) → site.limits.lookups ≤ depth + c.lookups → HandsOn zones (trying (judge_at site a depth) number term c) d)
    → TriedSoFar zones site a terms first (term_after number) rest d
more_passes zones site a terms rest first c d number term so_far grown passed depth within last = λ outcome after h.
    so_far depth within last outcome after
    (passed depth (omega (arith, within, grown)) (λ counts. tried (judge_at site a depth) (term_after number) rest counts last) outcome after h)

-- the next term, and those behind it
pub next_term : (terms : List Term) (i : ℕ) (term : Term) → i < length terms → term ≡ get_or terms i term → drop i terms ≡ term ∷ drop (i + 1) terms
next_term terms i term within e = rw (add-one, drop-cons terms i term within, ← e) refl

-- ---- a record

abbrev pub check_at : Site → Address → ℕ → Counts → Run
check_at site a depth counts = check site.limits a depth site.domain site.name counts

-- a check is of the address's family
pub of_family : (zones : Answering) (site : Site) (a : Address) (depth : ℕ) (c : Counts) → site.family ≡ family_of a
    → LeadsTo zones (check_at site a (suc depth) c) (with_record site.name c (λ terms. evaluated site a (check site.limits a depth) terms c))
of_family zones site a depth c same = λ outcome after h.
    subst (λ (family : Family). EndsWith zones (with_record site.name c (λ terms. evaluated (record site { family = family }) a (check site.limits a depth) terms c)) outcome after) same h

pub record_halts : (zones : Answering) (site : Site) (a : Address) (c : Counts) (halt : Halt) → site.family ≡ family_of a → c.lookups ≤ site.limits.lookups → ((counts : Counts) → Halts zones (with_record site.name counts) halt)
    → (depth : ℕ) → site.limits.lookups < depth + c.lookups → Halts zones (λ (u : Unit {0}). check_at site a depth c) halt
record_halts zones site a c halt same fits halts zero deep = absurd (omega (arith, fits, deep))
record_halts zones site a c halt same fits halts (suc depth) deep =
    halts_through zones (λ (u : Unit {0}). check_at site a (suc depth) c) (with_record site.name c) (λ u terms. evaluated site a (check site.limits a depth) terms c) halt
    (λ u. of_family zones site a depth c same) (halts c)

pub terms_halt : (zones : Answering) (site : Site) (a : Address) (c : Counts) (terms : List Term) (halt : Halt) → site.family ≡ family_of a → c.lookups ≤ site.limits.lookups
    → ((counts : Counts) → HandsOn zones (with_record site.name counts) terms)
    → ((depth : ℕ) → site.limits.lookups ≤ depth + c.lookups → Halts zones (tried (judge_at site a depth) 1 terms c) halt)
    → (depth : ℕ) → site.limits.lookups < depth + c.lookups → Halts zones (λ (u : Unit {0}). check_at site a depth c) halt
terms_halt zones site a c terms halt same fits found halts zero deep = absurd (omega (arith, fits, deep))
terms_halt zones site a c terms halt same fits found halts (suc depth) deep =
    halts_through zones (λ (u : Unit {0}). check_at site a (suc depth) c) (tried (judge_at site a depth) 1 terms c)
    (λ u counts. default site (check site.limits a depth) counts (redirect_from 1 terms)) halt
    (λ u outcome after h. of_family zones site a depth c same outcome after (found c (λ terms. evaluated site a (check site.limits a depth) terms c) outcome after h))
    (halts depth (omega (arith, deep)))

pub terms_match : (zones : Answering) (site : Site) (a : Address) (c d : Counts) (terms : List Term) (v : Verdict) → site.family ≡ family_of a → c.lookups ≤ site.limits.lookups
    → ((counts : Counts) → HandsOn zones (with_record site.name counts) terms)
    → ((depth : ℕ) → site.limits.lookups ≤ depth + c.lookups → (last : Counts → Run) → EndsWith zones (tried (judge_at site a depth) 1 terms c last) (Is v) d)
    → (depth : ℕ) → site.limits.lookups < depth + c.lookups → EndsWith zones (check_at site a depth c) (Is v) d
terms_match zones site a c d terms v same fits found matched zero deep = absurd (omega (arith, fits, deep))
terms_match zones site a c d terms v same fits found matched (suc depth) deep =
    of_family zones site a depth c same (Is v) d
    (found c (λ terms. evaluated site a (check site.limits a depth) terms c) (Is v) d
    (matched depth (omega (arith, deep)) (λ counts. default site (check site.limits a depth) counts (redirect_from 1 terms))))

-- where no directive matches
abbrev pub PassedBy : Answering → Site → Address → Counts → Counts → List Term → Type 0
PassedBy zones site a c d terms = (depth : ℕ) → site.limits.lookups ≤ depth + c.lookups → HandsOn zones (tried (judge_at site a depth) 1 terms c) d

-- the default decides
by_default : (zones : Answering) (site : Site) (a : Address) (c d : Counts) (terms : List Term) (redirect : Option (ℕ × List Piece)) → site.family ≡ family_of a → redirect ≡ redirect_from 1 terms
    → ((counts : Counts) → HandsOn zones (with_record site.name counts) terms) → PassedBy zones site a c d terms
    → (depth : ℕ) → site.limits.lookups < suc depth + c.lookups
    → LeadsTo zones (check_at site a (suc depth) c) (default site (check site.limits a depth) d redirect)
by_default zones site a c d terms redirect same e found passed depth deep = λ outcome after h.
    of_family zones site a depth c same outcome after (found c (λ terms. evaluated site a (check site.limits a depth) terms c) outcome after
    (passed depth (omega (arith, deep)) (λ counts. default site (check site.limits a depth) counts (redirect_from 1 terms)) outcome after
    (subst (λ r. EndsWith zones (default site (check site.limits a depth) d r) outcome after) e h)))

pub redirects : (zones : Answering) (site : Site) (a : Address) (c d f : Counts) (terms : List Term) (t : ℕ) (spec : List Piece) (result : Result Verdict Halt) → site.family ≡ family_of a → c.lookups ≤ site.limits.lookups
    → ((counts : Counts) → HandsOn zones (with_record site.name counts) terms) → PassedBy zones site a c d terms → c.lookups ≤ d.lookups
    → Some (t, spec) ≡ redirect_from 1 terms
    → ((depth : ℕ) → site.limits.lookups ≤ depth + d.lookups → IsJudged zones (with_verdict site (check site.limits a depth) t spec d) f result)
    → (depth : ℕ) → site.limits.lookups < depth + c.lookups → IsVerdictOf zones (check_at site a depth c) f result
redirects zones site a c d f terms t spec result same fits found passed grown e judged zero deep = absurd (omega (arith, fits, deep))
redirects zones site a c d f terms t spec (Ok v) same fits found passed grown e judged (suc depth) deep =
    by_default zones site a c d terms (Some (t, spec)) same e found passed depth deep (Is v) f
    (judged depth (omega (arith, deep, grown)) (λ verdict counts. Ends (Is verdict) counts) (Is v) f (refl, refl))
redirects zones site a c d f terms t spec (Err halt) same fits found passed grown e judged (suc depth) deep =
    halts_through zones (λ (u : Unit {0}). check_at site a (suc depth) c) (with_verdict site (check site.limits a depth) t spec d) (λ u verdict counts. Ends (Is verdict) counts) halt
    (λ u. by_default zones site a c d terms (Some (t, spec)) same e found passed depth deep) (judged depth (omega (arith, deep, grown)))

pub neutral : (zones : Answering) (site : Site) (a : Address) (c d : Counts) (terms : List Term) → site.family ≡ family_of a → c.lookups ≤ site.limits.lookups
    → ((counts : Counts) → HandsOn zones (with_record site.name counts) terms) → PassedBy zones site a c d terms → None ≡ redirect_from 1 terms
    → (depth : ℕ) → site.limits.lookups < depth + c.lookups → EndsWith zones (check_at site a depth c) (Is Neutral) d
neutral zones site a c d terms same fits found passed e zero deep = absurd (omega (arith, fits, deep))
neutral zones site a c d terms same fits found passed e (suc depth) deep = by_default zones site a c d terms None same e found passed depth deep (Is Neutral) d (refl, refl)

abbrev spec_of : Option (ℕ × List Piece) → List Piece
spec_of None = []
spec_of (Some redirect) = redirect.1

-- the target of a redirect can be expanded
pub redirect_fits : (number : ℕ) (terms : List Term) (t : ℕ) (spec : List Piece) → TermsFit terms → Some (t, spec) ≡ redirect_from number terms → TargetFits (Some spec)
redirect_fits number [] t spec fit e = absurd (none-some (t, spec) (sym e))
redirect_fits number (Redirect s ∷ terms) t spec fit e = subst (λ (x : List Piece). TargetFits (Some x)) (sym (ap spec_of e)) fit.0
redirect_fits number (Directive v m ∷ terms) t spec fit e = redirect_fits (term_after number) terms t spec fit.1 e
redirect_fits number (Exp s ∷ terms) t spec fit e = redirect_fits (term_after number) terms t spec fit.1 e
redirect_fits number (Unknown n s ∷ terms) t spec fit e = redirect_fits (term_after number) terms t spec fit.1 e
