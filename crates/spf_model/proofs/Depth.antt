-- More depth than there are lookups left changes nothing, and the count of lookups never falls.
use Rattle.std.proofs.Common.{◌≡◌, ℕ, zero, suc, ◌+◌, ◌<◌, ◌≤◌, ◌↔◌, Bool, true, false, List, [], ◌∷◌, map, refl, sym, subst, arith, Option, Some, None}
use Rattle.std.proofs.lemmas.Bool.{leb-true}
use Rattle.std.specs.Prelude.{nat_le, filter_map, length}
use Rattle.addr_bits.specs.declared.address.Address.{Address}
use Rattle.addr_bits.specs.Address.{family_of}
use Rattle.zone_answers.specs.Answers.{kind_in}
use Rattle.zone_answers.specs.declared.answer.QKind.{QKind}
use Rattle.zone_answers.specs.declared.answer.QKind.TheVariants as kind
use Rattle.zone_answers.specs.declared.ask_kind.AskKind.TheVariants as ask_kind
use Rattle.zone_answers.specs.declared.answer.Question.{Question}
use Rattle.zone_answers.specs.declared.answer.Answer.{Answer}
use Rattle.zone_answers.specs.declared.answer.Answer.TheVariants as answer
use Rattle.spf_macros.specs.declared.piece.Piece.{Piece}
use Rattle.spf_macros.specs.declared.expansion.Expanded.{Expanded}
use Rattle.spf_macros.specs.declared.expansion.Expanded.TheVariants.{Out, Needs}
use Rattle.spf_macros.specs.Expansion.{target}
use Rattle.spf_grammar.specs.Flat.{covers}
use Rattle.spf_grammar.specs.declared.flat.Net.TheVariants as net
use Rattle.spf_grammar.specs.declared.verdict.Verdict.{Verdict}
use Rattle.spf_grammar.specs.declared.verdict.Verdict.TheVariants.{Neutral}
use Rattle.spf_grammar.specs.declared.policy.Mechanism.{Mechanism}
use Rattle.spf_grammar.specs.declared.policy.Mechanism.TheVariants.{All, Include, A, Mx, Ptr, Ip4, Ip6, Exists}
use Rattle.spf_grammar.specs.declared.policy.Term.{Term}
use Rattle.spf_grammar.specs.declared.policy.Term.TheVariants.{Directive, Redirect, Exp, Unknown}
use Rattle.spf_grammar.specs.declared.policy.Policy.{Policy}
use Rattle.spf_model.specs.declared.outcome.Cause.TheVariants as cause
use Rattle.spf_macros.specs.Reversed.{reverse_suffix}
use Rattle.spf_model.specs.declared.gathered.Gathered.{Gathered}
use Rattle.spf_model.specs.declared.gathered.Hosts.{Hosts}
use Rattle.spf_model.specs.declared.gathered.Hosts.TheVariants.{Common, Reversed}
use Rattle.spf_model.specs.declared.outcome.Counts.{Counts}
use Rattle.spf_model.specs.declared.outcome.Limits.{Limits}
use Rattle.spf_model.specs.declared.outcome.Outcome.{Outcome}
use Rattle.spf_model.specs.declared.outcome.Outcome.TheVariants.{Nothing, Is, Perm, Temp, Unsettled}
use Rattle.spf_model.specs.Run.{Run, Ends, Asks, Reads, Answering, EndsWith, then_do}
use Rattle.spf_model.specs.Judging.{Site, Sub, Labels, at, name_of, go_if, counted, void_counted, with_text, with_target, with_name, naming, with_verdict, answered, ask, ask_all, is_void, answer_bodies, is_pass, question_of, exchange_of, gather_hosts, gather_target, gather_mx, gather_exists, gather_own, gather, reversed_question, some_void, is_met, judge_hosts, judged_by, judge}
use Rattle.spf_model.specs.Check.{unless_matched, term_after, trying, tried, redirect_from, default, spf_text_of, with_policy, with_texts, with_answer, with_record, check}
use Rattle.spf_model.specs.Laws.{DepthSuffices}
use Rattle.spf_model.proofs.RunLaws.{ends_split, ends_after}

-- the outcome is a verdict, so a run that includes this one may go on
abbrev pub IsVerdict : Outcome → Type 0
IsVerdict (Is verdict) = Unit {0}
IsVerdict (Nothing place) = ⊥
IsVerdict (Perm cause place) = ⊥
IsVerdict (Temp cause place) = ⊥
IsVerdict (Unsettled cause place) = ⊥

-- two runs end alike, with no fewer lookups than n, and where they go on with no more than the limit
pub record Alike (zones : Answering) (most n : ℕ) (run other : Run) : Type 0 where
  pub same : (outcome : Outcome) (counts : Counts) → EndsWith zones run outcome counts ↔ EndsWith zones other outcome counts
  pub least : (outcome : Outcome) (counts : Counts) → EndsWith zones run outcome counts → n ≤ counts.lookups
  pub within : (outcome : Outcome) (counts : Counts) → EndsWith zones run outcome counts → IsVerdict outcome → counts.lookups ≤ most

-- an end that is no verdict
ends_alike : (zones : Answering) (most n : ℕ) (o : Outcome) (c : Counts) → n ≤ c.lookups → (IsVerdict o → c.lookups ≤ most) → Alike zones most n (Ends o c) (Ends o c)
ends_alike zones most n o c least within = record {
  same = λ o' c'. (λ h. h, λ h. h);
  least = λ o' c' h. subst (λ x. n ≤ x.lookups) (sym h.1) least;
  within = λ o' c' h v. subst (λ x. x.lookups ≤ most) (sym h.1) (within (subst IsVerdict h.0 v));
}

-- a smaller bound
fewer : (zones : Answering) (most n m : ℕ) (run other : Run) → n ≤ m → Alike zones most m run other → Alike zones most n run other
fewer zones most n m run other h a = record { same = a.same; least = λ o c e. omega (arith, h, a.least o c e); within = a.within }

abbrev pub GoesAlike : Answering → ℕ → ℕ → (Counts → Run) → (Counts → Run) → Type 0
GoesAlike zones most n go go' = (c : Counts) → n ≤ c.lookups → c.lookups ≤ most → Alike zones most n (go c) (go' c)

go_if_alike : (zones : Answering) (most n : ℕ) (test : Bool) (o : Outcome) (c : Counts) (go go' : Counts → Run) → n ≤ c.lookups → (IsVerdict o → ⊥)
    → (test ≡ true → Alike zones most n (go c) (go' c)) → Alike zones most n (go_if test o c go) (go_if test o c go')
go_if_alike zones most n true o c go go' least none goes = goes refl
go_if_alike zones most n false o c go go' least none goes = ends_alike zones most n o c least (λ v. absurd (none v))

counted_alike : (zones : Answering) (n : ℕ) (site : Site) (t : ℕ) (c : Counts) (go go' : Counts → Run) → n ≤ c.lookups
    → ((c' : Counts) → suc n ≤ c'.lookups → c'.lookups ≤ site.limits.lookups → Alike zones site.limits.lookups n (go c') (go' c'))
    → Alike zones site.limits.lookups n (counted site t c go) (counted site t c go')
counted_alike zones n site t c go go' least goes =
    let more : Counts = record c { lookups = c.lookups + 1 } in
    go_if_alike zones site.limits.lookups n (nat_le (c.lookups + 1) site.limits.lookups) (Perm cause.Lookups (at site t)) more go go'
    (omega (arith, least)) (λ v. v)
    (λ fits. goes more (omega (arith, least)) (leb-true (c.lookups + 1) site.limits.lookups fits))

void_counted_alike : (zones : Answering) (n : ℕ) (site : Site) (t : ℕ) (void : Bool) (c : Counts) (go go' : Counts → Run) → n ≤ c.lookups → c.lookups ≤ site.limits.lookups
    → GoesAlike zones site.limits.lookups n go go' → Alike zones site.limits.lookups n (void_counted site t void c go) (void_counted site t void c go')
void_counted_alike zones n site t false c go go' least within goes = goes c least within
void_counted_alike zones n site t true c go go' least within goes =
    let more : Counts = record c { voids = c.voids + 1 } in
    go_if_alike zones site.limits.lookups n (nat_le (c.voids + 1) site.limits.voids) (Perm cause.Voids (at site t)) more go go'
    least (λ v. v) (λ fits. goes more least within)

with_text_alike : (zones : Answering) (most n : ℕ) (site : Site) (t : ℕ) (c : Counts) (e : Expanded) (go go' : List ℕ → Run) → n ≤ c.lookups
    → ((text : List ℕ) → Alike zones most n (go text) (go' text)) → Alike zones most n (with_text site t c e go) (with_text site t c e go')
with_text_alike zones most n site t c (Out text) go go' least goes = goes text
with_text_alike zones most n site t c (Needs need) go go' least goes = ends_alike zones most n _ c least (λ v. absurd v)

with_target_alike : (zones : Answering) (most n : ℕ) (site : Site) (t : ℕ) (c : Counts) (spec : Option (List Piece)) (go go' : List ℕ → Run) → n ≤ c.lookups
    → ((text : List ℕ) → Alike zones most n (go text) (go' text)) → Alike zones most n (with_target site t c spec go) (with_target site t c spec go')
with_target_alike zones most n site t c None go go' least goes = goes site.domain
with_target_alike zones most n site t c (Some spec) go go' least goes =
    with_text_alike zones most n site t c (target site.family site.domain spec) go go' least goes

with_name_alike : (zones : Answering) (most n : ℕ) (o : Outcome) (c : Counts) (found : Option Labels) (go go' : Labels → Run) → n ≤ c.lookups → (IsVerdict o → ⊥)
    → ((name : Labels) → Alike zones most n (go name) (go' name)) → Alike zones most n (with_name o c found go) (with_name o c found go')
with_name_alike zones most n o c None go go' least none goes = ends_alike zones most n o c least (λ v. absurd (none v))
with_name_alike zones most n o c (Some name) go go' least none goes = goes name

answered_alike : (zones : Answering) (most n : ℕ) (site : Site) (t : ℕ) (c : Counts) (go go' : Answer → Run) (found : Answer) → n ≤ c.lookups
    → ((found : Answer) → Alike zones most n (go found) (go' found)) → Alike zones most n (answered site t c go found) (answered site t c go' found)
answered_alike zones most n site t c go go' answer.Outside least goes = ends_alike zones most n _ c least (λ v. absurd v)
answered_alike zones most n site t c go go' answer.Loop least goes = ends_alike zones most n _ c least (λ v. absurd v)
answered_alike zones most n site t c go go' answer.NoName least goes = goes answer.NoName
answered_alike zones most n site t c go go' answer.NoData least goes = goes answer.NoData
answered_alike zones most n site t c go go' (answer.Found bodies) least goes = goes (answer.Found bodies)

ask_alike : (zones : Answering) (most n : ℕ) (site : Site) (t : ℕ) (c : Counts) (q : Question) (go go' : Answer → Run) → n ≤ c.lookups
    → ((found : Answer) → Alike zones most n (go found) (go' found)) → Alike zones most n (ask site t c q go) (ask site t c q go')
ask_alike zones most n site t c q go go' least goes =
    let below = answered_alike zones most n site t c go go' (zones q) least goes in
    record { same = below.same; least = below.least; within = below.within }

ask_all_alike : (zones : Answering) (most n : ℕ) (site : Site) (t : ℕ) (c : Counts) (qs : List Question) (go go' : List Answer → Run) → n ≤ c.lookups
    → ((found : List Answer) → Alike zones most n (go found) (go' found)) → Alike zones most n (ask_all site t c qs go) (ask_all site t c qs go')
ask_all_alike zones most n site t c [] go go' least goes = goes []
ask_all_alike zones most n site t c (q ∷ qs) go go' least goes =
    ask_alike zones most n site t c q (λ found. ask_all site t c qs (λ rest. go (found ∷ rest))) (λ found. ask_all site t c qs (λ rest. go' (found ∷ rest))) least
    (λ found. ask_all_alike zones most n site t c qs (λ rest. go (found ∷ rest)) (λ rest. go' (found ∷ rest)) least (λ rest. goes (found ∷ rest)))

abbrev pub BothAlike : Answering → ℕ → ℕ → (Bool → Counts → Run) → (Bool → Counts → Run) → Type 0
BothAlike zones most n go go' = (b : Bool) → GoesAlike zones most n (go b) (go' b)

-- what an include or a redirect makes of an end
abbrev pub AfterAlike : Answering → ℕ → ℕ → (Outcome → Counts → Run) → (Outcome → Counts → Run) → Type 0
AfterAlike zones most n go go' = (o : Outcome) (c : Counts) → n ≤ c.lookups → (IsVerdict o → c.lookups ≤ most) → Alike zones most n (go o c) (go' o c)

then_do_alike : (zones : Answering) (most n : ℕ) (run run' : Run) (go go' : Outcome → Counts → Run) → Alike zones most n run run' → AfterAlike zones most n go go'
    → Alike zones most n (then_do run go) (then_do run' go')
then_do_alike zones most n run run' go go' runs goes =
    let at : (mid : Outcome) (c : Counts) → EndsWith zones run mid c → Alike zones most n (go mid c) (go' mid c) =
    λ mid c h. goes mid c (runs.least mid c h) (runs.within mid c h) in
    record {
      same = λ o c. (
        λ h. let s = ends_split zones run go o c h in
            ends_after zones run' go' s.0 s.1 o c ((runs.same s.0 s.1).0 s.2) (((at s.0 s.1 s.2).same o c).0 s.3),
        λ h. let s = ends_split zones run' go' o c h in
            ends_after zones run go s.0 s.1 o c ((runs.same s.0 s.1).1 s.2) (((at s.0 s.1 ((runs.same s.0 s.1).1 s.2)).same o c).1 s.3),
      );
      least = λ o c h. let s = ends_split zones run go o c h in (at s.0 s.1 s.2).least o c s.3;
      within = λ o c h v. let s = ends_split zones run go o c h in (at s.0 s.1 s.2).within o c s.3 v;
    }

judged_by_alike : (zones : Answering) (n : ℕ) (site : Site) (t : ℕ) (go go' : Verdict → Counts → Run) → ((v : Verdict) → GoesAlike zones site.limits.lookups n (go v) (go' v))
    → AfterAlike zones site.limits.lookups n (judged_by site t go) (judged_by site t go')
judged_by_alike zones n site t go go' goes (Is v) c least within = goes v c least (within tt)
judged_by_alike zones n site t go go' goes (Nothing place) c least within = ends_alike zones site.limits.lookups n _ c least (λ v. absurd v)
judged_by_alike zones n site t go go' goes (Perm cause place) c least within = ends_alike zones site.limits.lookups n _ c least (λ v. absurd v)
judged_by_alike zones n site t go go' goes (Temp cause place) c least within = ends_alike zones site.limits.lookups n _ c least (λ v. absurd v)
judged_by_alike zones n site t go go' goes (Unsettled cause place) c least within = ends_alike zones site.limits.lookups n _ c least (λ v. absurd v)

-- two ways to check a target, with more lookups than n
abbrev pub SubsAlike : Answering → ℕ → ℕ → Sub → Sub → Type 0
SubsAlike zones most n sub sub' = (text : List ℕ) (name : Labels) → GoesAlike zones most (suc n) (sub text name) (sub' text name)

naming_alike : (zones : Answering) (n : ℕ) (site : Site) (t : ℕ) (spec : Option (List Piece)) (c : Counts) (go go' : Labels → Run) → n ≤ c.lookups
    → ((name : Labels) → Alike zones site.limits.lookups n (go name) (go' name)) → Alike zones site.limits.lookups n (naming site t spec c go) (naming site t spec c go')
naming_alike zones n site t spec c go go' least goes =
    with_target_alike zones site.limits.lookups n site t c spec _ _ least (λ text.
    with_name_alike zones site.limits.lookups n (Unsettled cause.Target (at site t)) c (name_of text) _ _ least (λ v. v) goes)

-- two ways to go on with what a term gathered
abbrev GathersAlike : Answering → ℕ → ℕ → (Gathered → Run) → (Gathered → Run) → Type 0
GathersAlike zones most n go go' = (gathered : Gathered) → Alike zones most n (go gathered) (go' gathered)

gather_hosts_alike : (zones : Answering) (n : ℕ) (site : Site) (t : ℕ) (k : QKind) (void : Bool) (hosts : List Labels) (c : Counts) (go go' : Gathered → Run) → n ≤ c.lookups
    → GathersAlike zones site.limits.lookups n go go'
    → Alike zones site.limits.lookups n (gather_hosts site t k void hosts c go) (gather_hosts site t k void hosts c go')
gather_hosts_alike zones n site t k void hosts c go go' least goes =
    ask_all_alike zones site.limits.lookups n site t c (map (question_of k) hosts) (λ answers. go (record { void = void; answers = answers })) (λ answers. go' (record { void = void; answers = answers })) least
    (λ answers. goes (record { void = void; answers = answers }))

gather_target_alike : (zones : Answering) (n : ℕ) (site : Site) (t : ℕ) (k : QKind) (spec : Option (List Piece)) (c : Counts) (go go' : Gathered → Run) → n ≤ c.lookups
    → GathersAlike zones site.limits.lookups n go go'
    → Alike zones site.limits.lookups n (gather_target site t k spec c go) (gather_target site t k spec c go')
gather_target_alike zones n site t k spec c go go' least goes =
    naming_alike zones n site t spec c _ _ least (λ name. gather_hosts_alike zones n site t k false (name ∷ []) c go go' least goes)

gather_mx_alike : (zones : Answering) (n : ℕ) (site : Site) (t : ℕ) (spec : Option (List Piece)) (c : Counts) (go go' : Gathered → Run) → n ≤ c.lookups
    → GathersAlike zones site.limits.lookups n go go'
    → Alike zones site.limits.lookups n (gather_mx site t spec c go) (gather_mx site t spec c go')
gather_mx_alike zones n site t spec c go go' least goes =
    naming_alike zones n site t spec c _ _ least (λ name.
    ask_alike zones site.limits.lookups n site t c (question_of kind.Mx name) _ _ least (λ found.
    let exchanges = filter_map exchange_of (answer_bodies found) in
    go_if_alike zones site.limits.lookups n (nat_le (length exchanges) site.limits.exchanges) (Perm cause.Exchanges (at site t)) c
    (λ c'. gather_hosts site t (kind_in site.family) (is_void found) exchanges c' go) (λ c'. gather_hosts site t (kind_in site.family) (is_void found) exchanges c' go') least (λ v. v)
    (λ fits. gather_hosts_alike zones n site t (kind_in site.family) (is_void found) exchanges c go go' least goes)))

gather_exists_alike : (zones : Answering) (n : ℕ) (site : Site) (t : ℕ) (spec : List Piece) (suffix : Option Expanded) (c : Counts) (go go' : Hosts → Run) → n ≤ c.lookups
    → ((hosts : Hosts) → Alike zones site.limits.lookups n (go hosts) (go' hosts))
    → Alike zones site.limits.lookups n (gather_exists site t spec suffix c go) (gather_exists site t spec suffix c go')
gather_exists_alike zones n site t spec None c go go' least goes =
    gather_target_alike zones n site t kind.A (Some spec) c (λ gathered. go (Common gathered)) (λ gathered. go' (Common gathered)) least (λ gathered. goes (Common gathered))
gather_exists_alike zones n site t spec (Some suffix) c go go' least goes =
    with_text_alike zones site.limits.lookups n site t c suffix _ _ least (λ text.
    go_if_alike zones site.limits.lookups n (nat_le (length text) 189) (Unsettled cause.Address (at site t)) c
    (λ c'. with_name (Unsettled cause.Target (at site t)) c' (name_of text) (λ name. go (Reversed name)))
    (λ c'. with_name (Unsettled cause.Target (at site t)) c' (name_of text) (λ name. go' (Reversed name))) least (λ v. v)
    (λ fits. with_name_alike zones site.limits.lookups n (Unsettled cause.Target (at site t)) c (name_of text) _ _ least (λ v. v) (λ name. goes (Reversed name))))

own_alike : (zones : Answering) (n : ℕ) (site : Site) (t : ℕ) (hosts : Hosts) (c : Counts) (go go' : Gathered → Run) → n ≤ c.lookups
    → GathersAlike zones site.limits.lookups n go go'
    → Alike zones site.limits.lookups n (gather_own site t hosts c go) (gather_own site t hosts c go')
own_alike zones n site t (Common gathered) c go go' least goes = goes gathered
own_alike zones n site t (Reversed name) c go go' least goes =
    ask_alike zones site.limits.lookups n site t c (reversed_question site.family name) (λ found. go (record { void = false; answers = found ∷ [] }))
    (λ found. go' (record { void = false; answers = found ∷ [] })) least (λ found. goes (record { void = false; answers = found ∷ [] }))

gather_alike : (zones : Answering) (n : ℕ) (site : Site) (t : ℕ) (m : Mechanism) (c : Counts) (go go' : Gathered → Run) → n ≤ c.lookups
    → GathersAlike zones site.limits.lookups n go go'
    → Alike zones site.limits.lookups n (gather site t m c go) (gather site t m c go')
gather_alike zones n site t (A spec l4 l6) c go go' least goes = gather_target_alike zones n site t (kind_in site.family) spec c go go' least goes
gather_alike zones n site t (Mx spec l4 l6) c go go' least goes = gather_mx_alike zones n site t spec c go go' least goes
gather_alike zones n site t (Exists spec) c go go' least goes =
    gather_exists_alike zones n site t spec (reverse_suffix site.family site.domain spec) c (λ hosts. gather_own site t hosts c go) (λ hosts. gather_own site t hosts c go') least
    (λ hosts. own_alike zones n site t hosts c go go' least goes)
gather_alike zones n site t All c go go' least goes = goes (record { void = false; answers = [] })
gather_alike zones n site t (Include spec) c go go' least goes = goes (record { void = false; answers = [] })
gather_alike zones n site t (Ptr spec) c go go' least goes = goes (record { void = false; answers = [] })
gather_alike zones n site t (Ip4 p) c go go' least goes = goes (record { void = false; answers = [] })
gather_alike zones n site t (Ip6 p) c go go' least goes = goes (record { void = false; answers = [] })

judge_hosts_alike : (zones : Answering) (n : ℕ) (site : Site) (a : Address) (t : ℕ) (m : Mechanism) (c : Counts) (go go' : Bool → Counts → Run) → n ≤ c.lookups
    → BothAlike zones site.limits.lookups n go go'
    → Alike zones site.limits.lookups n (judge_hosts site a t m c go) (judge_hosts site a t m c go')
judge_hosts_alike zones n site a t m c go go' least goes =
    counted_alike zones n site t c _ _ least (λ c' l w. let l' : n ≤ c'.lookups = omega (arith, l) in
    gather_alike zones n site t m c' _ _ l' (λ gathered.
    void_counted_alike zones n site t (some_void gathered) c' _ _ l' w (goes (is_met m a gathered.answers))))

with_verdict_alike : (zones : Answering) (n : ℕ) (site : Site) (sub sub' : Sub) (t : ℕ) (spec : List Piece) (c : Counts) (go go' : Verdict → Counts → Run) → n ≤ c.lookups
    → SubsAlike zones site.limits.lookups n sub sub' → ((v : Verdict) → GoesAlike zones site.limits.lookups n (go v) (go' v))
    → Alike zones site.limits.lookups n (with_verdict site sub t spec c go) (with_verdict site sub' t spec c go')
with_verdict_alike zones n site sub sub' t spec c go go' least subs goes =
    counted_alike zones n site t c _ _ least (λ c' l w. let l' : n ≤ c'.lookups = omega (arith, l) in
    with_target_alike zones site.limits.lookups n site t c' (Some spec) _ _ l' (λ text.
    with_name_alike zones site.limits.lookups n (Perm cause.Missing (at site t)) c' (name_of text) _ _ l' (λ v. v) (λ name.
    then_do_alike zones site.limits.lookups n (sub text name c') (sub' text name c') (judged_by site t go) (judged_by site t go')
    (fewer zones site.limits.lookups n (suc n) (sub text name c') (sub' text name c') (omega arith) (subs text name c' l w))
    (judged_by_alike zones n site t go go' goes))))

judge_alike : (zones : Answering) (n : ℕ) (site : Site) (a : Address) (sub sub' : Sub) (t : ℕ) (m : Mechanism) (c : Counts) (go go' : Bool → Counts → Run)
    → n ≤ c.lookups → c.lookups ≤ site.limits.lookups → SubsAlike zones site.limits.lookups n sub sub' → BothAlike zones site.limits.lookups n go go'
    → Alike zones site.limits.lookups n (judge site a sub t m c go) (judge site a sub' t m c go')
judge_alike zones n site a sub sub' t All c go go' least within subs goes = goes true c least within
judge_alike zones n site a sub sub' t (Ip4 p) c go go' least within subs goes = goes (covers (net.V4 p) a) c least within
judge_alike zones n site a sub sub' t (Ip6 p) c go go' least within subs goes = goes (covers (net.V6 p) a) c least within
judge_alike zones n site a sub sub' t (Ptr spec) c go go' least within subs goes =
    counted_alike zones n site t c _ _ least (λ c' l w. ends_alike zones site.limits.lookups n _ c' (omega (arith, l)) (λ v. absurd v))
judge_alike zones n site a sub sub' t (Include spec) c go go' least within subs goes =
    with_verdict_alike zones n site sub sub' t spec c (λ v. go (is_pass v)) (λ v. go' (is_pass v)) least subs (λ v. goes (is_pass v))
judge_alike zones n site a sub sub' t (A spec l4 l6) c go go' least within subs goes = judge_hosts_alike zones n site a t (A spec l4 l6) c go go' least goes
judge_alike zones n site a sub sub' t (Mx spec l4 l6) c go go' least within subs goes = judge_hosts_alike zones n site a t (Mx spec l4 l6) c go go' least goes
judge_alike zones n site a sub sub' t (Exists spec) c go go' least within subs goes = judge_hosts_alike zones n site a t (Exists spec) c go go' least goes

unless_alike : (zones : Answering) (most n : ℕ) (v : Verdict) (next next' : Counts → Run) → GoesAlike zones most n next next'
    → BothAlike zones most n (unless_matched v next) (unless_matched v next')
unless_alike zones most n v next next' nexts true c least within = ends_alike zones most n (Is v) c least (λ u. within)
unless_alike zones most n v next next' nexts false c least within = nexts c least within

trying_alike : (zones : Answering) (n : ℕ) (site : Site) (a : Address) (sub sub' : Sub) (t : ℕ) (term : Term) (next next' : Counts → Run)
    → SubsAlike zones site.limits.lookups n sub sub' → GoesAlike zones site.limits.lookups n next next'
    → GoesAlike zones site.limits.lookups n (λ c. trying (judge site a sub) t term c next) (λ c. trying (judge site a sub') t term c next')
trying_alike zones n site a sub sub' t (Directive v m) next next' subs nexts c least within =
    judge_alike zones n site a sub sub' t m c (unless_matched v next) (unless_matched v next') least within subs (unless_alike zones site.limits.lookups n v next next' nexts)
trying_alike zones n site a sub sub' t (Redirect spec) next next' subs nexts c least within = nexts c least within
trying_alike zones n site a sub sub' t (Exp spec) next next' subs nexts c least within = nexts c least within
trying_alike zones n site a sub sub' t (Unknown name value) next next' subs nexts c least within = nexts c least within

tried_alike : (zones : Answering) (n : ℕ) (site : Site) (a : Address) (sub sub' : Sub) (last last' : Counts → Run) (t : ℕ) (terms : List Term)
    → SubsAlike zones site.limits.lookups n sub sub' → GoesAlike zones site.limits.lookups n last last'
    → GoesAlike zones site.limits.lookups n (λ c. tried (judge site a sub) t terms c last) (λ c. tried (judge site a sub') t terms c last')
tried_alike zones n site a sub sub' last last' t [] subs lasts c least within = lasts c least within
tried_alike zones n site a sub sub' last last' t (term ∷ terms) subs lasts c least within =
    trying_alike zones n site a sub sub' t term (λ c'. tried (judge site a sub) (term_after t) terms c' last) (λ c'. tried (judge site a sub') (term_after t) terms c' last') subs
    (tried_alike zones n site a sub sub' last last' (term_after t) terms subs lasts) c least within

default_alike : (zones : Answering) (n : ℕ) (site : Site) (sub sub' : Sub) (redirect : Option (ℕ × List Piece)) → SubsAlike zones site.limits.lookups n sub sub'
    → GoesAlike zones site.limits.lookups n (λ c. default site sub c redirect) (λ c. default site sub' c redirect)
default_alike zones n site sub sub' None subs c least within = ends_alike zones site.limits.lookups n (Is Neutral) c least (λ v. within)
default_alike zones n site sub sub' (Some redirect) subs c least within =
    with_verdict_alike zones n site sub sub' redirect.0 redirect.1 c (λ v c'. Ends (Is v) c') (λ v c'. Ends (Is v) c') least subs
    (λ v c' l w. ends_alike zones site.limits.lookups n (Is v) c' l (λ u. w))

-- a run that asks, and one that reads, are alike where they go on alike
asks_alike : (zones : Answering) (most n : ℕ) (q : Question) (next next' : Answer → Run)
    → Alike zones most n (next (zones q)) (next' (zones q)) → Alike zones most n (Asks q next) (Asks q next')
asks_alike zones most n q next next' below = record { same = below.same; least = below.least; within = below.within }

reads_alike : (zones : Answering) (most n : ℕ) (text : List ℕ) (next next' : Option Policy → Run)
    → ((policy : Option Policy) → Alike zones most n (next policy) (next' policy)) → Alike zones most n (Reads text next) (Reads text next')
reads_alike zones most n text next next' below = record {
  same = λ o c. (λ h. (h.0, h.1, ((below h.0).same o c).0 h.2), λ h. (h.0, h.1, ((below h.0).same o c).1 h.2));
  least = λ o c h. (below h.0).least o c h.2;
  within = λ o c h. (below h.0).within o c h.2;
}

with_policy_alike : (zones : Answering) (most n : ℕ) (name : Labels) (c : Counts) (policy : Option Policy) (go go' : List Term → Run) → n ≤ c.lookups
    → ((terms : List Term) → Alike zones most n (go terms) (go' terms)) → Alike zones most n (with_policy name c policy go) (with_policy name c policy go')
with_policy_alike zones most n name c None go go' least goes = ends_alike zones most n _ c least (λ v. absurd v)
with_policy_alike zones most n name c (Some policy) go go' least goes = goes policy.terms

with_texts_alike : (zones : Answering) (most n : ℕ) (name : Labels) (c : Counts) (texts : List (List ℕ)) (go go' : List Term → Run) → n ≤ c.lookups
    → ((terms : List Term) → Alike zones most n (go terms) (go' terms)) → Alike zones most n (with_texts name c texts go) (with_texts name c texts go')
with_texts_alike zones most n name c [] go go' least goes = ends_alike zones most n _ c least (λ v. absurd v)
with_texts_alike zones most n name c (text ∷ []) go go' least goes =
    reads_alike zones most n text (λ policy. with_policy name c policy go) (λ policy. with_policy name c policy go')
    (λ policy. with_policy_alike zones most n name c policy go go' least goes)
with_texts_alike zones most n name c (text ∷ next ∷ texts) go go' least goes = ends_alike zones most n _ c least (λ v. absurd v)

with_answer_alike : (zones : Answering) (most n : ℕ) (name : Labels) (c : Counts) (found : Answer) (go go' : List Term → Run) → n ≤ c.lookups
    → ((terms : List Term) → Alike zones most n (go terms) (go' terms)) → Alike zones most n (with_answer name c found go) (with_answer name c found go')
with_answer_alike zones most n name c answer.Outside go go' least goes = ends_alike zones most n _ c least (λ v. absurd v)
with_answer_alike zones most n name c answer.Loop go go' least goes = ends_alike zones most n _ c least (λ v. absurd v)
with_answer_alike zones most n name c answer.NoName go go' least goes = ends_alike zones most n _ c least (λ v. absurd v)
with_answer_alike zones most n name c answer.NoData go go' least goes = ends_alike zones most n _ c least (λ v. absurd v)
with_answer_alike zones most n name c (answer.Found bodies) go go' least goes =
    with_texts_alike zones most n name c (filter_map spf_text_of bodies) go go' least goes

with_record_alike : (zones : Answering) (most n : ℕ) (name : Labels) (c : Counts) (go go' : List Term → Run) → n ≤ c.lookups
    → ((terms : List Term) → Alike zones most n (go terms) (go' terms)) → Alike zones most n (with_record name c go) (with_record name c go')
with_record_alike zones most n [] c go go' least goes = ends_alike zones most n _ c least (λ v. absurd v)
with_record_alike zones most n (l ∷ []) c go go' least goes = ends_alike zones most n _ c least (λ v. absurd v)
with_record_alike zones most n (l ∷ m ∷ ls) c go go' least goes =
    asks_alike zones most n (record { name = l ∷ m ∷ ls; kind = ask_kind.Txt }) (λ found. with_answer (l ∷ m ∷ ls) c found go) (λ found. with_answer (l ∷ m ∷ ls) c found go')
    (with_answer_alike zones most n (l ∷ m ∷ ls) c (zones (record { name = l ∷ m ∷ ls; kind = ask_kind.Txt })) go go' least goes)

-- the check at a depth and at one more
check_alike : (zones : Answering) (limits : Limits) (a : Address) (depth : ℕ) (domain : List ℕ) (name : Labels) (c : Counts)
    → c.lookups ≤ limits.lookups → limits.lookups < depth + c.lookups
    → Alike zones limits.lookups c.lookups (check limits a depth domain name c) (check limits a (suc depth) domain name c)
check_alike zones limits a zero domain name c within deep = absurd (omega (arith, within, deep))
check_alike zones limits a (suc depth) domain name c within deep =
    let site : Site = record { limits = limits; family = family_of a; domain = domain; name = name } in
    let subs : SubsAlike zones limits.lookups c.lookups (check limits a depth) (check limits a (suc depth)) =
    λ text target c' l w. fewer zones limits.lookups (suc c.lookups) c'.lookups _ _ l (check_alike zones limits a depth text target c' w (omega (arith, deep, l))) in
    with_record_alike zones limits.lookups c.lookups name c _ _ (omega arith) (λ terms.
    tried_alike zones c.lookups site a (check limits a depth) (check limits a (suc depth))
    (λ c'. default site (check limits a depth) c' (redirect_from 1 terms)) (λ c'. default site (check limits a (suc depth)) c' (redirect_from 1 terms)) 1 terms subs
    (default_alike zones c.lookups site (check limits a depth) (check limits a (suc depth)) (redirect_from 1 terms) subs) c (omega arith) within)

pub depth_suffices : DepthSuffices
depth_suffices zones limits a depth domain name counts outcome after within deep =
    (check_alike zones limits a depth domain name counts within deep).same outcome after
