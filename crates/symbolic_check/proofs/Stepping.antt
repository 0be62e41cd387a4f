-- The steps of a walk, for one address.
use Rattle.std.proofs.Common.{◌≡◌, ℕ, ◌+◌, Bool, true, false, cond, List, [], ◌∷◌, refl, Option, Some, None}
use Rattle.std.proofs.lemmas.Bool.{both_ways, and_parts}
use Rattle.std.specs.Prelude.{nat_le}
use Rattle.std.specs.List.{list_all}
use Rattle.addr_bits.specs.declared.address.Address.{Address}
use Rattle.zone_answers.specs.declared.answer.Question.{Question}
use Rattle.spf_grammar.specs.declared.verdict.Verdict.{Verdict}
use Rattle.spf_grammar.specs.declared.policy.Mechanism.{Mechanism}
use Rattle.spf_grammar.specs.declared.policy.Mechanism.TheVariants.{All, Include, A, Mx, Ptr, Ip4, Ip6, Exists}
use Rattle.spf_grammar.specs.declared.policy.Term.{Term}
use Rattle.spf_grammar.specs.declared.policy.Term.TheVariants.{Directive, Redirect, Exp, Unknown}
use Rattle.spf_model.specs.declared.outcome.Cause.TheVariants as cause
use Rattle.spf_model.specs.declared.outcome.Counts.{Counts}
use Rattle.spf_model.specs.declared.outcome.Outcome.{Outcome}
use Rattle.spf_model.specs.declared.outcome.Outcome.TheVariants.{Is, Perm}
use Rattle.spf_model.specs.Run.{Run, Ends, Answering}
use Rattle.spf_model.specs.Judging.{Site, Sub, at, go_if, judge, counted, void_counted}
use Rattle.spf_model.specs.Check.{tried, unless_matched, term_after}
use Rattle.spf_model.specs.Leads.{NoVerdict}
use Rattle.symbolic_check.specs.declared.state.State.{State}
use Rattle.symbolic_check.specs.declared.state.State.TheVariants.{Live, Decided, Failed}
use Rattle.symbolic_check.specs.Steps.{after_lookup, after_void, after_match, after_failure, after_networks}
use Rattle.symbolic_check.specs.Walk.{Leaves, Moves}
use Rattle.symbolic_check.specs.Networks.{is_network, is_row_term, network_covers, first_network}
use Rattle.spf_model.proofs.Following.{follows_itself}
use Rattle.symbolic_check.proofs.Walking.{leaves_same}

-- a count that must be within the limit
within_limit : (zones : Answering) (asked : List Question) (test : Bool) (outcome : Outcome) (more : Counts) → NoVerdict outcome
    → Leaves zones asked (go_if test outcome more) (cond test (Live more) (Failed outcome))
within_limit zones asked true outcome more none = λ go. follows_itself zones asked (go more)
within_limit zones asked false outcome more none = (none, λ go. (more, follows_itself zones asked (Ends outcome more)))

-- a lookup is counted
pub lookup_moves : (zones : Answering) (asked : List Question) (site : Site) (t : ℕ) (state : State)
    → Moves zones asked (counted site t) state (after_lookup site.limits (at site t) state)
lookup_moves zones asked site t (Live c) =
    within_limit zones asked (nat_le (c.lookups + 1) site.limits.lookups) (Perm cause.Lookups (at site t)) (record c { lookups = c.lookups + 1 }) tt
lookup_moves zones asked site t (Decided v c) = refl
lookup_moves zones asked site t (Failed o) = refl

-- a void is counted
pub void_moves : (zones : Answering) (asked : List Question) (site : Site) (t : ℕ) (void : Bool) (state : State)
    → Moves zones asked (void_counted site t void) state (after_void site.limits (at site t) void state)
void_moves zones asked site t true (Live c) =
    within_limit zones asked (nat_le (c.voids + 1) site.limits.voids) (Perm cause.Voids (at site t)) (record c { voids = c.voids + 1 }) tt
void_moves zones asked site t false (Live c) = λ go. follows_itself zones asked (go c)
void_moves zones asked site t true (Decided v c) = refl
void_moves zones asked site t false (Decided v c) = refl
void_moves zones asked site t true (Failed o) = refl
void_moves zones asked site t false (Failed o) = refl

-- a directive matches, or doesn't
pub match_moves : (zones : Answering) (asked : List Question) (verdict : Verdict) (matches : Bool) (state : State)
    → Moves zones asked (λ counts go. unless_matched verdict go matches counts) state (after_match verdict matches state)
match_moves zones asked verdict true (Live c) = λ go. follows_itself zones asked (Ends (Is verdict) c)
match_moves zones asked verdict false (Live c) = λ go. follows_itself zones asked (go c)
match_moves zones asked verdict true (Decided v c) = refl
match_moves zones asked verdict false (Decided v c) = refl
match_moves zones asked verdict true (Failed o) = refl
match_moves zones asked verdict false (Failed o) = refl

-- a term ends every evaluation that comes to it
pub failure_moves : (zones : Answering) (asked : List Question) (outcome : Outcome) (state : State) → NoVerdict outcome
    → Moves zones asked (λ counts go. Ends outcome counts) state (after_failure outcome state)
failure_moves zones asked outcome (Live c) none = (none, λ go. (c, follows_itself zones asked (Ends outcome c)))
failure_moves zones asked outcome (Decided v c) none = refl
failure_moves zones asked outcome (Failed o) none = refl

-- a network goes on with whether it covers the address
judge_network : (site : Site) (a : Address) (sub : Sub) (t : ℕ) (m : Mechanism) (counts : Counts) (go : Bool → Counts → Run) → is_network m ≡ true
    → judge site a sub t m counts go ≡ go (network_covers m a) counts
judge_network site a sub t (Ip4 p) counts go h = refl
judge_network site a sub t (Ip6 p) counts go h = refl
judge_network site a sub t All counts go h = refl
judge_network site a sub t (Include spec) counts go h = absurd (both_ways false refl h)
judge_network site a sub t (A spec l m) counts go h = absurd (both_ways false refl h)
judge_network site a sub t (Mx spec l m) counts go h = absurd (both_ways false refl h)
judge_network site a sub t (Ptr spec) counts go h = absurd (both_ways false refl h)
judge_network site a sub t (Exists spec) counts go h = absurd (both_ways false refl h)

-- a row of networks leaves what the first one that has the address makes of it
networks_leave : (zones : Answering) (asked : List Question) (site : Site) (a : Address) (sub : Sub) (t : ℕ) (networks : List Term) (counts : Counts)
    → list_all is_row_term networks ≡ true
    → Leaves zones asked (tried (judge site a sub) t networks counts) (after_networks (first_network networks a) (Live counts))
networks_leave zones asked site a sub t [] counts h = λ go. follows_itself zones asked (go counts)
networks_leave zones asked site a sub t (Directive verdict m ∷ networks) counts h =
    let split = and_parts (is_network m) (list_all is_row_term networks) h in
    leaves_same zones asked (tried (judge site a sub) t (Directive verdict m ∷ networks) counts)
    (λ go. unless_matched verdict (rest go) (network_covers m a) counts)
    (after_networks (first_network (Directive verdict m ∷ networks) a) (Live counts))
    (λ go. judge_network site a sub t m counts (unless_matched verdict (rest go)) split.0)
    (by_test (networks_leave zones asked site a sub (term_after t) networks counts split.1) (network_covers m a))
  where
    rest : (Counts → Run) → Counts → Run
    rest go counts = tried (judge site a sub) (term_after t) networks counts go

    by_test : Leaves zones asked (tried (judge site a sub) (term_after t) networks counts) (after_networks (first_network networks a) (Live counts))
        → (b : Bool)
        → Leaves zones asked (λ go. unless_matched verdict (rest go) b counts) (after_networks (cond b (Some verdict) (first_network networks a)) (Live counts))
    by_test below true = λ go. follows_itself zones asked (Ends (Is verdict) counts)
    by_test below false = below
networks_leave zones asked site a sub t (Redirect spec ∷ networks) counts h = networks_leave zones asked site a sub (term_after t) networks counts h
networks_leave zones asked site a sub t (Exp spec ∷ networks) counts h = networks_leave zones asked site a sub (term_after t) networks counts h
networks_leave zones asked site a sub t (Unknown name value ∷ networks) counts h = networks_leave zones asked site a sub (term_after t) networks counts h

-- so a row of networks moves every state
pub networks_move : (zones : Answering) (asked : List Question) (site : Site) (a : Address) (sub : Sub) (t : ℕ) (networks : List Term) (state : State)
    → list_all is_row_term networks ≡ true
    → Moves zones asked (tried (judge site a sub) t networks) state (after_networks (first_network networks a) state)
networks_move zones asked site a sub t networks (Live c) h = networks_leave zones asked site a sub t networks c h
networks_move zones asked site a sub t networks (Decided v c) h = stays (first_network networks a)
  where
    stays : (found : Option Verdict) → after_networks found (Decided v c) ≡ Decided v c
    stays None = refl
    stays (Some w) = refl
networks_move zones asked site a sub t networks (Failed o) h = stays (first_network networks a)
  where
    stays : (found : Option Verdict) → after_networks found (Failed o) ≡ Failed o
    stays None = refl
    stays (Some w) = refl
