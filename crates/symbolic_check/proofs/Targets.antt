-- What a term makes of the record that it asks for.
use Rattle.std.proofs.Common.{◌≡◌, ℕ, ◌+◌, ◌==◌, Bool, true, false, cond, List, [], ◌∷◌, map, refl, sym, ap, subst, inl, inr, Option, Some, None, IsSomeAnd}
use Rattle.std.proofs.lemmas.Bool.{true≢false}
use Rattle.std.specs.Prelude.{nat_le, option_map}
use Rattle.addr_bits.specs.Prefix.{Cidr}
use Rattle.addr_bits.specs.declared.address.Address.{Address}
use Rattle.addr_bits.proofs.Texts.{one_address}
use Rattle.zone_answers.specs.declared.answer.Question.{Question}
use Rattle.prefix_trie.specs.Leaves.{value_at}
use Rattle.addr_bits.specs.Width.{cut_of}
use Rattle.spf_macros.specs.declared.piece.Piece.{Piece}
use Rattle.spf_macros.specs.declared.expansion.Expanded.{Expanded}
use Rattle.spf_macros.specs.declared.expansion.Expanded.TheVariants.{Out, Needs}
use Rattle.spf_macros.specs.Expansion.{target}
use Rattle.spf_grammar.specs.declared.verdict.Verdict.{Verdict}
use Rattle.spf_grammar.specs.declared.verdict.Verdict.TheVariants.{Pass, Neutral}
use Rattle.spf_grammar.proofs.OnePolicy.{one_policy}
use Rattle.spf_model.specs.declared.outcome.Cause.{Cause}
use Rattle.spf_model.specs.declared.outcome.Cause.TheVariants as cause
use Rattle.spf_model.specs.declared.outcome.Limits.{Limits}
use Rattle.spf_model.specs.declared.outcome.Place.{Place}
use Rattle.spf_model.specs.declared.outcome.Counts.{Counts}
use Rattle.spf_model.specs.declared.outcome.Outcome.{Outcome}
use Rattle.spf_model.specs.declared.outcome.Outcome.TheVariants.{Nothing, Is, Perm, Temp, Unsettled}
use Rattle.spf_model.specs.Run.{Run, Ends, Answering, then_do}
use Rattle.spf_model.specs.Judging.{Labels, Site, Sub, at, is_pass, go_if, counted, name_of, with_text, with_target, with_name, with_domain, with_verdict, judged_by}
use Rattle.spf_model.specs.Check.{check, unless_matched}
use Rattle.spf_model.specs.Leads.{NoVerdict}
use Rattle.spf_model.proofs.RunLaws.{asks_first, one_end}
use Rattle.symbolic_check.specs.declared.state.State.{State}
use Rattle.symbolic_check.specs.declared.state.State.TheVariants.{Live, Decided, Failed}
use Rattle.symbolic_check.specs.declared.state.Purpose.{Purpose}
use Rattle.symbolic_check.specs.declared.state.Purpose.TheVariants.{Include, Redirect}
use Rattle.symbolic_check.specs.Steps.{entered, after_lookup, used, from_target, after_target, required}
use Rattle.spf_model.specs.Settling.{Follows}
use Rattle.symbolic_check.specs.Walk.{Leaves, Stretch, Moves, Walks, StepsAt, StepsWith}
use Rattle.spf_model.specs.declared.context.RecordContext.{RecordContext}
use Rattle.spf_model.specs.Leads.{site_of}
use Rattle.symbolic_check.specs.Stretches.{goes_on, reached_stretch, target_stretch}
use Rattle.spf_model.proofs.Following.{follows_itself, follows_twice, follows_within}
use Rattle.symbolic_check.proofs.Walking.{leaves_twice, walks_twice, walks_by_steps, walks_alike}
use Rattle.symbolic_check.proofs.Stepping.{lookup_moves}

-- the run of a record, and then what a term makes of it
abbrev judged : Site → ℕ → Purpose → (Counts → Run) → Stretch
judged site t purpose run counts go = then_do (run counts) (judged_by site t (goes_on purpose go))

pass_not_neutral : Is Pass ≡ Is Neutral → ⊥
pass_not_neutral e = true≢false (ap passes e)
  where
    passes : Outcome → Bool
    passes (Is verdict) = is_pass verdict
    passes (Nothing place) = false
    passes (Perm cause place) = false
    passes (Temp cause place) = false
    passes (Unsettled cause place) = false

-- a run that others go on from has one end, so it doesn't end as whatever comes after it
pub never_live : (zones : Answering) (asked : List Question) (run : Run) (c : Counts) → ((go : Counts → Run) → Follows zones asked run (go c)) → ⊥
never_live zones asked run c h = pass_not_neutral (
    one_end (one_policy one_address) zones run (Is Pass) (Is Neutral) c c
    (((h (λ counts. Ends (Is Pass) counts)).ends (Is Pass) c).0 (refl, refl))
    (((h (λ counts. Ends (Is Neutral) counts)).ends (Is Neutral) c).0 (refl, refl))
    ).0

-- a verdict is used
verdict_used : (zones : Answering) (asked : List Question) (purpose : Purpose) (verdict : Verdict) (c : Counts)
    → Leaves zones asked (λ go. goes_on purpose go verdict c) (used purpose verdict c)
verdict_used zones asked Redirect verdict c = λ go. follows_itself zones asked (Ends (Is verdict) c)
verdict_used zones asked (Include given) verdict c = by_pass (is_pass verdict)
  where
    by_pass : (passes : Bool) → Leaves zones asked (λ go. unless_matched given go passes c) (cond passes (Decided given c) (Live c))
    by_pass true = λ go. follows_itself zones asked (Ends (Is given) c)
    by_pass false = λ go. follows_itself zones asked (go c)

-- an outcome that is no verdict is taken over
failure_used : (zones : Answering) (asked : List Question) (site : Site) (t : ℕ) (purpose : Purpose) (outcome : Outcome) (go : Counts → Run) (c : Counts) → NoVerdict outcome
    → NoVerdict (required (at site t) outcome)
    × Follows zones asked (judged_by site t (goes_on purpose go) outcome c) (Ends (required (at site t) outcome) c)
failure_used zones asked site t purpose (Is verdict) go c none = absurd none
failure_used zones asked site t purpose (Nothing place) go c none = (tt, follows_itself zones asked (Ends (Perm cause.Missing (at site t)) c))
failure_used zones asked site t purpose (Perm cause place) go c none = (tt, follows_itself zones asked (Ends (Perm cause place) c))
failure_used zones asked site t purpose (Temp cause place) go c none = (tt, follows_itself zones asked (Ends (Temp cause place) c))
failure_used zones asked site t purpose (Unsettled cause place) go c none = (tt, follows_itself zones asked (Ends (Unsettled cause place) c))

-- what a term makes of its record's run is its own run, by each step before the record
limit_judged : (site : Site) (t : ℕ) (go : Verdict → Counts → Run) (cause : Cause) (place : Place) (test : Bool) (counts : Counts) (run next : Counts → Run)
    → then_do (run counts) (judged_by site t go) ≡ next counts
    → then_do (go_if test (Perm cause place) counts run) (judged_by site t go) ≡ go_if test (Perm cause place) counts next
limit_judged site t go cause place true counts run next same = same
limit_judged site t go cause place false counts run next same = refl

text_judged : (site : Site) (t : ℕ) (go : Verdict → Counts → Run) (counts : Counts) (expanded : Expanded) (run next : List ℕ → Run)
    → ((text : List ℕ) → then_do (run text) (judged_by site t go) ≡ next text)
    → then_do (with_text site t counts expanded run) (judged_by site t go) ≡ with_text site t counts expanded next
text_judged site t go counts (Out text) run next same = same text
text_judged site t go counts (Needs need) run next same = refl

name_judged : (site : Site) (t : ℕ) (go : Verdict → Counts → Run) (cause : Cause) (place : Place) (counts : Counts) (found : Option Labels) (run next : Labels → Run)
    → ((name : Labels) → then_do (run name) (judged_by site t go) ≡ next name)
    → then_do (with_name (Perm cause place) counts found run) (judged_by site t go) ≡ with_name (Perm cause place) counts found next
name_judged site t go cause place counts None run next same = refl
name_judged site t go cause place counts (Some name) run next same = same name

target_judged : (site : Site) (sub : Sub) (t : ℕ) (spec : List Piece) (counts : Counts) (go : Verdict → Counts → Run)
    → then_do (with_domain site t spec counts sub) (judged_by site t go) ≡ with_verdict site sub t spec counts go
target_judged site sub t spec counts go =
    let more : Counts = record counts { lookups = counts.lookups + 1 } in
    limit_judged site t go cause.Lookups (at site t) (nat_le more.lookups site.limits.lookups) more
    (λ c. with_target site t c (Some spec) (λ text. with_name (Perm cause.Missing (at site t)) c (name_of text) (λ name. sub text name c)))
    (λ c. with_target site t c (Some spec) (λ text. with_name (Perm cause.Missing (at site t)) c (name_of text) (λ name. then_do (sub text name c) (judged_by site t go))))
    (text_judged site t go more (target site.family site.domain spec)
    (λ text. with_name (Perm cause.Missing (at site t)) more (name_of text) (λ name. sub text name more))
    (λ text. with_name (Perm cause.Missing (at site t)) more (name_of text) (λ name. then_do (sub text name more) (judged_by site t go)))
    (λ text. name_judged site t go cause.Missing (at site t) more (name_of text) (λ name. sub text name more) (λ name. then_do (sub text name more) (judged_by site t go)) (λ name. refl)))

-- what a record leaves, and then what a term leaves of it
judged_leaves : (zones : Answering) (asked : List Question) (site : Site) (t : ℕ) (purpose : Purpose) (run : Counts → Run) (c : Counts) (inner : State)
    → Leaves zones asked (λ go. run c) inner → Leaves zones asked (judged site t purpose run c) (from_target (at site t) purpose inner)
judged_leaves zones asked site t purpose run c (Live d) h = absurd (never_live zones asked (run c) d h)
judged_leaves zones asked site t purpose run c (Decided verdict d) h =
    leaves_twice zones asked (judged site t purpose run c) (λ go. goes_on purpose go verdict d) (used purpose verdict d)
    (λ go. follows_within zones asked (run c) (Ends (Is verdict) d) (judged_by site t (goes_on purpose go)) (h go))
    (verdict_used zones asked purpose verdict d)
judged_leaves zones asked site t purpose run c (Failed outcome) h = (
  (failure_used zones asked site t purpose outcome (λ counts. Ends outcome counts) c h.0).0,
  λ go. let end = h.1 go in (
    end.0,
    follows_twice zones asked (judged site t purpose run c go) (judged_by site t (goes_on purpose go) outcome end.0) (Ends (required (at site t) outcome) end.0)
        (follows_within zones asked (run c) (Ends outcome end.0) (judged_by site t (goes_on purpose go)) end.1)
        (failure_used zones asked site t purpose outcome go end.0 h.0).1,
  ),
)

-- one address moves by what stands there after the record
judged_moves : (zones : Answering) (asked : List Question) (site : Site) (t : ℕ) (purpose : Purpose) (run : Counts → Run) (old inner : State)
    → Moves zones asked (λ counts go. run counts) (entered old) inner
    → Moves zones asked (judged site t purpose run) old (after_target (at site t) purpose inner old)
judged_moves zones asked site t purpose run (Live c) inner h = judged_leaves zones asked site t purpose run c inner h
judged_moves zones asked site t purpose run (Decided v c) inner h = refl
judged_moves zones asked site t purpose run (Failed o) inner h = refl

judged_stands : (zones : Answering) (asked : List Question) (site : Site) (t : ℕ) (purpose : Purpose) (run : Counts → Run) (old within inner new : Option State)
    → IsSomeAnd old (λ s. within ≡ Some (entered s)) → IsSomeAnd within (λ s. IsSomeAnd inner (Moves zones asked (λ counts go. run counts) s))
    → IsSomeAnd old (λ s. IsSomeAnd inner (λ u. new ≡ Some (after_target (at site t) purpose u s)))
    → IsSomeAnd old (λ s. IsSomeAnd new (Moves zones asked (judged site t purpose run) s))
judged_stands zones asked site t purpose run None within inner new e h g = e
judged_stands zones asked site t purpose run (Some s) within None new e h g = absurd g
judged_stands zones asked site t purpose run (Some s) within (Some u) new e h g =
    subst (λ n. IsSomeAnd n (Moves zones asked (judged site t purpose run) s)) (sym g)
    (judged_moves zones asked site t purpose run s u (subst (λ w. IsSomeAnd w (λ x. Moves zones asked (λ counts go. run counts) x u)) e h))

-- an address that enters a record live was live before
entered_live : (old : State) (c : Counts) → Some (entered old) ≡ Some (Live c) → Some old ≡ Some (Live c)
entered_live (Live d) c e = e
entered_live (Decided v d) c e = absurd cc
entered_live (Failed o) c e = absurd cc

live_before_entry : (old within : Option State) (c : Counts) → IsSomeAnd old (λ s. within ≡ Some (entered s)) → within ≡ Some (Live c) → old ≡ Some (Live c)
live_before_entry None within c e h = absurd e
live_before_entry (Some s) within c e h = entered_live s c (subst (λ w. w ≡ Some (Live c)) e h)

-- a walk over the record that a term asks for, with the states that enter it, is a walk over what the term makes of it
judged_walk : (bits : ℕ) (zones : ℕ → Answering) (address : ℕ → Address) (context : RecordContext) (t : ℕ) (purpose : Purpose) (run : ℕ → Counts → Run) (old within inner new : List (Cidr × State)) (asked more : List Question)
    → StepsAt bits (λ a. entered) old within → Walks bits zones (λ a counts go. run a counts) within inner asked more
    → StepsWith bits (after_target (record { name = context.name.now; term = t }) purpose) inner old new
    → Walks bits zones (λ a. judged (site_of context) t purpose (run a)) old new asked more
judged_walk bits zones address context t purpose run old within inner new asked more enters walks uses = record {
  each = λ a below. judged_stands (zones a) more (site_of context) t purpose (run a) (value_at bits old a) (value_at bits within a) (value_at bits inner a) (value_at bits new a)
      (enters a below) (walks.each a below) (uses a below);
  kept = walks.kept;
  only = λ q h. elim (walks.only q h) [
    | inl here ↦ inl here
    | inr by ↦ inr (record {
      address = by.address;
      counts = by.counts;
      within = by.within;
      live = live_before_entry (value_at bits old by.address) (value_at bits within by.address) by.counts (enters by.address by.within) by.live;
      asks = λ go. asks_first (zones by.address) (run by.address by.counts) (judged_by (site_of context) t (goes_on purpose go)) q (by.asks go);
    })
  ];
}

-- the states that enter a record, before its lookup is counted
abbrev enter_leaf : Cidr × State → Cidr × State
enter_leaf leaf = (leaf.0, entered leaf.1)

value_entered : (bits : ℕ) (states : List (Cidr × State)) (a : ℕ) → value_at bits (map enter_leaf states) a ≡ option_map entered (value_at bits states a)
value_entered bits [] a = refl
value_entered bits (leaf ∷ states) a = by_test (cut_of bits a leaf.0.len == leaf.0.start) (value_entered bits states a)
  where
    by_test : (test : Bool) → value_at bits (map enter_leaf states) a ≡ option_map entered (value_at bits states a)
        → cond test (Some (entered leaf.1)) (value_at bits (map enter_leaf states) a) ≡ option_map entered (cond test (Some leaf.1) (value_at bits states a))
    by_test true below = refl
    by_test false below = below

enters_at : (old : Option State) (P : State → Type 0) → IsSomeAnd old P → IsSomeAnd old (λ s. option_map entered old ≡ Some (entered s))
enters_at None P h = h
enters_at (Some s) P h = refl

counts_at : (limits : Limits) (place : Place) (old new : Option State) → IsSomeAnd old (λ s. new ≡ Some (after_lookup limits place (entered s)))
    → IsSomeAnd (option_map entered old) (λ s. new ≡ Some (after_lookup limits place s))
counts_at limits place None new h = h
counts_at limits place (Some s) new h = h

pub target_walk : (bits : ℕ) (zones : ℕ → Answering) (address : ℕ → Address) (context : RecordContext) (depth t : ℕ) (spec : List Piece) (purpose : Purpose) (old mid inner new : List (Cidr × State)) (asked more : List Question)
    → StepsAt bits (λ a state. after_lookup context.limits (record { name = context.name.now; term = t }) (entered state)) old mid
    → Walks bits zones (reached_stretch address context depth t spec) mid inner asked more
    → StepsWith bits (after_target (record { name = context.name.now; term = t }) purpose) inner old new
    → Walks bits zones (target_stretch address context depth t spec purpose) old new asked more
target_walk bits zones address context depth t spec purpose old mid inner new asked more enters walks uses =
    walks_alike bits zones (target_stretch address context depth t spec purpose) (λ a. judged (site_of context) t purpose (run a)) old new asked more
    (λ a c go. sym (target_judged (site_of context) (check context.limits (address a) depth) t spec c (goes_on purpose go)))
    (judged_walk bits zones address context t purpose run old within inner new asked more
    (λ a below. subst (λ (w : Option State). IsSomeAnd (value_at bits old a) (λ s. w ≡ Some (entered s))) (sym (value_entered bits old a))
    (enters_at (value_at bits old a) (λ s. value_at bits mid a ≡ Some (after_lookup context.limits place (entered s))) (enters a below)))
    (walks_twice bits zones (λ a. counted (site_of context) t) (reached_stretch address context depth t spec) within mid inner asked asked more
    (walks_by_steps bits zones (λ a. counted (site_of context) t) (λ a. after_lookup context.limits place) within mid asked
    (λ a s. lookup_moves (zones a) asked (site_of context) t s)
    (λ a below. subst (λ (w : Option State). IsSomeAnd w (λ s. value_at bits mid a ≡ Some (after_lookup context.limits place s))) (sym (value_entered bits old a))
    (counts_at context.limits place (value_at bits old a) (value_at bits mid a) (enters a below))))
    walks)
    uses)
  where
    place : Place
    place = record { name = context.name.now; term = t }

    within : List (Cidr × State)
    within = map enter_leaf old

    run : ℕ → Counts → Run
    run a counts = with_domain (site_of context) t spec counts (check context.limits (address a) depth)
