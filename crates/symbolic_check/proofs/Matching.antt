-- The mechanisms that ask for hosts, as walks.
use Rattle.std.proofs.Common.{◌≡◌, ℕ, ◌<◌, ◌≤◌, ◌^◌, Bool, ◌||◌, List, [], ◌∷◌, refl, sym, ap, ◌∙◌, subst, Option, Some, None, Ok, Err}
use Rattle.std.specs.List.{flat_map, list_any}
use Rattle.std.proofs.lemmas.List.Folds.{list_any-append}
use mathlib.Core.Path.{fun_ext}
use Rattle.addr_bits.specs.Address.{bits_of, address_of}
use Rattle.addr_bits.specs.declared.address.Family.{Family}
use Rattle.addr_bits.specs.declared.address.Family.TheVariants.{V4, V6}
use Rattle.addr_bits.specs.Prefix.{Cidr}
use Rattle.addr_bits.specs.declared.address.Address.{Address}
use Rattle.master_reader.specs.declared.record.Body.{Body}
use Rattle.master_reader.specs.declared.record.Body.TheVariants.{A, Aaaa}
use Rattle.match_sets.specs.Matched.{matches, is_matched}
use Rattle.zone_answers.specs.declared.answer.Question.{Question}
use Rattle.zone_answers.specs.declared.answer.Answer.{Answer}
use Rattle.prefix_trie.specs.Leaves.{value_at}
use Rattle.spf_macros.specs.declared.piece.Piece.{Piece}
use Rattle.spf_grammar.specs.declared.verdict.Verdict.{Verdict}
use Rattle.spf_grammar.specs.declared.policy.Mechanism.TheVariants as mechanism
use Rattle.spf_grammar.specs.declared.policy.Term.TheVariants.{Directive}
use Rattle.spf_model.specs.declared.outcome.Cause.TheVariants as cause
use Rattle.spf_model.specs.declared.outcome.Counts.{Counts}
use Rattle.spf_model.specs.declared.outcome.Outcome.TheVariants.{Unsettled}
use Rattle.spf_model.specs.declared.outcome.Outcome.{Outcome}
use Rattle.spf_model.specs.declared.outcome.Halt.TheVariants.{Ended}
use Rattle.spf_grammar.specs.declared.policy.Mechanism.{Mechanism}
use Rattle.spf_model.specs.declared.outcome.Place.{Place}
use Rattle.spf_model.specs.Run.{Run, Ends, Answering}
use Rattle.spf_model.specs.Judging.{at, counted, void_counted, len_in, body_agrees, answer_bodies, some_agrees, some_void, is_met, gather_common, judge_gathered}
use Rattle.spf_model.specs.Check.{unless_matched}
use Rattle.spf_model.specs.declared.gathered.Gathered.{Gathered}
use Rattle.spf_model.specs.declared.gathered.Hosts.{Hosts}
use Rattle.spf_model.specs.declared.context.RecordContext.{RecordContext}
use Rattle.symbolic_check.specs.declared.state.State.{State}
use Rattle.symbolic_check.specs.Steps.{after_lookup, after_void, after_match, after_failure}
use Rattle.symbolic_check.specs.Walk.{Stretch, Moves, Walks, SomeLive, NoneLive, StepsAt, StepsWith}
use Rattle.spf_model.specs.Leads.{site_of}
use Rattle.spf_model.specs.Settling.{Settles}
use Rattle.symbolic_check.specs.Stretches.{hosts_stretch, own_stretch, term_stretch}
use Rattle.symbolic_check.proofs.Walking.{walks_twice, walks_by_steps}
use Rattle.symbolic_check.proofs.Stepping.{lookup_moves, void_moves, match_moves, failure_moves}
use Rattle.symbolic_check.proofs.Settling.{after_part, walks_idle, walks_passed, walks_stopped}
use Rattle.symbolic_check.proofs.Rows.{walks_by_steps_with}

-- ---- counting

abbrev pub lookup_stretch : RecordContext → ℕ → ℕ → Stretch
lookup_stretch context t a = counted (site_of context) t

pub lookup_walks : (bits : ℕ) (zones : ℕ → Answering) (context : RecordContext) (t : ℕ) (place : Place) (old new : List (Cidr × State)) (asked : List Question)
    → place ≡ record { name = context.name.now; term = t } → StepsAt bits (λ a. after_lookup context.limits place) old new
    → Walks bits zones (lookup_stretch context t) old new asked asked
lookup_walks bits zones context t place old new asked is steps =
    walks_by_steps bits zones (lookup_stretch context t) (λ a. after_lookup context.limits place) old new asked
    (λ a s. subst (λ (p : Place). Moves (zones a) asked (lookup_stretch context t a) s (after_lookup context.limits p s)) (sym is) (lookup_moves (zones a) asked (site_of context) t s)) steps

abbrev void_stretch : RecordContext → ℕ → Bool → ℕ → Stretch
void_stretch context t void a = void_counted (site_of context) t void

void_walks : (bits : ℕ) (zones : ℕ → Answering) (context : RecordContext) (t : ℕ) (place : Place) (void : Bool) (old new : List (Cidr × State)) (asked : List Question)
    → place ≡ record { name = context.name.now; term = t } → StepsAt bits (λ a. after_void context.limits place void) old new
    → Walks bits zones (void_stretch context t void) old new asked asked
void_walks bits zones context t place void old new asked is steps =
    walks_by_steps bits zones (void_stretch context t void) (λ a. after_void context.limits place void) old new asked
    (λ a s. subst (λ (p : Place). Moves (zones a) asked (void_stretch context t void a) s (after_void context.limits p void s)) (sym is) (void_moves (zones a) asked (site_of context) t void s)) steps

-- ---- matching

-- an item of a list of lists passes the test
any_flat : {X Y : Type 0} (p : Y → Bool) (f : X → List Y) (xs : List X) → list_any p (flat_map f xs) ≡ list_any (λ x. list_any p (f x)) xs
any_flat p f [] = refl
any_flat p f (x ∷ xs) = list_any-append p (f x) (flat_map f xs) ∙ ap (λ (b : Bool). list_any p (f x) || b) (any_flat p f xs)

abbrev match_stretch : Verdict → (ℕ → Bool) → ℕ → Stretch
match_stretch verdict matches a counts go = unless_matched verdict go (matches a) counts

-- a set of the addresses that match
set_walks : (bits : ℕ) (zones : ℕ → Answering) (verdict : Verdict) (matches : ℕ → Bool) (set : List (Cidr × Bool)) (old new : List (Cidr × State)) (asked : List Question)
    → ((a : ℕ) → a < 2 ^ bits → value_at bits set a ≡ Some (matches a)) → StepsWith bits (after_match verdict) set old new
    → Walks bits zones (match_stretch verdict matches) old new asked asked
set_walks bits zones verdict matches set old new asked is steps =
    walks_by_steps_with bits zones (match_stretch verdict matches) (after_match verdict) set old new asked
    (λ a u s below e. subst (λ (b : Bool). Moves (zones a) asked (match_stretch verdict matches a) s (after_match verdict b s)) (unsome (sym (is a below) ∙ e)) (match_moves (zones a) asked verdict (matches a) s)) steps
  where
    held : Bool → Option Bool → Bool
    held b None = b
    held b (Some c) = c

    unsome : {b c : Bool} → Some b ≡ Some c → b ≡ c
    unsome {b} {c} e = ap (held b) e

-- ---- the addresses of a family that agree

host_agrees : (f : Family) (len4 len6 a : ℕ) (body : Body) → matches f (len_in f len4 len6) a body ≡ body_agrees len4 len6 (address_of f a) body
host_agrees V4 len4 len6 a (A n) = refl
host_agrees V4 len4 len6 a _ = refl
host_agrees V6 len4 len6 a (Aaaa n) = refl
host_agrees V6 len4 len6 a _ = refl

pub hosts_agree : (f : Family) (len len4 len6 : ℕ) → len ≡ len_in f len4 len6 → (found : Answer) (a : ℕ)
    → is_matched (matches f len a) found ≡ list_any (body_agrees len4 len6 (address_of f a)) (answer_bodies found)
hosts_agree f len len4 len6 is found a =
    ap (λ (test : Body → Bool). list_any test (answer_bodies found)) (fun_ext (λ body. ap (λ (k : ℕ). matches f k a body) is ∙ host_agrees f len4 len6 a body))

pub len_fits : (f : Family) (len4 len6 : ℕ) → len4 ≤ 32 → len6 ≤ 128 → len_in f len4 len6 ≤ bits_of f
len_fits V4 len4 len6 short4 short6 = short4
len_fits V6 len4 len6 short4 short6 = short6

-- all addresses that were found, as one answer
pub agree_as_one : (f : Family) (len len4 len6 : ℕ) → len ≡ len_in f len4 len6 → (found : Answer) (answers : List Answer) (a : ℕ) → answer_bodies found ≡ flat_map answer_bodies answers
    → is_matched (matches f len a) found ≡ some_agrees len4 len6 (address_of f a) answers
agree_as_one f len len4 len6 is found answers a all =
    hosts_agree f len len4 len6 is found a ∙ ap (list_any (body_agrees len4 len6 (address_of f a))) all ∙ any_flat (body_agrees len4 len6 (address_of f a)) answer_bodies answers

-- ---- what a mechanism makes of what it gathered

pub gathered_walk : (bits : ℕ) (zones : ℕ → Answering) (context : RecordContext) (address : ℕ → Address) (t : ℕ) (verdict : Verdict) (m : Mechanism) (gathered : Gathered) (place : Place) (void : Bool)
    (set : List (Cidr × Bool)) (old between new : List (Cidr × State)) (asked : List Question)
    → place ≡ at (site_of context) t → void ≡ some_void gathered → StepsAt bits (λ a. after_void context.limits place void) old between
    → ((a : ℕ) → a < 2 ^ bits → value_at bits set a ≡ Some (is_met m (address a) gathered.answers)) → StepsWith bits (after_match verdict) set between new
    → Walks bits zones (λ a counts go. judge_gathered (site_of context) (address a) t m gathered counts (unless_matched verdict go)) old new asked asked
gathered_walk bits zones context address t verdict m gathered place void set old between new asked at_term voids void_steps is_set match_steps =
    walks_twice bits zones (void_stretch context t (some_void gathered)) (match_stretch verdict (λ a. is_met m (address a) gathered.answers)) old between new asked asked asked
    (subst (λ (b : Bool). Walks bits zones (void_stretch context t b) old between asked asked) voids
    (void_walks bits zones context t place void old between asked at_term void_steps))
    (set_walks bits zones verdict (λ a. is_met m (address a) gathered.answers) set between new asked is_set match_steps)

-- ---- a mechanism that asks for hosts

-- what goes on at an address with the hosts that were found
abbrev judge_at : RecordContext → (ℕ → Address) → ℕ → Verdict → Mechanism → ℕ → Counts → Hosts → (Counts → Run) → Run
judge_at context address t verdict m a counts hosts go = own_stretch address context t verdict m hosts a counts go

pub hosts_idle : (bits : ℕ) (zones : ℕ → Answering) (context : RecordContext) (address : ℕ → Address) (t : ℕ) (verdict : Verdict) (m : Mechanism) (old between : List (Cidr × State)) (asked : List Question)
    → Walks bits zones (lookup_stretch context t) old between asked asked → NoneLive bits between
    → Walks bits zones (hosts_stretch address context t verdict m) old between asked asked
hosts_idle bits zones context address t verdict m old between asked counts none =
    walks_twice bits zones (lookup_stretch context t) (after_part (gather_common (site_of context) t m) (judge_at context address t verdict m)) old between between asked asked asked counts
    (walks_idle bits zones (after_part (gather_common (site_of context) t m) (judge_at context address t verdict m)) between asked none)

pub hosts_stopped : (bits : ℕ) (zones : ℕ → Answering) (context : RecordContext) (address : ℕ → Address) (t : ℕ) (verdict : Verdict) (m : Mechanism) (outcome : Outcome) (old between new : List (Cidr × State)) (asked more : List Question)
    → Walks bits zones (lookup_stretch context t) old between asked asked → SomeLive bits between
    → ((a : ℕ) → Settles (zones a) (gather_common (site_of context) t m) asked more (Err (Ended outcome))) → StepsAt bits (λ a. after_failure outcome) between new
    → Walks bits zones (hosts_stretch address context t verdict m) old new asked more
hosts_stopped bits zones context address t verdict m outcome old between new asked more counts live settles steps =
    walks_twice bits zones (lookup_stretch context t) (after_part (gather_common (site_of context) t m) (judge_at context address t verdict m)) old between new asked asked more counts
    (walks_stopped bits zones (gather_common (site_of context) t m) outcome (judge_at context address t verdict m) between new asked more (λ a. (settles a).0) (λ a. (settles a).1) live steps)

pub hosts_walked : (bits : ℕ) (zones : ℕ → Answering) (context : RecordContext) (address : ℕ → Address) (t : ℕ) (verdict : Verdict) (m : Mechanism) (hosts : Hosts) (old between new : List (Cidr × State)) (asked mid more : List Question)
    → Walks bits zones (lookup_stretch context t) old between asked asked → SomeLive bits between
    → ((a : ℕ) → Settles (zones a) (gather_common (site_of context) t m) asked mid (Ok hosts))
    → Walks bits zones (own_stretch address context t verdict m hosts) between new mid more
    → Walks bits zones (hosts_stretch address context t verdict m) old new asked more
hosts_walked bits zones context address t verdict m hosts old between new asked mid more counts live settles judged =
    walks_twice bits zones (lookup_stretch context t) (after_part (gather_common (site_of context) t m) (judge_at context address t verdict m)) old between new asked asked more counts
    (walks_passed bits zones (gather_common (site_of context) t m) hosts (judge_at context address t verdict m) between new asked mid more (λ a. (settles a).0) (λ a. (settles a).1) live judged)

-- `ptr` is left open
pub ptr_walk : (bits : ℕ) (zones : ℕ → Answering) (context : RecordContext) (address : ℕ → Address) (depth t : ℕ) (verdict : Verdict) (spec : Option (List Piece)) (place : Place) (old between new : List (Cidr × State)) (asked : List Question)
    → Walks bits zones (lookup_stretch context t) old between asked asked → place ≡ record { name = context.name.now; term = t }
    → StepsAt bits (λ a. after_failure (Unsettled cause.Reverse place)) between new
    → Walks bits zones (term_stretch address context depth t (Directive verdict (mechanism.Ptr spec))) old new asked asked
ptr_walk bits zones context address depth t verdict spec place old between new asked f is steps =
    walks_twice bits zones (lookup_stretch context t) (λ a counts go. Ends (Unsettled cause.Reverse (record { name = context.name.now; term = t })) counts) old between new asked asked asked f
    (walks_by_steps bits zones (λ a counts go. Ends (Unsettled cause.Reverse (record { name = context.name.now; term = t })) counts) (λ a. after_failure (Unsettled cause.Reverse place)) between new asked
    (λ a s. subst (λ (p : Place). Moves (zones a) asked (λ counts go. Ends (Unsettled cause.Reverse (record { name = context.name.now; term = t })) counts) s (after_failure (Unsettled cause.Reverse p) s)) (sym is)
    (failure_moves (zones a) asked (Unsettled cause.Reverse (record { name = context.name.now; term = t })) s tt)) steps)
