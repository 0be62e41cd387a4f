-- Walks one after the other.
use Rattle.std.proofs.Common.{◌≡◌, ℕ, List, refl, sym, subst, inl, inr, Option, Some, None, IsSomeAnd}
use Rattle.addr_bits.specs.Prefix.{Cidr}
use Rattle.zone_answers.specs.declared.answer.Question.{Question}
use Rattle.prefix_trie.specs.Leaves.{value_at}
use Rattle.spf_grammar.specs.declared.verdict.Verdict.{Verdict}
use Rattle.spf_model.specs.declared.outcome.Counts.{Counts}
use Rattle.spf_model.specs.declared.outcome.Outcome.{Outcome}
use Rattle.spf_model.specs.declared.outcome.Outcome.TheVariants.{Is}
use Rattle.spf_model.specs.Run.{Run, Ends, Answering, AsksFor}
use Rattle.symbolic_check.specs.declared.state.State.{State}
use Rattle.symbolic_check.specs.declared.state.State.TheVariants.{Live, Decided, Failed}
use Rattle.spf_model.specs.Settling.{Follows}
use Rattle.symbolic_check.specs.Walk.{Leaves, Part, Stretch, Moves, Walks, then_stretch, StepsAt}
use Rattle.spf_model.proofs.Settling.{Within}
use Rattle.spf_model.proofs.Following.{follows_itself, follows_twice, follows_more}

-- a stretch hands its counts on, and another goes on from there
pub leaves_twice : (zones : Answering) (asked : List Question) (first next : Part) (new : State)
    → ((go : Counts → Run) → Follows zones asked (first go) (next go)) → Leaves zones asked next new → Leaves zones asked first new
leaves_twice zones asked first next (Live e) f g = λ go. follows_twice zones asked (first go) (next go) (go e) (f go) (g go)
leaves_twice zones asked first next (Decided v e) f g = λ go. follows_twice zones asked (first go) (next go) (Ends (Is v) e) (f go) (g go)
leaves_twice zones asked first next (Failed o) f g =
    (g.0, λ go. ((g.1 go).0, follows_twice zones asked (first go) (next go) (Ends o (g.1 go).0) (f go) (g.1 go).1))

-- so where both are the same run, whatever comes after
pub leaves_same : (zones : Answering) (asked : List Question) (first next : Part) (new : State)
    → ((go : Counts → Run) → first go ≡ next go) → Leaves zones asked next new → Leaves zones asked first new
leaves_same zones asked first next new same = leaves_twice zones asked first next new
    (λ go. subst (λ run. Follows zones asked (first go) run) (same go) (follows_itself zones asked (first go)))

-- one address moves twice
moves_twice : (zones : Answering) (asked more : List Question) (first next : Stretch) → Within asked more → (old mid new : State)
    → Moves zones asked first old mid → Moves zones more next mid new → Moves zones more (then_stretch first next) old new
moves_twice zones asked more first next within (Live c) (Live d) new h g =
    leaves_twice zones more (then_stretch first next c) (next d) new
    (λ go. follows_more zones asked more (first c (λ b. next b go)) (next d go) within (h (λ b. next b go))) g
moves_twice zones asked more first next within (Live c) (Decided v d) new h g =
    subst (λ s. Leaves zones more (then_stretch first next c) s) (sym g)
    (λ go. follows_more zones asked more (first c (λ b. next b go)) (Ends (Is v) d) within (h (λ b. next b go)))
moves_twice zones asked more first next within (Live c) (Failed o) new h g =
    subst (λ s. Leaves zones more (then_stretch first next c) s) (sym g) (
      h.0,
      λ go. let there = h.1 (λ b. next b go) in
          (there.0, follows_more zones asked more (first c (λ b. next b go)) (Ends o there.0) within there.1),
    )
moves_twice zones asked more first next within (Decided v c) mid new h g = subst (λ s. Moves zones more next s new) h g
moves_twice zones asked more first next within (Failed o) mid new h g = subst (λ s. Moves zones more next s new) h g

-- and so does what stands at it
stands_twice : (zones : Answering) (asked more : List Question) (first next : Stretch) → Within asked more → (old mid new : Option State)
    → IsSomeAnd old (λ s. IsSomeAnd mid (Moves zones asked first s)) → IsSomeAnd mid (λ s. IsSomeAnd new (Moves zones more next s))
    → IsSomeAnd old (λ s. IsSomeAnd new (Moves zones more (then_stretch first next) s))
stands_twice zones asked more first next within None mid new h g = h
stands_twice zones asked more first next within (Some s) None new h g = absurd h
stands_twice zones asked more first next within (Some s) (Some t) None h g = g
stands_twice zones asked more first next within (Some s) (Some t) (Some u) h g = moves_twice zones asked more first next within s t u h g

-- an address that is live after a stretch was live before it
abbrev pub WasLive : Answering → List Question → Stretch → Option State → Counts → Type 0
WasLive zones asked first old d = (c : Counts) × (old ≡ Some (Live c)) × ((go : Counts → Run) → Follows zones asked (first c go) (go d))

live_not_decided : {c d : Counts} {v : Verdict} → Live d ≡ Decided v c → ⊥
live_not_decided e = cc

live_not_failed : {d : Counts} {o : Outcome} → Live d ≡ Failed o → ⊥
live_not_failed e = cc

live_from : (zones : Answering) (asked : List Question) (first : Stretch) (old : State) (d : Counts) → Moves zones asked first old (Live d) → WasLive zones asked first (Some old) d
live_from zones asked first (Live c) d h = (c, refl, h)
live_from zones asked first (Decided v c) d h = absurd (live_not_decided h)
live_from zones asked first (Failed o) d h = absurd (live_not_failed h)

live_before : (zones : Answering) (asked : List Question) (first : Stretch) (old mid : Option State) (d : Counts) → mid ≡ Some (Live d)
    → IsSomeAnd old (λ s. IsSomeAnd mid (Moves zones asked first s)) → WasLive zones asked first old d
live_before zones asked first None mid d e h = absurd h
live_before zones asked first (Some s) mid d e h = live_from zones asked first s d (subst (λ m. IsSomeAnd m (Moves zones asked first s)) e h)

-- two walks one after the other are a walk over both stretches
pub walks_twice : (bits : ℕ) (zones : ℕ → Answering) (first next : ℕ → Stretch) (old mid new : List (Cidr × State)) (asked between more : List Question)
    → Walks bits zones first old mid asked between → Walks bits zones next mid new between more
    → Walks bits zones (λ a. then_stretch (first a) (next a)) old new asked more
walks_twice bits zones first next old mid new asked between more f g = record {
  each = λ a below. stands_twice (zones a) between more (first a) (next a) g.kept (value_at bits old a) (value_at bits mid a) (value_at bits new a) (f.each a below) (g.each a below);
  kept = λ q h. g.kept q (f.kept q h);
  only = λ q h. elim (g.only q h) [
    | inl here ↦ elim (f.only q here) [
      | inl there ↦ inl there
      | inr by ↦ inr (record { address = by.address; counts = by.counts; within = by.within; live = by.live; asks = λ go. by.asks (λ b. next by.address b go) })
    ]
    | inr by ↦
        let was = live_before (zones by.address) between (first by.address) (value_at bits old by.address) (value_at bits mid by.address) by.counts by.live (f.each by.address by.within) in
        inr (record {
          address = by.address;
          counts = was.0;
          within = by.within;
          live = was.1;
          asks = λ go. (was.2 (λ b. next by.address b go)).asks q (by.asks go);
        })
  ];
}

-- ---- the same stretch

-- one address moves over a stretch as over another that is the same run
moves_alike : (zones : Answering) (asked : List Question) (first next : Stretch) (old new : State)
    → ((c : Counts) (go : Counts → Run) → first c go ≡ next c go) → Moves zones asked next old new → Moves zones asked first old new
moves_alike zones asked first next (Live c) new same h = leaves_same zones asked (first c) (next c) new (same c) h
moves_alike zones asked first next (Decided v c) new same h = h
moves_alike zones asked first next (Failed o) new same h = h

stands_alike : (zones : Answering) (asked : List Question) (first next : Stretch) (old new : Option State)
    → ((c : Counts) (go : Counts → Run) → first c go ≡ next c go)
    → IsSomeAnd old (λ s. IsSomeAnd new (Moves zones asked next s)) → IsSomeAnd old (λ s. IsSomeAnd new (Moves zones asked first s))
stands_alike zones asked first next None new same h = h
stands_alike zones asked first next (Some s) None same h = h
stands_alike zones asked first next (Some s) (Some u) same h = moves_alike zones asked first next s u same h

pub walks_alike : (bits : ℕ) (zones : ℕ → Answering) (first next : ℕ → Stretch) (old new : List (Cidr × State)) (asked more : List Question)
    → ((a : ℕ) (c : Counts) (go : Counts → Run) → first a c go ≡ next a c go)
    → Walks bits zones next old new asked more → Walks bits zones first old new asked more
walks_alike bits zones first next old new asked more same walks = record {
  each = λ a below. stands_alike (zones a) more (first a) (next a) (value_at bits old a) (value_at bits new a) (same a) (walks.each a below);
  kept = walks.kept;
  only = λ q h. elim (walks.only q h) [
    | inl here ↦ inl here
    | inr by ↦ inr (record {
      address = by.address;
      counts = by.counts;
      within = by.within;
      live = by.live;
      asks = λ go. subst (λ (run : Run). AsksFor (zones by.address) run q) (sym (same by.address by.counts go)) (by.asks go);
    })
  ];
}

-- ---- steps

-- a step that asks nothing is a walk, where each value that it makes is what the stretch leaves
stands_stepped : (zones : Answering) (asked : List Question) (stretch : Stretch) (step : State → State)
    → ((s : State) → Moves zones asked stretch s (step s)) → (old new : Option State)
    → IsSomeAnd old (λ s. new ≡ Some (step s)) → IsSomeAnd old (λ s. IsSomeAnd new (Moves zones asked stretch s))
stands_stepped zones asked stretch step moves None new h = h
stands_stepped zones asked stretch step moves (Some s) new h = subst (λ n. IsSomeAnd n (Moves zones asked stretch s)) (sym h) (moves s)

pub walks_by_steps : (bits : ℕ) (zones : ℕ → Answering) (stretch : ℕ → Stretch) (step : ℕ → State → State) (old new : List (Cidr × State)) (asked : List Question)
    → ((a : ℕ) (s : State) → Moves (zones a) asked (stretch a) s (step a s)) → StepsAt bits step old new → Walks bits zones stretch old new asked asked
walks_by_steps bits zones stretch step old new asked moves steps = record {
  each = λ a below. stands_stepped (zones a) asked (stretch a) (step a) (moves a) (value_at bits old a) (value_at bits new a) (steps a below);
  kept = λ q h. h;
  only = λ q h. inl h;
}
