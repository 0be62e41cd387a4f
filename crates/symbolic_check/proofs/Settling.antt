-- Parts that every address has alike, before a walk.
use Rattle.std.proofs.Common.{◌≡◌, ℕ, false, List, refl, sym, subst, inl, inr, Option, Some, None, IsSomeAnd}
use Rattle.std.proofs.lemmas.Bool.{true≢false}
use Rattle.addr_bits.specs.Prefix.{Cidr}
use Rattle.zone_answers.specs.declared.answer.Question.{Question}
use Rattle.prefix_trie.specs.Leaves.{value_at}
use Rattle.spf_model.specs.declared.outcome.Counts.{Counts}
use Rattle.spf_model.specs.declared.outcome.Outcome.{Outcome}
use Rattle.spf_model.specs.Run.{Run, Answering}
use Rattle.symbolic_check.specs.declared.state.State.{State}
use Rattle.symbolic_check.specs.declared.state.State.TheVariants.{Live, Decided, Failed}
use Rattle.symbolic_check.specs.Steps.{is_live, after_failure}
use Rattle.symbolic_check.specs.Walk.{Stretch, Moves, Walks, SomeLive, NoneLive, StepsAt}
use Rattle.spf_model.specs.Settling.{PartOf, Passes, Stops, Adds}
use Rattle.spf_model.proofs.Following.{follows_more}
use Rattle.spf_model.proofs.Settling.{Within}
use Rattle.symbolic_check.proofs.Walking.{leaves_twice}

-- ---- a part before a walk

-- what goes on at an address with what a part hands on
abbrev pub after_part : {A : Type 0} → PartOf A → (ℕ → Counts → A → (Counts → Run) → Run) → ℕ → Stretch
after_part {A} part next a counts go = part counts (λ (x : A). next a counts x go)

passed_moves : {A : Type 0} (zones : Answering) (asked more : List Question) (part : PartOf A) (x : A) (next : ℕ → Counts → A → (Counts → Run) → Run) (a : ℕ)
    → Within asked more → Passes zones asked part x → (old new : State)
    → Moves zones more (λ counts go. next a counts x go) old new → Moves zones more (after_part part next a) old new
passed_moves {A} zones asked more part x next a within passes (Live c) new h =
    leaves_twice zones more (after_part part next a c) (λ go. next a c x go) new
    (λ go. follows_more zones asked more (part c (λ (y : A). next a c y go)) (next a c x go) within (passes c (λ (y : A). next a c y go))) h
passed_moves zones asked more part x next a within passes (Decided v c) new h = h
passed_moves zones asked more part x next a within passes (Failed o) new h = h

passed_stands : {A : Type 0} (zones : Answering) (asked more : List Question) (part : PartOf A) (x : A) (next : ℕ → Counts → A → (Counts → Run) → Run) (a : ℕ)
    → Within asked more → Passes zones asked part x → (old new : Option State)
    → IsSomeAnd old (λ s. IsSomeAnd new (Moves zones more (λ counts go. next a counts x go) s))
    → IsSomeAnd old (λ s. IsSomeAnd new (Moves zones more (after_part part next a) s))
passed_stands zones asked more part x next a within passes None new h = h
passed_stands zones asked more part x next a within passes (Some s) None h = h
passed_stands zones asked more part x next a within passes (Some s) (Some t) h = passed_moves zones asked more part x next a within passes s t h

-- a part that passes, and a walk over what comes after it
pub walks_passed : {A : Type 0} (bits : ℕ) (zones : ℕ → Answering) (part : PartOf A) (x : A) (next : ℕ → Counts → A → (Counts → Run) → Run)
    (old new : List (Cidr × State)) (asked mid more : List Question)
    → ((a : ℕ) → Passes (zones a) mid part x) → ((a : ℕ) → Adds (zones a) part asked mid) → SomeLive bits old
    → Walks bits zones (λ a counts go. next a counts x go) old new mid more
    → Walks bits zones (λ a counts go. part counts (λ y. next a counts y go)) old new asked more
walks_passed {A} bits zones part x next old new asked mid more passes adds live walks = record {
  each = λ a below. passed_stands (zones a) mid more part x next a walks.kept (passes a) (value_at bits old a) (value_at bits new a) (walks.each a below);
  kept = λ q h. walks.kept q ((adds live.0).kept q h);
  only = λ q h. elim (walks.only q h) [
    | inl here ↦ elim ((adds live.0).only q here) [
      | inl there ↦ inl there
      | inr by ↦ inr (record {
        address = live.0;
        counts = live.1;
        within = live.2;
        live = live.3;
        asks = λ go. by live.1 (λ (y : A). next live.0 live.1 y go);
      })
    ]
    | inr by ↦ inr (record {
      address = by.address;
      counts = by.counts;
      within = by.within;
      live = by.live;
      asks = λ go. (passes by.address by.counts (λ (y : A). next by.address by.counts y go)).asks q (by.asks go);
    })
  ];
}

stopped_moves : {A : Type 0} (zones : Answering) (asked : List Question) (part : PartOf A) (outcome : Outcome) (next : ℕ → Counts → A → (Counts → Run) → Run) (a : ℕ)
    → Stops zones asked part outcome → (old : State) → Moves zones asked (after_part part next a) old (after_failure outcome old)
stopped_moves {A} zones asked part outcome next a stops (Live c) = (stops.0, λ go. (c, stops.1 c (λ (y : A). next a c y go)))
stopped_moves zones asked part outcome next a stops (Decided v c) = refl
stopped_moves zones asked part outcome next a stops (Failed o) = refl

stopped_stands : {A : Type 0} (zones : Answering) (asked : List Question) (part : PartOf A) (outcome : Outcome) (next : ℕ → Counts → A → (Counts → Run) → Run) (a : ℕ)
    → Stops zones asked part outcome → (old new : Option State)
    → IsSomeAnd old (λ s. new ≡ Some (after_failure outcome s)) → IsSomeAnd old (λ s. IsSomeAnd new (Moves zones asked (after_part part next a) s))
stopped_stands zones asked part outcome next a stops None new h = h
stopped_stands zones asked part outcome next a stops (Some s) new h =
    subst (λ n. IsSomeAnd n (Moves zones asked (after_part part next a) s)) (sym h) (stopped_moves zones asked part outcome next a stops s)

-- a part that stops ends the walk at each live address, whatever comes after it
pub walks_stopped : {A : Type 0} (bits : ℕ) (zones : ℕ → Answering) (part : PartOf A) (outcome : Outcome) (next : ℕ → Counts → A → (Counts → Run) → Run)
    (old new : List (Cidr × State)) (asked mid : List Question)
    → ((a : ℕ) → Stops (zones a) mid part outcome) → ((a : ℕ) → Adds (zones a) part asked mid) → SomeLive bits old → StepsAt bits (λ a. after_failure outcome) old new
    → Walks bits zones (λ a counts go. part counts (λ y. next a counts y go)) old new asked mid
walks_stopped {A} bits zones part outcome next old new asked mid stops adds live steps = record {
  each = λ a below. stopped_stands (zones a) mid part outcome next a (stops a) (value_at bits old a) (value_at bits new a) (steps a below);
  kept = (adds live.0).kept;
  only = λ q h. elim ((adds live.0).only q h) [
    | inl here ↦ inl here
    | inr by ↦ inr (record {
      address = live.0;
      counts = live.1;
      within = live.2;
      live = live.3;
      asks = λ go. by live.1 (λ (y : A). next live.0 live.1 y go);
    })
  ];
}

-- ---- where no address is live

idle_moves : (zones : Answering) (asked : List Question) (stretch : Stretch) (old : State) → is_live old ≡ false → Moves zones asked stretch old old
idle_moves zones asked stretch (Live c) h = absurd (true≢false h)
idle_moves zones asked stretch (Decided v c) h = refl
idle_moves zones asked stretch (Failed o) h = refl

idle_stands : (zones : Answering) (asked : List Question) (stretch : Stretch) (old : Option State)
    → IsSomeAnd old (λ s. is_live s ≡ false) → IsSomeAnd old (λ s. IsSomeAnd old (Moves zones asked stretch s))
idle_stands zones asked stretch None h = h
idle_stands zones asked stretch (Some s) h = idle_moves zones asked stretch s h

-- every stretch is a walk there
pub walks_idle : (bits : ℕ) (zones : ℕ → Answering) (stretch : ℕ → Stretch) (states : List (Cidr × State)) (asked : List Question)
    → NoneLive bits states → Walks bits zones stretch states states asked asked
walks_idle bits zones stretch states asked none = record {
  each = λ a below. idle_stands (zones a) asked (stretch a) (value_at bits states a) (none a below);
  kept = λ q h. h;
  only = λ q h. inl h;
}
