-- The evaluation of a family, from a walk over its record.
use Rattle.std.proofs.Common.{◌≡◌, ℕ, ◌+◌, suc, ◌<◌, ◌^◌, List, refl, sym, subst, inl, inr, ◌∙◌, arith, Contains, Option, Some, None, IsSomeAnd}
use Rattle.std.specs.Prelude.{option_map}
use Rattle.addr_bits.specs.Prefix.{Cidr}
use Rattle.addr_bits.specs.declared.address.Address.{Address}
use Rattle.zone_answers.specs.declared.answer.Question.{Question}
use Rattle.prefix_trie.specs.Leaves.{value_at}
use Rattle.spf_grammar.specs.declared.verdict.Verdict.TheVariants.{Neutral}
use Rattle.spf_model.specs.declared.outcome.Counts.{Counts}
use Rattle.spf_model.specs.declared.outcome.Outcome.{Outcome}
use Rattle.spf_model.specs.declared.outcome.Outcome.TheVariants.{Is}
use Rattle.spf_model.specs.Check.{check, check_host}
use Rattle.spf_model.specs.Run.{Run, Ends, Answering, EndsWith, AsksFor}
use Rattle.spf_model.specs.declared.context.RecordContext.{RecordContext}
use Rattle.symbolic_check.specs.declared.state.State.{State}
use Rattle.symbolic_check.specs.declared.state.State.TheVariants.{Live, Decided, Failed}
use Rattle.symbolic_check.specs.Steps.{outcome_of}
use Rattle.spf_model.specs.Settling.{Follows}
use Rattle.symbolic_check.specs.Walk.{Leaves, Moves, Walks}
use Rattle.symbolic_check.specs.Stretches.{record_stretch}
use Rattle.symbolic_check.specs.Families.{run_at, AreEndsOf}
use Rattle.symbolic_check.proofs.Targets.{never_live}

-- what a run leaves that goes on nowhere is its end
over : (zones : Answering) (asked : List Question) (run : Run) (state : State) → Leaves zones asked (λ go. run) state
    → (counts : Counts) × Follows zones asked run (Ends (outcome_of state) counts)
over zones asked run (Live c) h = absurd (never_live zones asked run c h)
over zones asked run (Decided v c) h = (c, h (Ends (Is Neutral)))
over zones asked run (Failed o) h = h.1 (Ends (Is Neutral))

-- how the run ends at an address, and that all its questions were asked
abbrev pub IsOver : Answering → List Question → Run → Option Outcome → Type 0
IsOver zones asked run end =
    IsSomeAnd end (λ outcome. (counts : Counts) × EndsWith zones run outcome counts) × ((question : Question) → AsksFor zones run question → Contains asked question)

over_at : (zones : Answering) (asked : List Question) (run : Counts → Run) (begin : Counts) (old new : Option State) (end : Option Outcome)
    → old ≡ Some (Live begin) → IsSomeAnd old (λ s. IsSomeAnd new (Moves zones asked (λ counts go. run counts) s)) → end ≡ option_map outcome_of new
    → IsOver zones asked (run begin) end
over_at zones asked run begin old None end e h ends = absurd (subst (λ o. IsSomeAnd o (λ s. IsSomeAnd None (Moves zones asked (λ counts go. run counts) s))) e h)
over_at zones asked run begin old (Some state) end e h ends =
    let moved = subst (λ o. IsSomeAnd o (λ s. IsSomeAnd (Some state) (Moves zones asked (λ counts go. run counts) s))) e h in
    let found = over zones asked (run begin) state moved in (
      subst (λ o. IsSomeAnd o (λ outcome. (counts : Counts) × EndsWith zones (run begin) outcome counts)) (sym ends)
          (found.0, (found.1.ends (outcome_of state) found.0).0 (refl, refl)),
      λ q asks. elim (found.1.covers q asks) [ inl here ↦ here | inr later ↦ absurd later ],
    )

same_counts : {c d : Counts} → Some (Live c) ≡ Some (Live d) → c ≡ d
same_counts e = cc

ends_of_walk : (bits : ℕ) (zones : ℕ → Answering) (run : ℕ → Counts → Run) (begin : Counts) (old new : List (Cidr × State)) (ends : List (Cidr × Outcome)) (asked more : List Question)
    → ((a : ℕ) → a < 2 ^ bits → value_at bits old a ≡ Some (Live begin))
    → Walks bits zones (λ a counts go. run a counts) old new asked more
    → ((a : ℕ) → a < 2 ^ bits → value_at bits ends a ≡ option_map outcome_of (value_at bits new a))
    → AreEndsOf bits zones (λ a. run a begin) ends asked more
ends_of_walk bits zones run begin old new ends asked more whole walk made = record {
  each = λ a below. (at a below).0;
  kept = walk.kept;
  only = λ q h. elim (walk.only q h) [
    | inl here ↦ inl here
    | inr by ↦ inr (
      by.address,
      by.within,
      subst (λ c. AsksFor (zones by.address) (run by.address c) q) (same_counts (sym by.live ∙ whole by.address by.within)) (by.asks (Ends (Is Neutral))),
    )
  ];
  covers = λ q h. (at h.0 h.1).1 q h.2;
}
  where
    at : (a : ℕ) → a < 2 ^ bits → IsOver (zones a) more (run a begin) (value_at bits ends a)
    at a below = over_at (zones a) more (run a) begin (value_at bits old a) (value_at bits new a) (value_at bits ends a) (whole a below) (walk.each a below) (made a below)

pub family_ends : (bits : ℕ) (zones : ℕ → Answering) (address : ℕ → Address) (context : RecordContext) (old new : List (Cidr × State)) (ends : List (Cidr × Outcome)) (asked more : List Question)
    → ((a : ℕ) → a < 2 ^ bits → value_at bits old a ≡ Some (Live (record { lookups = 0; voids = 0 })))
    → Walks bits zones (record_stretch address context (context.limits.lookups + 1)) old new asked more
    → ((a : ℕ) → a < 2 ^ bits → value_at bits ends a ≡ option_map outcome_of (value_at bits new a))
    → AreEndsOf bits zones (run_at address context) ends asked more
unfolding check_host
family_ends bits zones address context old new ends asked more whole walk made =
    let deeper : context.limits.lookups + 1 ≡ suc context.limits.lookups = omega arith in
    ends_of_walk bits zones (λ a counts. check context.limits (address a) (suc context.limits.lookups) context.domain.now context.name.now counts) (record { lookups = 0; voids = 0 })
    old new ends asked more whole
    (subst (λ (depth : ℕ). Walks bits zones (record_stretch address context depth) old new asked more) deeper walk) made
