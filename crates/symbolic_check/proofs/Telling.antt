-- The tests of equality of states and of outcomes tell values apart.
use Rattle.std.proofs.Common.{rules, ◌≡◌, ℕ, ◌&&◌, ◌==◌, true, false, List, refl, ap, ap₂}
use Rattle.std.proofs.lemmas.Bool.{and_parts, both_ways}
use Rattle.std.proofs.lemmas.Bool.Decides.{Decides-eqb}
use Rattle.std.specs.Prelude.{bytes_eq}
use Rattle.std.specs.Cmp.Lexicographic.{pointwise}
use denote.Enum.Bare.{same_true}
use Rattle.dns_name.proofs.Names.{same_name_decides}
use Rattle.spf_grammar.specs.contracts.verdict.Verdict as verdict_declared
use Rattle.spf_grammar.specs.contracts.verdict.VerdictPartialEq.TheImpl as verdict_test
use Rattle.spf_model.specs.declared.outcome.Cause.{Cause}
use Rattle.spf_model.specs.contracts.outcome.Cause as cause_declared
use Rattle.spf_model.specs.contracts.outcome.CausePartialEq.TheImpl as cause_test
use Rattle.spf_model.specs.declared.outcome.Counts.{Counts}
use Rattle.spf_model.specs.contracts.outcome.CountsPartialEq.TheImpl as counts_test
use Rattle.spf_model.specs.declared.outcome.Place.{Place}
use Rattle.spf_model.specs.contracts.outcome.PlacePartialEq.TheImpl as place_test
use Rattle.spf_model.specs.declared.outcome.Outcome.{Outcome}
use Rattle.spf_model.specs.declared.outcome.Outcome.TheVariants.{Nothing, Is, Perm, Temp, Unsettled}
use Rattle.spf_model.specs.contracts.outcome.OutcomePartialEq.TheImpl as outcome_test
use Rattle.symbolic_check.specs.declared.state.State.TheVariants.{Live, Decided, Failed}
use Rattle.symbolic_check.specs.contracts.state.StatePartialEq.TheImpl as state_test
use Rattle.symbolic_check.proofs.Combining.{Tells}

counts_tell : Tells counts_test.eq-value.it
counts_tell c d h =
    let parts = and_parts (c.lookups == d.lookups) (c.voids == d.voids) h in
    ap₂ (λ (l v : ℕ). let counts : Counts = record { lookups = l; voids = v } in counts) ((Decides-eqb c.lookups d.lookups).0 parts.0) ((Decides-eqb c.voids d.voids).0 parts.1)

place_tells : Tells place_test.eq-value.it
place_tells p q h =
    let parts = and_parts (pointwise bytes_eq p.name q.name) (p.term == q.term) h in
    ap₂ (λ (n : List (List ℕ)) (t : ℕ). let place : Place = record { name = n; term = t } in place) ((same_name_decides p.name q.name).0 parts.0) ((Decides-eqb p.term q.term).0 parts.1)

verdict_tells : Tells verdict_test.eq-value.it
verdict_tells v w h = same_true verdict_declared.the_type (search rules) _ _ h

cause_tells : Tells cause_test.eq-value.it
cause_tells c d h = same_true cause_declared.the_type (search rules) _ _ h

caused : (make : Cause → Place → Outcome) (c d : Cause) (p q : Place) → cause_test.eq-value.it c d && place_test.eq-value.it p q ≡ true → make c p ≡ make d q
caused make c d p q h =
    let parts = and_parts (cause_test.eq-value.it c d) (place_test.eq-value.it p q) h in
    ap₂ make (cause_tells c d parts.0) (place_tells p q parts.1)

pub outcome_tells : Tells outcome_test.eq-value.it
outcome_tells (Nothing p) (Nothing q) h = ap Nothing (place_tells p q h)
outcome_tells (Nothing p) (Is w) h = absurd (both_ways false refl h)
outcome_tells (Nothing p) (Perm d q) h = absurd (both_ways false refl h)
outcome_tells (Nothing p) (Temp d q) h = absurd (both_ways false refl h)
outcome_tells (Nothing p) (Unsettled d q) h = absurd (both_ways false refl h)
outcome_tells (Is v) (Nothing q) h = absurd (both_ways false refl h)
outcome_tells (Is v) (Is w) h = ap Is (verdict_tells v w h)
outcome_tells (Is v) (Perm d q) h = absurd (both_ways false refl h)
outcome_tells (Is v) (Temp d q) h = absurd (both_ways false refl h)
outcome_tells (Is v) (Unsettled d q) h = absurd (both_ways false refl h)
outcome_tells (Perm c p) (Nothing q) h = absurd (both_ways false refl h)
outcome_tells (Perm c p) (Is w) h = absurd (both_ways false refl h)
outcome_tells (Perm c p) (Perm d q) h = caused Perm c d p q h
outcome_tells (Perm c p) (Temp d q) h = absurd (both_ways false refl h)
outcome_tells (Perm c p) (Unsettled d q) h = absurd (both_ways false refl h)
outcome_tells (Temp c p) (Nothing q) h = absurd (both_ways false refl h)
outcome_tells (Temp c p) (Is w) h = absurd (both_ways false refl h)
outcome_tells (Temp c p) (Perm d q) h = absurd (both_ways false refl h)
outcome_tells (Temp c p) (Temp d q) h = caused Temp c d p q h
outcome_tells (Temp c p) (Unsettled d q) h = absurd (both_ways false refl h)
outcome_tells (Unsettled c p) (Nothing q) h = absurd (both_ways false refl h)
outcome_tells (Unsettled c p) (Is w) h = absurd (both_ways false refl h)
outcome_tells (Unsettled c p) (Perm d q) h = absurd (both_ways false refl h)
outcome_tells (Unsettled c p) (Temp d q) h = absurd (both_ways false refl h)
outcome_tells (Unsettled c p) (Unsettled d q) h = caused Unsettled c d p q h

pub state_tells : Tells state_test.eq-value.it
state_tells (Live c) (Live d) h = ap Live (counts_tell c d h)
state_tells (Live c) (Decided w d) h = absurd (both_ways false refl h)
state_tells (Live c) (Failed p) h = absurd (both_ways false refl h)
state_tells (Decided v c) (Live d) h = absurd (both_ways false refl h)
state_tells (Decided v c) (Decided w d) h =
    let parts = and_parts (verdict_test.eq-value.it v w) (counts_test.eq-value.it c d) h in
    ap₂ Decided (verdict_tells v w parts.0) (counts_tell c d parts.1)
state_tells (Decided v c) (Failed p) h = absurd (both_ways false refl h)
state_tells (Failed o) (Live d) h = absurd (both_ways false refl h)
state_tells (Failed o) (Decided w d) h = absurd (both_ways false refl h)
state_tells (Failed o) (Failed p) h = ap Failed (outcome_tells o p h)
