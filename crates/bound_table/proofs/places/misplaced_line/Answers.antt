use Rattle.std.proofs.Common.{◌≡◌, ◌<◌, ◌≤◌, length, List, sym, subst, ◌⊎◌, inl, inr, None, arith}
use Rattle.std.proofs.lemmas.Bool.{both_ways}
use Rattle.bound_table.specs.Judging.{AgreeAt, IsMisplacedAnswer}
use Rattle.bound_table.specs.Placed.{PlacedRow, HasRisingLines, line_at}
use Rattle.bound_table.specs.Rounds.{in_order, IsFirst, IsMisplaced}
use Rattle.bound_table.proofs.PlaceLemmas.{four_on, six_on, next_six, four_wrong, six_wrong, all_in_order, total_misplaced}
use Rattle.bound_table.proofs.places.misplaced_line.Goals.{then-at4-rows4, else-at4-rows4+then-at6-rows6, then-at4-mixed4-via-then-at4-mixed4, then-at4-mixed4-via-else-at4-mixed4+then-not-agree-2, else-at4-mixed4-2-via-then-at4-mixed4-2+else-at6-mixed6, else-at4-mixed4-2-via-else-at4-mixed4-2}
use Rattle.bound_table.proofs.places.misplaced_line.Goals as goal

-- what holds of lists holds of equal ones
moved : (P : List PlacedRow → List PlacedRow → Type 0) {x y u v : List PlacedRow} → x ≡ y → u ≡ v → P x u → P y v
moved P {x = x} {v = v} e f p = subst (λ t. P t v) e (subst (λ t. P x t) f p)

pub returns-then-not-agree : goal.returns-then-not-agree
returns-then-not-agree c =
    let last = c.args.t.now.last in
    let r4 = c.as_slice-rows4.result.now in
    let r6 = c.as_slice-rows6.result.now in
    let lt : line_at r4 last c.loop-at4.at4 < line_at r6 last c.loop-at4.at6 = omega (arith, c.if-line4-line6.true, c.line_at-line4.ensures, c.line_at-line6.ensures) in
    let rise = moved (λ x y. HasRisingLines x y last) (sym c.as_slice-rows4.ensures) (sym c.as_slice-rows6.ensures) c.requires.rising in
    let wrong = four_wrong c.args.mixed4.now c.args.mixed6.now r4 r6 last c.loop-at4.at4 c.loop-at4.at6 rise c.loop-at4.invariant lt (λ h. both_ways c.agree.result c.if-not-agree.true (c.agree.ensures.1 h)) in
    moved (λ x y. IsFirst (IsMisplaced (in_order c.args.mixed4.now c.args.mixed6.now) x y last) c.line_at-line4.result) c.as_slice-rows4.ensures c.as_slice-rows6.ensures
    (subst (IsFirst (IsMisplaced (in_order c.args.mixed4.now c.args.mixed6.now) r4 r6 last)) (sym c.line_at-line4.ensures) wrong)

pub loop-at4-preserved-then-line4-line6 : goal.loop-at4-preserved-then-line4-line6
loop-at4-preserved-then-line4-line6 c =
    let last = c.args.t.now.last in
    let r4 = c.as_slice-rows4.result.now in
    let r6 = c.as_slice-rows6.result.now in
    let lt : line_at r4 last c.loop-at4.at4 < line_at r6 last c.loop-at4.at6 = omega (arith, c.if-line4-line6.true, c.line_at-line4.ensures, c.line_at-line6.ensures) in
    four_on c.args.mixed4.now c.args.mixed6.now r4 r6 last c.loop-at4.at4 c.loop-at4.at6 c.loop-at4.invariant lt (c.agree.ensures.0 c.if-not-agree.false)

pub returns-then-at4-mixed4 : goal.returns-then-at4-mixed4
returns-then-at4-mixed4 c =
    let last = c.args.t.now.last in
    let r4 = c.as_slice-rows4.result.now in
    let r6 = c.as_slice-rows6.result.now in
    let le : line_at r6 last c.loop-at4.at6 ≤ line_at r4 last c.loop-at4.at4 = omega (arith, c.if-line4-line6.false, c.line_at-line4.ensures, c.line_at-line6.ensures) in
    let rise = moved (λ x y. HasRisingLines x y last) (sym c.as_slice-rows4.ensures) (sym c.as_slice-rows6.ensures) c.requires.rising in
    let more : (c.loop-at4.at4 < length r4) ⊎ (c.loop-at4.at6 < length r6) =
    elim c.if-at4-rows4.branch as (λ _. (c.loop-at4.at4 < length r4) ⊎ (c.loop-at4.at6 < length r6)) [ then-at4-rows4 w ↦ inl w.if-at4-rows4.true | else-at4-rows4+then-at6-rows6 w ↦ inr w.if-at6-rows6.true ] in
    let next = next_six r4 r6 last c.loop-at4.at4 c.loop-at4.at6 rise more le in
    let differs : length c.args.mixed4.now ≤ c.loop-at4.at4 → AgreeAt r6 c.args.mixed6.now c.loop-at4.at6 → ⊥ = λ whole h.
    elim c.then-at4-mixed4.branch as (λ _. ⊥) [
      | then-at4-mixed4-via-then-at4-mixed4 w ↦ absurd (omega (arith, whole, w.if-at4-mixed4.true))
      | then-at4-mixed4-via-else-at4-mixed4+then-not-agree-2 w ↦ both_ways w.agree-else-at4-mixed4.result w.if-not-agree-2.true (w.agree-else-at4-mixed4.ensures.1 h)
    ] in
    let wrong = six_wrong c.args.mixed4.now c.args.mixed6.now r4 r6 last c.loop-at4.at4 c.loop-at4.at6 rise c.loop-at4.invariant next.0 next.1 differs in
    moved (λ x y. IsFirst (IsMisplaced (in_order c.args.mixed4.now c.args.mixed6.now) x y last) c.line_at-line6.result) c.as_slice-rows4.ensures c.as_slice-rows6.ensures
    (subst (IsFirst (IsMisplaced (in_order c.args.mixed4.now c.args.mixed6.now) r4 r6 last)) (sym c.line_at-line6.ensures) wrong)

pub loop-at4-preserved : goal.loop-at4-preserved
loop-at4-preserved c =
    let last = c.args.t.now.last in
    let r4 = c.as_slice-rows4.result.now in
    let r6 = c.as_slice-rows6.result.now in
    let le : line_at r6 last c.loop-at4.at6 ≤ line_at r4 last c.loop-at4.at4 = omega (arith, c.if-line4-line6.false, c.line_at-line4.ensures, c.line_at-line6.ensures) in
    let rise = moved (λ x y. HasRisingLines x y last) (sym c.as_slice-rows4.ensures) (sym c.as_slice-rows6.ensures) c.requires.rising in
    let more : (c.loop-at4.at4 < length r4) ⊎ (c.loop-at4.at6 < length r6) =
    elim c.if-at4-rows4.branch as (λ _. (c.loop-at4.at4 < length r4) ⊎ (c.loop-at4.at6 < length r6)) [ then-at4-rows4 w ↦ inl w.if-at4-rows4.true | else-at4-rows4+then-at6-rows6 w ↦ inr w.if-at6-rows6.true ] in
    let next = next_six r4 r6 last c.loop-at4.at4 c.loop-at4.at6 rise more le in
    six_on c.args.mixed4.now c.args.mixed6.now r4 r6 last c.loop-at4.at4 c.loop-at4.at6 c.loop-at4.invariant next.1 c.if-at4-mixed4.false (c.agree-else-at4-mixed4.ensures.0 c.if-not-agree-2.false)

pub returns-then-at6-mixed6 : goal.returns-then-at6-mixed6
returns-then-at6-mixed6 c =
    let last = c.args.t.now.last in
    let r4 = c.as_slice-rows4.result.now in
    let r6 = c.as_slice-rows6.result.now in
    let rise = moved (λ x y. HasRisingLines x y last) (sym c.as_slice-rows4.ensures) (sym c.as_slice-rows6.ensures) c.requires.rising in
    let all = all_in_order c.args.mixed4.now c.args.mixed6.now r4 r6 last c.loop-at4.at4 c.loop-at4.at6 rise c.loop-at4.invariant c.if-at4-rows4.false c.if-at6-rows6.false c.if-at4-mixed4-2.true c.if-at6-mixed6.true in
    moved (λ x y. IsMisplacedAnswer c.args.mixed4.now c.args.mixed6.now x y last None) c.as_slice-rows4.ensures c.as_slice-rows6.ensures all

pub returns-else-at4-mixed4-2 : goal.returns-else-at4-mixed4-2
returns-else-at4-mixed4-2 c =
    let last = c.args.t.now.last in
    let r4 = c.as_slice-rows4.result.now in
    let r6 = c.as_slice-rows6.result.now in
    let rise = moved (λ x y. HasRisingLines x y last) (sym c.as_slice-rows4.ensures) (sym c.as_slice-rows6.ensures) c.requires.rising in
    let differs : c.loop-at4.at4 ≡ length c.args.mixed4.now → c.loop-at4.at6 ≡ length c.args.mixed6.now → ⊥ = λ e f.
    elim c.else-at4-mixed4-2.branch as (λ _. ⊥) [
      | else-at4-mixed4-2-via-then-at4-mixed4-2+else-at6-mixed6 w ↦ w.if-at6-mixed6.false f
      | else-at4-mixed4-2-via-else-at4-mixed4-2 w ↦ w.if-at4-mixed4-2.false e
    ] in
    let wrong = total_misplaced c.args.mixed4.now c.args.mixed6.now r4 r6 last c.loop-at4.at4 c.loop-at4.at6 rise c.loop-at4.invariant c.if-at4-rows4.false c.if-at6-rows6.false differs in
    moved (λ x y. IsFirst (IsMisplaced (in_order c.args.mixed4.now c.args.mixed6.now) x y last) last) c.as_slice-rows4.ensures c.as_slice-rows6.ensures wrong
