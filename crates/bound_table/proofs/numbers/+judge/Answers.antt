use Rattle.std.proofs.Common.{rules, ◌≡◌, ◌<◌, ◌≤◌, ℕ, Option, None, Some, drop, refl, sym, ◌∙◌, ap, subst, ◌⊎◌, inl, inr, arith}
use Rattle.std.proofs.lemmas.Bool.{both_ways}
use Rattle.std.specs.Option.{option_or}
use Rattle.fewest_terms.specs.Row.{NeedRow}
use Rattle.fewest_terms.specs.Leaves.{verdict_at}
use Rattle.fewest_terms.proofs.WalkLemmas.{within_at, high_begins}
use Rattle.fewest_terms.proofs.ChooseLemmas.{leaf_end}
use Rattle.bound_table.specs.Judging.{IsFirstWrong}
use Rattle.bound_table.specs.Placed.{PlacedRow}
use Rattle.bound_table.proofs.NumberLemmas.{step, low_begins, high_rows, row_whole, row_claims, leaf_claims, leaf_mixed, leaf_leaves, the_row, judges, own_right, own_wrong}
use Rattle.bound_table.proofs.numbers.+judge.Goals.{then-keeps, else-keeps}
use Rattle.bound_table.proofs.numbers.+judge.Goals as goal

pub offset_bounds-leaves-at : goal.offset_bounds-leaves-at
offset_bounds-leaves-at g t c = omega (arith, within_at g.W.Width.BITS c.args.leaves.now c.args.at.leaf c.args.len c.requires.begins)

pub bounds-leaves-at : goal.bounds-leaves-at
bounds-leaves-at g t c = omega (arith, within_at g.W.Width.BITS c.args.leaves.now c.args.at.leaf c.args.len c.requires.begins)

pub overflow_add-next : goal.overflow_add-next
overflow_add-next g t c = omega (arith, within_at g.W.Width.BITS c.args.leaves.now c.args.at.leaf c.args.len c.requires.begins)

pub returns-then-len-clause-leaf : goal.returns-then-len-clause-leaf
returns-then-len-clause-leaf g t c =
    omega (arith, leaf_leaves g.W.Width.BITS c.args.leaves.now c.args.at.leaf c.args.len c.index-leaves-at.result c.requires.len_in c.requires.begins c.index-leaves-at.is (sym c.len.ensures.value ∙ c.if-len.true))

pub returns-then-len-clause-row : goal.returns-then-len-clause-row
returns-then-len-clause-row g t c =
    omega (arith, leaf_mixed g.W.Width.BITS c.args.leaves.now c.args.at.leaf c.args.len c.index-leaves-at.result c.requires.len_in c.requires.begins c.index-leaves-at.is (sym c.len.ensures.value ∙ c.if-len.true))

pub returns-then-len-clause-claims : goal.returns-then-len-clause-claims
returns-then-len-clause-claims g t c =
    leaf_claims g.W.Width.BITS c.args.leaves.now (drop c.args.at.row c.args.rows.now) c.args.at.leaf c.args.len c.index-leaves-at.result c.of_one.result c.requires.len_in c.requires.begins c.index-leaves-at.is
    (sym c.len.ensures.value ∙ c.if-len.true) c.of_one.ensures

pub offset_bounds-rows-at : goal.offset_bounds-rows-at
offset_bounds-rows-at g t c =
    let s = step g.W.Width.BITS c.args.leaves.now c.args.rows.now c.args.at.leaf c.args.at.row c.args.len c.index-leaves-at.result c.requires.len_in c.requires.begins c.index-leaves-at.is (λ q. c.if-len.false (c.len.ensures.value ∙ q)) c.requires.rows_begin in
    omega (arith, s.here.within)

pub bounds-rows-at : goal.bounds-rows-at
bounds-rows-at g t c =
    let s = step g.W.Width.BITS c.args.leaves.now c.args.rows.now c.args.at.leaf c.args.at.row c.args.len c.index-leaves-at.result c.requires.len_in c.requires.begins c.index-leaves-at.is (λ q. c.if-len.false (c.len.ensures.value ∙ q)) c.requires.rows_begin in
    s.here.within

pub overflow_add-below : goal.overflow_add-below
overflow_add-below g t c =
    let s = step g.W.Width.BITS c.args.leaves.now c.args.rows.now c.args.at.leaf c.args.at.row c.args.len c.index-leaves-at.result c.requires.len_in c.requires.begins c.index-leaves-at.is (λ q. c.if-len.false (c.len.ensures.value ∙ q)) c.requires.rows_begin in
    omega (arith, s.here.within)

pub judge-low-requires : goal.judge-low-requires
judge-low-requires g t c κs within =
    let s = step g.W.Width.BITS c.args.leaves.now c.args.rows.now c.args.at.leaf c.args.at.row c.args.len c.index-leaves-at.result c.requires.len_in c.requires.begins c.index-leaves-at.is (λ q. c.if-len.false (c.len.ensures.value ∙ q)) c.requires.rows_begin in
    (search rules, (search rules, (omega (arith, s.halves.open_is), (s.halves.low, low_begins g.W.Width.BITS c.args.leaves.now c.args.rows.now c.args.at.leaf c.args.at.row c.args.len s))))

pub judge-high-requires : goal.judge-high-requires
judge-high-requires g t c κs within =
    let s = step g.W.Width.BITS c.args.leaves.now c.args.rows.now c.args.at.leaf c.args.at.row c.args.len c.index-leaves-at.result c.requires.len_in c.requires.begins c.index-leaves-at.is (λ q. c.if-len.false (c.len.ensures.value ∙ q)) c.requires.rows_begin in
    let begins = high_begins g.W.Width.BITS c.args.leaves.now c.args.at.leaf c.args.len s.halves c.judge-low.result.next.leaf c.judge-low.ensures.leaf in
    let rows = high_rows g.W.Width.BITS c.args.leaves.now c.args.rows.now c.args.at.leaf c.args.at.row c.args.len c.judge-low.result.next.leaf c.judge-low.result.next.row s c.judge-low.ensures.leaf c.judge-low.ensures.row in
    (search rules, (search rules, (omega (arith, s.halves.open_is), (begins, rows))))

pub returns-clause-leaf : goal.returns-clause-leaf
returns-clause-leaf g t c =
    let s = step g.W.Width.BITS c.args.leaves.now c.args.rows.now c.args.at.leaf c.args.at.row c.args.len c.index-leaves-at.result c.requires.len_in c.requires.begins c.index-leaves-at.is (λ q. c.if-len.false (c.len.ensures.value ∙ q)) c.requires.rows_begin in
    leaf_end g.W.Width.BITS c.args.leaves.now c.args.at.leaf c.args.len s.halves c.judge-low.result.next.leaf c.judge-high.result.next.leaf c.judge-low.ensures.leaf c.judge-high.ensures.leaf

pub returns-clause-row : goal.returns-clause-row
returns-clause-row g t c =
    let s = step g.W.Width.BITS c.args.leaves.now c.args.rows.now c.args.at.leaf c.args.at.row c.args.len c.index-leaves-at.result c.requires.len_in c.requires.begins c.index-leaves-at.is (λ q. c.if-len.false (c.len.ensures.value ∙ q)) c.requires.rows_begin in
    row_whole g.W.Width.BITS c.args.leaves.now c.args.rows.now c.args.at.leaf c.args.at.row c.args.len c.judge-low.result.next.leaf c.judge-low.result.next.row c.judge-high.result.next.row s
    c.judge-low.ensures.leaf c.judge-low.ensures.row c.judge-high.ensures.row

pub returns-clause-claims : goal.returns-clause-claims
returns-clause-claims g t c =
    let s = step g.W.Width.BITS c.args.leaves.now c.args.rows.now c.args.at.leaf c.args.at.row c.args.len c.index-leaves-at.result c.requires.len_in c.requires.begins c.index-leaves-at.is (λ q. c.if-len.false (c.len.ensures.value ∙ q)) c.requires.rows_begin in
    let row = the_row g.W.Width.BITS c.args.leaves.now c.args.rows.now c.args.at.leaf c.args.at.row c.args.len c.index-rows-at.result s c.index-rows-at.is in
    let needs = ap (λ (r : NeedRow). r.needs) c.row.view_is ∙ ap (λ (r : PlacedRow). r.row.needs) c.placed.view_is ∙ ap (λ (r : PlacedRow). r.row.needs) row in
    row_claims g.W.Width.BITS c.args.leaves.now c.args.rows.now c.args.at.leaf c.args.at.row c.args.len c.row.inside.needs s needs

either : (f g r : Option ℕ) → r ≡ option_or f g → ((f ≡ None) × (r ≡ g)) ⊎ ((x : ℕ) × (f ≡ Some x) × (r ≡ Some x))
either None g r e = inl (refl, e)
either (Some x) g r e = inr (x, refl, e)

pub returns-clause-fault : goal.returns-clause-fault
returns-clause-fault g t c =
    let w = g.W.Width.BITS in
    let leaves = c.args.leaves.now in
    let rows = c.args.rows.now in
    let from = c.args.at.leaf in
    let at = c.args.at.row in
    let len = c.args.len in
    let s = step w leaves rows from at len c.index-leaves-at.result c.requires.len_in c.requires.begins c.index-leaves-at.is (λ q. c.if-len.false (c.len.ensures.value ∙ q)) c.requires.rows_begin in
    let row = the_row w leaves rows from at len c.index-rows-at.result s c.index-rows-at.is in
    let j = judges w leaves rows from at len c.judge-low.result.next.leaf c.judge-low.result.next.row s c.row.inside.needs c.judge-low.result.claims c.judge-high.result.claims (ap (λ (r : NeedRow). r.needs) c.row.view_is ∙ ap (λ (r : PlacedRow). r.row.needs) c.placed.view_is ∙ ap (λ (r : PlacedRow). r.row.needs) row)
    c.judge-low.ensures.leaf c.judge-low.ensures.row c.judge-low.ensures.claims c.judge-high.ensures.claims in
    let mid : at < c.judge-low.result.next.row = omega (arith, c.judge-low.ensures.row) in
    let till : c.judge-low.result.next.row ≤ c.judge-high.result.next.row = omega (arith, c.judge-high.ensures.row) in
    elim c.if-keeps.branch as (λ _. IsFirstWrong w (verdict_at w leaves) rows at c.judge-high.result.next.row c.if-keeps.fault) [
      | then-keeps x ↦ own_right w (verdict_at w leaves) s.halves.open_bits s.halves.bits rows at c.judge-low.result.next.row c.judge-high.result.next.row s.here c.judge-low.result.fault c.judge-high.result.fault c.if-keeps.fault
          mid till (j.of (c.keeps.ensures.0 x.if-keeps.true)) c.judge-low.ensures.fault c.judge-high.ensures.fault (either c.judge-low.result.fault c.judge-high.result.fault c.if-keeps.fault (x.fault-is ∙ x.or-fault.ensures))
      | else-keeps x ↦
          let found = own_wrong w (verdict_at w leaves) s.halves.open_bits s.halves.bits rows at c.judge-high.result.next.row c.placed.inside.line s.here (omega (arith, mid, till))
          (sym (ap (λ (r : PlacedRow). r.line) c.placed.view_is ∙ ap (λ (r : PlacedRow). r.line) row))
          (λ r. both_ways c.keeps.result x.if-keeps.false (c.keeps.ensures.1 (j.to r))) in
          subst (IsFirstWrong w (verdict_at w leaves) rows at c.judge-high.result.next.row) (sym x.fault-is) found
    ]
