use Rattle.std.proofs.Common.{◌≡◌, ◌<◌, ◌^◌, length, sym, ◌∙◌, ap, subst, arith}
use Rattle.spf_grammar.specs.declared.verdict.Verdict.{Verdict}
use Rattle.fewest_terms.specs.Leaves.{verdict_at}
use Rattle.fewest_terms.specs.Tables.{claimed, claimed_total, number}
use Rattle.bound_table.specs.Judging.{IsFirstWrong}
use Rattle.bound_table.specs.Placed.{rows_of}
use Rattle.bound_table.proofs.NumberLemmas.{four_found, six_found, total_found, none_miscounted, claimed_small, total_is}
use Rattle.bound_table.proofs.numbers.miscounted_line.Goals.{else-t-le-LARGEST-via-then-t-le-LARGEST+else-t-total, else-t-le-LARGEST-via-else-t-le-LARGEST}
use Rattle.bound_table.proofs.numbers.miscounted_line.Goals as goal

pub returns-then-is_some : goal.returns-then-is_some
returns-then-is_some c =
    let v4 = verdict_at 32 c.args.leaves4.now in
    let v6 = verdict_at 128 c.args.leaves6.now in
    let fault4 = c.judge_all-four.result.fault in
    let four = subst (λ rows. IsFirstWrong 32 v4 rows 0 (length rows) fault4) c.as_slice.ensures c.judge_all-four.ensures.fault in
    four_found v4 v6 c.args.t.now fault4 c.requires.rising c.requires.order (sym c.is_some.ensures ∙ c.if-is_some.true) four

pub returns-then-is_some-2 : goal.returns-then-is_some-2
returns-then-is_some-2 c =
    let v4 = verdict_at 32 c.args.leaves4.now in
    let v6 = verdict_at 128 c.args.leaves6.now in
    let fault4 = c.judge_all-four.result.fault in
    let fault6 = c.judge_all-six.result.fault in
    let four = subst (λ rows. IsFirstWrong 32 v4 rows 0 (length rows) fault4) c.as_slice.ensures c.judge_all-four.ensures.fault in
    let six = subst (λ rows. IsFirstWrong 128 v6 rows 0 (length rows) fault6) c.as_slice-2.ensures c.judge_all-six.ensures.fault in
    six_found v4 v6 c.args.t.now fault4 fault6 c.requires.rising (sym c.is_some.ensures ∙ c.if-is_some.false) four (sym c.is_some-2.ensures ∙ c.if-is_some-2.true) six

pub plus-requires : goal.plus-requires
plus-requires c = λ x.
    let v4 = verdict_at 32 c.args.leaves4.now in
    let v6 = verdict_at 128 c.args.leaves6.now in
    let four = claimed_small 32 v4 32 0 c.as_slice.result.now c.judge_all-four.result.fault (sym c.is_some.ensures ∙ c.if-is_some.false) c.judge_all-four.ensures.fault x in
    let six = claimed_small 128 v6 128 0 c.as_slice-2.result.now c.judge_all-six.result.fault (sym c.is_some-2.ensures ∙ c.if-is_some-2.false) c.judge_all-six.ensures.fault x in
    omega (arith, four, six, c.judge_all-four.ensures.claims x, c.judge_all-six.ensures.claims x)

pub returns-then-t-total : goal.returns-then-t-total
returns-then-t-total c =
    let v4 = verdict_at 32 c.args.leaves4.now in
    let v6 = verdict_at 128 c.args.leaves6.now in
    let t = c.args.t.now in
    let fault4 = c.judge_all-four.result.fault in
    let fault6 = c.judge_all-six.result.fault in
    let four = subst (λ rows. IsFirstWrong 32 v4 rows 0 (length rows) fault4) c.as_slice.ensures c.judge_all-four.ensures.fault in
    let six = subst (λ rows. IsFirstWrong 128 v6 rows 0 (length rows) fault6) c.as_slice-2.ensures c.judge_all-six.ensures.fault in
    let claims4 : (x : Verdict) → number c.judge_all-four.result.claims x ≡ claimed v4 32 0 (rows_of t.rows4) x = λ x. c.judge_all-four.ensures.claims x ∙ ap (λ rows. claimed v4 32 0 (rows_of rows) x) c.as_slice.ensures in
    let claims6 : (x : Verdict) → number c.judge_all-six.result.claims x ≡ claimed v6 128 0 (rows_of t.rows6) x = λ x. c.judge_all-six.ensures.claims x ∙ ap (λ rows. claimed v6 128 0 (rows_of rows) x) c.as_slice-2.ensures in
    let sum = total_is v4 v6 (rows_of t.rows4) (rows_of t.rows6) c.judge_all-four.result.claims c.judge_all-six.result.claims c.plus.result claims4 claims6 c.plus.ensures in
    none_miscounted v4 v6 t fault4 fault6 (sym c.is_some.ensures ∙ c.if-is_some.false) four (sym c.is_some-2.ensures ∙ c.if-is_some-2.false) six (c.if-t-total.true ∙ c.total.ensures ∙ sum) (omega (arith, c.if-t-le-LARGEST.true))

pub returns-else-t-le-LARGEST : goal.returns-else-t-le-LARGEST
returns-else-t-le-LARGEST c =
    let v4 = verdict_at 32 c.args.leaves4.now in
    let v6 = verdict_at 128 c.args.leaves6.now in
    let t = c.args.t.now in
    let fault4 = c.judge_all-four.result.fault in
    let fault6 = c.judge_all-six.result.fault in
    let four = subst (λ rows. IsFirstWrong 32 v4 rows 0 (length rows) fault4) c.as_slice.ensures c.judge_all-four.ensures.fault in
    let six = subst (λ rows. IsFirstWrong 128 v6 rows 0 (length rows) fault6) c.as_slice-2.ensures c.judge_all-six.ensures.fault in
    let claims4 : (x : Verdict) → number c.judge_all-four.result.claims x ≡ claimed v4 32 0 (rows_of t.rows4) x = λ x. c.judge_all-four.ensures.claims x ∙ ap (λ rows. claimed v4 32 0 (rows_of rows) x) c.as_slice.ensures in
    let claims6 : (x : Verdict) → number c.judge_all-six.result.claims x ≡ claimed v6 128 0 (rows_of t.rows6) x = λ x. c.judge_all-six.ensures.claims x ∙ ap (λ rows. claimed v6 128 0 (rows_of rows) x) c.as_slice-2.ensures in
    let differs : t.total ≡ claimed_total v4 v6 (rows_of t.rows4) (rows_of t.rows6) → t.total < 2 ^ 32 → ⊥ = λ e small.
    elim c.else-t-le-LARGEST.branch as (λ _. ⊥) [
      | else-t-le-LARGEST-via-then-t-le-LARGEST+else-t-total w ↦
          let sum = total_is v4 v6 (rows_of t.rows4) (rows_of t.rows6) c.judge_all-four.result.claims c.judge_all-six.result.claims w.plus.result claims4 claims6 w.plus.ensures in
          w.if-t-total.false (e ∙ sym (w.total.ensures ∙ sum))
      | else-t-le-LARGEST-via-else-t-le-LARGEST w ↦ absurd (omega (arith, w.if-t-le-LARGEST.false, small))
    ] in
    total_found v4 v6 t fault4 fault6 (sym c.is_some.ensures ∙ c.if-is_some.false) four (sym c.is_some-2.ensures ∙ c.if-is_some-2.false) six differs
