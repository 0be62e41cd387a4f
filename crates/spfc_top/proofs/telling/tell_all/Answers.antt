use Rattle.std.proofs.Common.{rules, arith, refl}
use Rattle.spfc_outer.proofs.Rows.{after_nothing, told_next, told_cut}
use Rattle.spfc_top.proofs.ToldLemmas.{all_told}
use Rattle.spfc_top.proofs.telling.tell_all.Goals as goal

pub loop-question-init : goal.loop-question-init
loop-question-init g c = record { told = after_nothing _; none = λ e. refl }

pub loop-question-preserved : goal.loop-question-preserved
loop-question-preserved g c = record {
  told = told_next c.args.asked.now c.loop-question.question-index _ _ _ _ _ (search rules) c.question-item.is refl c.loop-question.invariant.told c.in_ok-tell_row.ensures.told;
  none = λ e. absurd (omega (arith, e));
}

pub returns-clause-told : goal.returns-clause-told
returns-clause-told g c =
    all_told c.args.asked.now c.loop-question.question-index _ (omega (arith, c.loop-question-test.false, c.loop-question.auto.question-index-end))
    c.loop-question.invariant.none c.loop-question.invariant.told

pub returns-in_err-tell_row-clause-broke : goal.returns-in_err-tell_row-clause-broke
returns-in_err-tell_row-clause-broke g c =
    let cut = told_cut c.args.asked.now c.loop-question.question-index _ _ _ _ _ (search rules) c.question-item.is refl c.loop-question.invariant.told
    c.in_err-tell_row.ensures.cut in
    search (rules, cut, c.from_residual.ensures)
