use Rattle.std.proofs.Common.{sym, ◌∙◌}
use Rattle.spf_model.specs.Check.{spf_text_of}
use Rattle.spf_model.proofs.Collecting.{kept_as_is, passed_as_is}
use Rattle.spf_model.proofs.record.spf_texts.Goals as goal
use Rattle.spf_model.proofs.record.spf_texts.Goals.{in-Some+in_ok-push, in_default}

pub loop-body-preserved : goal.loop-body-preserved
loop-body-preserved c = elim c.match-branch-2.branch [
  | in-Some+in_ok-push w ↦ kept_as_is spf_text_of c.args.bodies.now c.loop-body.body-index c.body-item.result c.loop-body.texts c.match-branch-2.texts w.in-Some.text
      c.loop-body-test.true c.body-item.is c.loop-body.invariant (sym w.in-Some.is ∙ c.in_ok-text.ensures) (w.texts-is ∙ w.in_ok-push.ensures.ok)
  | in_default w ↦ w.texts-is ∙ passed_as_is spf_text_of c.args.bodies.now c.loop-body.body-index c.body-item.result c.loop-body.texts
      c.loop-body-test.true c.body-item.is c.loop-body.invariant (sym w.in_default.is ∙ c.in_ok-text.ensures)
]
