use Rattle.std.proofs.Common.{◌∙◌}
use Rattle.std.proofs.lemmas.Result.{IfOk-weaker}
use Rattle.spf_model.proofs.Saying.{plainly}
use Rattle.spf_model.proofs.context.RecordContext.answer.Goals as goal

pub returns-clause-answer : goal.returns-clause-answer
returns-clause-answer c =
    IfOk-weaker c.answer.result _ _ (λ answer e a. e ∙ plainly c.args.self.now.zones.now c.args.name.now c.args.kind a) c.answer.ensures.answer
