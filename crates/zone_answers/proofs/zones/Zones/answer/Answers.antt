use Rattle.std.proofs.Common.{◌≡◌, ◌∙◌}
use Rattle.std.proofs.lemmas.Result.{IfOk-weaker}
use Rattle.zone_answers.specs.Answers.{answer_of, answer_within}
use Rattle.zone_answers.proofs.Holding.{eight_steps}
use Rattle.zone_answers.proofs.zones.Zones.answer.Goals as goal

pub returns-clause-answer : goal.returns-clause-answer
returns-clause-answer c = IfOk-weaker c.answer_within.result
    (λ answer. answer ≡ answer_within 8 c.args.self.now c.args.name.now c.args.kind) (λ answer. answer ≡ answer_of c.args.self.now c.args.name.now c.args.kind)
    (λ answer h. h ∙ eight_steps c.args.self.now c.args.name.now c.args.kind) c.answer_within.ensures
