use Rattle.std.proofs.Common.{◌≡◌}
use Rattle.std.proofs.lemmas.Result.{IfOk-weaker}
use Rattle.zone_answers.specs.Answers.{answer_within}
use Rattle.zone_answers.specs.Reversed.{answer_below}
use Rattle.zone_answers.proofs.Holding.{below_known, below_alias}
use Rattle.zone_answers.proofs.zones.Zones.answer_below.Goals as goal

pub returns-in-Known : goal.returns-in-Known
returns-in-Known c = below_known c.args.self.now c.args.name.now c.args.kind c.in_ok-answer.field-0 c.in-Known.answer c.in_ok-answer.ensures c.in-Known.is

pub returns-in-Alias : goal.returns-in-Alias
returns-in-Alias c = IfOk-weaker c.answer_within.result
    (λ answer. answer ≡ answer_within 7 c.args.self.now c.in-Alias.target c.args.kind) (λ answer. answer ≡ answer_below c.args.self.now c.args.name.now c.args.kind)
    (λ answer h. below_alias c.args.self.now c.args.name.now c.in-Alias.target c.args.kind c.in_ok-answer.field-0 answer c.in_ok-answer.ensures c.in-Alias.is h) c.answer_within.ensures
