use Rattle.std.proofs.Common.{ℕ, List, ◌+◌, ◌-◌, sym, ap, ◌∙◌, arith}
use Rattle.zone_answers.specs.declared.answer.Answer.{Answer}
use Rattle.zone_answers.specs.Index.{outcome_of}
use Rattle.zone_answers.proofs.Holding.{within, within_first, within_more, within_none}
use Rattle.zone_answers.proofs.zones.Zones.answer_within.Goals as goal

pub steps-init : goal.steps-init
steps-init c = within_first c.args.aliases (c.args.aliases + 1 - 0) c.args.self.now c.args.name.now c.args.kind (omega arith)
    ∙ ap (λ n. within (c.args.aliases + 1 - 0) c.args.self.now n c.args.kind) (sym c.in_ok-name.ensures.cases)

pub returns-in-Known : goal.returns-in-Known
returns-in-Known c =
    let left : ℕ = c.args.aliases + 1 - c.steps._step in
    let follow : List (List ℕ) → Answer = λ target. within (c.args.aliases + 1 - (c.steps._step + 1)) c.args.self.now target c.args.kind in
    sym (c.steps.invariant ∙ within_more left (c.args.aliases + 1 - (c.steps._step + 1)) c.args.self.now c.steps.name c.args.kind (omega arith)
    ∙ sym (c.in_ok-answer.ensures follow) ∙ ap (outcome_of follow) c.in-Known.is)

pub steps-preserved : goal.steps-preserved
steps-preserved c =
    let left : ℕ = c.args.aliases + 1 - c.steps._step in
    let follow : List (List ℕ) → Answer = λ target. within (c.args.aliases + 1 - (c.steps._step + 1)) c.args.self.now target c.args.kind in
    c.steps.invariant ∙ within_more left (c.args.aliases + 1 - (c.steps._step + 1)) c.args.self.now c.steps.name c.args.kind (omega arith)
    ∙ sym (c.in_ok-answer.ensures follow) ∙ ap (outcome_of follow) c.in-Alias.is

pub returns : goal.returns
returns c = sym (c.steps.invariant ∙ within_none (c.args.aliases + 1 - c.steps._step) c.args.self.now c.steps.name c.args.kind (omega arith))
