use Rattle.std.proofs.Common.{List, sym, subst, ◌∙◌}
use Rattle.addr_bits.specs.declared.address.Address.TheVariants.{V4}
use Rattle.spf_model.specs.Check.{check_host}
use Rattle.zone_answers.specs.declared.answer.Question.{Question}
use Rattle.spf_model.specs.Run.{says}
use Rattle.symbolic_check.specs.Families.{AreEndsOf}
use Rattle.symbolic_check.proofs.Evaluated.{named, evaluated}
use Rattle.symbolic_check.proofs.both.evaluate.Goals as goal

pub returns : goal.returns
returns c =
    let name = c.unwrap-name.result in
    let is_name = named c.args.domain.now name (sym c.from_text.ensures ∙ c.unwrap-name.ensures) in
    evaluated (says c.args.zones.now) c.args.limits c.args.domain.now name c.in_ok-v4.v4 c.in_ok-v6.v6 c.outcomes.new.asked c.outcomes-2.new.asked c.in_ok-asked.asked is_name
    (subst (λ (asked : List Question). AreEndsOf 32 (λ a. says c.args.zones.now (V4 a)) (λ a. check_host c.args.limits (V4 a) c.args.domain.now name) c.in_ok-v4.v4 asked c.outcomes.new.asked)
    c.new-asked.ensures c.in_ok-v4.ensures)
    c.in_ok-v6.ensures c.in_ok-asked.ensures.order c.in_ok-asked.ensures.same
