use Rattle.std.proofs.Common.{rules}
use Rattle.symbolic_check.specs.Steps as step
use Rattle.symbolic_check.proofs.Combining.{if_ok_by, mapped_to}
use Rattle.symbolic_check.proofs.Telling.{outcome_tells}
use Rattle.symbolic_check.proofs.steps.outcomes.Goals as goal

pub returns : goal.returns
returns g c = if_ok_by _ c.map.result c.map.ensures.values
    (λ ends h. mapped_to g.W.Width.BITS c.args.states.now ends h step.outcome_of outcome_tells (λ x w e. search rules))
