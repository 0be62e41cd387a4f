use Rattle.std.proofs.Common.{rules}
use Rattle.symbolic_check.specs.Steps as step
use Rattle.symbolic_check.proofs.Combining.{if_ok_by, mapped_alone}
use Rattle.symbolic_check.proofs.Telling.{state_tells}
use Rattle.symbolic_check.proofs.steps.match_all.Goals as goal

pub returns : goal.returns
returns g c = if_ok_by _ c.map.result c.map.ensures.values
    (λ new h. mapped_alone g.W.Width.BITS c.args.states.now new h (step.after_match c.args.verdict c.args.matches) state_tells (λ x w e. search rules))
