use Rattle.std.proofs.Common.{rules}
use Rattle.symbolic_check.specs.Steps as step
use Rattle.symbolic_check.proofs.Combining.{if_ok_by, combined_with}
use Rattle.symbolic_check.proofs.Telling.{state_tells}
use Rattle.symbolic_check.proofs.steps.match_classes.Goals as goal

pub returns : goal.returns
returns g c = if_ok_by _ c.combine.result c.combine.ensures.values
    (λ new h. combined_with g.W.Width.BITS c.args.states.now c.args.classes.now new h (step.after_class c.args.limits c.args.place.now c.args.verdict) state_tells (λ x u w e. search rules))
