use Rattle.std.proofs.Common.{sym, ap, ◌∙◌}
use Rattle.zone_answers.specs.Index.{has_delegation}
use Rattle.zone_answers.specs.Zone.{Zone}
use Rattle.zone_answers.specs.declared.node.Chosen.TheVariants.{Every}
use Rattle.zone_answers.proofs.Cuts.{none_here}
use Rattle.zone_answers.proofs.zone.LentZone.delegates.Goals as goal

pub returns-in-None : goal.returns-in-None
returns-in-None c = sym (none_here Every c.self.inside.records.keys c.self.inside.nodes.entries c.args.name.now c.self.invariant.index c.in-None.ensures.value).1
    ∙ ap (λ (z : Zone). has_delegation z.records c.args.name.now) c.self.view_is
