use Rattle.std.proofs.Common.{ap, ◌∙◌}
use Rattle.dns_name.specs.Wire.{wire_form}
use Rattle.dns_name.proofs.Names.{same_wire}
use Rattle.dns_name.proofs.labels.Labels.are_all_of.Goals as goal

pub returns : goal.returns
returns c = c.eq.ensures
    ∙ same_wire c.self.inside.wire.now c.wire.result.now c.args.self.now c.args.name.now
    (c.self.invariant.1 ∙ ap wire_form c.self.view_is) c.wire.ensures.form c.self.view_is c.wire.ensures.labels
