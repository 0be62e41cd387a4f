use Rattle.std.proofs.Common.{arith, ap, length}
use Rattle.dns_name.specs.Wire.{labels_in}
use Rattle.dns_name.proofs.Wire.{length-wire_form}
use Rattle.dns_name.proofs.name.Name.label_count.Goals as goal

pub overflow_add-count : goal.overflow_add-count
overflow_add-count c =
    omega (arith, c.loop-behind.invariant.counted, ap length c.self.view_is, length-wire_form (labels_in c.self.inside.wire.items), c.self.invariant.0.short, ap length c.in-Some.ensures.0)
