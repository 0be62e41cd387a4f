use Rattle.std.proofs.Common.{◌∙◌, ap, arith, sum_by, length}
use Rattle.zone_answers.specs.Same.{records_in}
use Rattle.zone_answers.specs.Zone.{Zone}
use Rattle.zone_answers.proofs.Counts.{records_sum}
use Rattle.zone_answers.proofs.zones.Zones.count.Goals as goal

pub lengths-requires : goal.lengths-requires
lengths-requires c = omega (arith, ap (sum_by (λ (z : Zone). length z.records)) c.deref.ensures.value ∙ records_sum c.self.inside.zones.items c.self.invariant.distinct, c.self.invariant.room)

pub returns-clause-count : goal.returns-clause-count
returns-clause-count c = c.lengths.ensures ∙ ap (sum_by (λ (z : Zone). length z.records)) c.deref.ensures.value ∙ records_sum c.self.inside.zones.items c.self.invariant.distinct ∙ ap records_in c.self.view_is

pub returns-clause-small : goal.returns-clause-small
returns-clause-small c = omega (arith, c.lengths.ensures ∙ ap (sum_by (λ (z : Zone). length z.records)) c.deref.ensures.value ∙ records_sum c.self.inside.zones.items c.self.invariant.distinct, c.self.invariant.room)
