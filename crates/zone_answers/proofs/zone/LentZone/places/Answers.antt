use Rattle.std.proofs.Common.{arith, length, sym, ap, ◌∙◌}
use Rattle.zone_answers.specs.Index.{places_in, places_of}
use Rattle.zone_answers.specs.Zone.{Zone}
use Rattle.zone_answers.specs.declared.node.Node.{Node}
use Rattle.zone_answers.proofs.Cuts.{none_here, node_is}
use Rattle.zone_answers.proofs.Nodes.{in_summary}
use Rattle.zone_answers.proofs.Texts.{places_few}
use Rattle.zone_answers.proofs.zone.LentZone.places.Goals as goal

pub returns-in-None-clause-places : goal.returns-in-None-clause-places
returns-in-None-clause-places c = sym (none_here c.args.chosen c.self.inside.records.keys c.self.inside.nodes.entries c.args.name.now c.self.invariant.index c.in-None.ensures.value).0
    ∙ ap (λ (z : Zone). places_of c.args.chosen 0 z.records c.args.name.now) c.self.view_is

pub returns-in-Some-clause-places : goal.returns-in-Some-clause-places
returns-in-Some-clause-places c = c.places.ensures
    ∙ ap (λ (n : Node). places_in c.args.chosen n) (node_is c.self.inside.records.keys c.self.inside.nodes.entries c.args.name.now c.in-Some.node.now c.self.invariant.index c.in-Some.ensures.value)
    ∙ in_summary c.args.chosen c.self.inside.records.keys c.args.name.now
    ∙ ap (λ (z : Zone). places_of c.args.chosen 0 z.records c.args.name.now) c.self.view_is

pub returns-in-Some-clause-few : goal.returns-in-Some-clause-few
returns-in-Some-clause-few c = omega (
  arith,
  ap length c.places.ensures,
  ap (λ (n : Node). length (places_in c.args.chosen n)) (node_is c.self.inside.records.keys c.self.inside.nodes.entries c.args.name.now c.in-Some.node.now c.self.invariant.index c.in-Some.ensures.value),
  ap length (in_summary c.args.chosen c.self.inside.records.keys c.args.name.now),
  places_few c.args.chosen 0 c.self.inside.records.keys c.args.name.now,
  c.self.invariant.few,
)
