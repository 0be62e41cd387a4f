use Rattle.std.proofs.Common.{Bor, Vec, Global, ap, ◌∙◌, map}
use Rattle.dns_name.specs.declared.name.Name.{Name}
use Rattle.spf_model.specs.Judging.{exchange_of}
use Rattle.spf_model.proofs.Collecting.{kept, passed}
use Rattle.spf_model.proofs.hosts.exchanges_of.Goals as goal
use Rattle.spf_model.proofs.hosts.exchanges_of.Goals.{in-Some+in_ok-push, in_default}

pub loop-body-preserved : goal.loop-body-preserved
loop-body-preserved c = elim c.match-exchange_of.branch [
  | in-Some+in_ok-push w ↦ kept exchange_of (λ (name : Bor Name). name.now) c.args.bodies.now c.loop-body.body-index c.body-item.result c.loop-body.exchanges.items
      c.match-exchange_of.exchanges.items w.in-Some.exchange c.loop-body-test.true c.body-item.is c.loop-body.invariant w.in-Some.ensures
      (ap (λ (v : Vec (Bor Name) Global). v.items) w.exchanges-is ∙ w.in_ok-push.ensures.items)
  | in_default w ↦ ap (λ (v : Vec (Bor Name) Global). map (λ (name : Bor Name). name.now) v.items) w.exchanges-is
      ∙ passed exchange_of (λ (name : Bor Name). name.now) c.args.bodies.now c.loop-body.body-index c.body-item.result c.loop-body.exchanges.items
      c.loop-body-test.true c.body-item.is c.loop-body.invariant w.in_default.ensures
]
