use Rattle.std.proofs.Common.{◌≡◌, sym, ap, ◌∙◌, Some}
use Rattle.zone_answers.specs.Same.{same_name}
use Rattle.zone_answers.specs.Index.{filled, with_record}
use Rattle.zone_answers.proofs.Nodes.{at}
use Rattle.zone_answers.proofs.Indexes.{index_more, owner_there, some_there}
use Rattle.zone_answers.proofs.node.add_record.Goals as goal

pub returns-in_ok-push : goal.returns-in_ok-push
returns-in_ok-push c = λ records index place.
    let here : at c.add_name.new.nodes.entries c.args.added.now.owner ≡ Some c.in-Some.node.now = sym c.in-Some.ensures.value in
    index_more records c.args.added.now c.args.nodes.now.entries c.add_name.new.nodes.entries _ c.in-Some.node.now c.push.new.self index
    (λ name. c.in_ok-add_name.ensures name ∙ ap (λ owner. filled (same_name owner name) (at c.args.nodes.now.entries name)) c.in_ok-clone.ensures.cases)
    here
    (c.in_ok-push.ensures ∙ ap (λ n. with_record c.in-Some.node.now n c.args.added.now.body) place)
    ((c.get_mut.follows.holds _).3 (some_there _ _ here)).0

pub returns-in_default : goal.returns-in_default
returns-in_default c = λ records index place. absurd (owner_there c.args.added.now.owner (at c.args.nodes.now.entries c.args.added.now.owner) (at c.add_name.new.nodes.entries c.args.added.now.owner)
    (c.in_ok-add_name.ensures c.args.added.now.owner ∙ ap (λ owner. filled (same_name owner c.args.added.now.owner) (at c.args.nodes.now.entries c.args.added.now.owner)) c.in_ok-clone.ensures.cases)
    (sym c.in_default.ensures.value))
