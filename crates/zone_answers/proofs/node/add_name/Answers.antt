use Rattle.std.proofs.Common.{sym, ◌∙◌, ap, cond, Some}
use Rattle.zone_answers.specs.declared.node.Node.{Node}
use Rattle.zone_answers.specs.Same.{same_name}
use Rattle.zone_answers.proofs.Nodes.{at, filled_there, filled_new}
use Rattle.zone_answers.proofs.node.add_name.Goals as goal

pub returns-then-contains_key : goal.returns-then-contains_key
returns-then-contains_key c = λ name. filled_there c.args.nodes.now.entries c.args.added name (sym c.contains_key.ensures ∙ c.if-contains_key.true)

pub returns : goal.returns
returns c = λ name. filled_new c.args.nodes.now.entries c.insert.new.self.entries c.args.added name (sym c.contains_key.ensures ∙ c.if-contains_key.false)
    (c.in_ok-insert.ensures.updates.0 name ∙ ap (λ (n : Node). cond (same_name c.args.added name) (Some n) (at c.args.nodes.now.entries name)) c.new.ensures)
