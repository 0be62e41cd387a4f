use Rattle.zone_answers.proofs.Orders.{first_some, first_none}
use Rattle.zone_answers.proofs.order.any_begins.Goals as goal

pub returns-in-Some : goal.returns-in-Some
returns-in-Some c = first_some c.args.key.now c.args.entries.now c.first_at.result c.in-Some.entry.now c.begins_with.result c.requires c.first_at.ensures.before c.first_at.ensures.behind c.in-Some.ensures.value c.begins_with.ensures

pub returns-in-None : goal.returns-in-None
returns-in-None c = first_none c.args.key.now c.args.entries.now c.first_at.result c.first_at.ensures.before c.in-None.ensures.value
