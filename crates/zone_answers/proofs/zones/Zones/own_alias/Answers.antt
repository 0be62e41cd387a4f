use Rattle.std.proofs.Common.{◌∙◌}
use Rattle.std.specs.Option.{option_copied}
use Rattle.zone_answers.proofs.Holding.{own_alias_is, copied_some}
use Rattle.zone_answers.proofs.zones.Zones.own_alias.Goals as goal

pub returns-in-Some : goal.returns-in-Some
returns-in-Some c = c.is_some.ensures ∙ copied_some c.alias.result ∙ own_alias_is c.args.self.now c.in-Some.zone.now c.args.name.now (option_copied c.alias.result) c.in-Some.ensures c.alias.ensures
