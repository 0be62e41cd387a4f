use Rattle.std.proofs.Common.{None, Some, ap, ◌∙◌}
use Rattle.std.specs.Option.{option_copied}
use Rattle.zone_answers.proofs.Places.{alias_at}
use Rattle.zone_answers.proofs.zone.LentZone.alias.Goals as goal

pub returns-in_err-first : goal.returns-in_err-first
returns-in_err-first c = ap option_copied c.from_residual.ensures ∙ alias_at c.args.self.now c.places.result.now c.args.name.now None c.places.ensures.places c.in_err-first.ensures.value

pub returns : goal.returns
returns c = c.target.ensures ∙ alias_at c.args.self.now c.places.result.now c.args.name.now (Some c.in_ok-first.first.now) c.places.ensures.places c.in_ok-first.ensures.value
