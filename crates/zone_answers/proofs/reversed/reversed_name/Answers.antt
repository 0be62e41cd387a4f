use Rattle.std.proofs.Common.{◌∙◌}
use Rattle.zone_answers.proofs.Reversals.{name_of_ip4, name_of_ip6}
use Rattle.zone_answers.proofs.reversed.reversed_name.Goals as goal

pub returns-in-V4 : goal.returns-in-V4
returns-in-V4 c = c.digits_name.ensures.name ∙ name_of_ip4 c.args.address c.in-V4.number c.from.result c.args.suffix.now c.in-V4.is c.from.ensures

pub returns-in-V6 : goal.returns-in-V6
returns-in-V6 c = c.digits_name-in-V6.ensures.name ∙ name_of_ip6 c.args.address c.in-V6.number c.args.suffix.now c.in-V6.is
