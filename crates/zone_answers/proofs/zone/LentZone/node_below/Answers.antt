use Rattle.std.proofs.Common.{ap, ◌∙◌, ◌∷◌, []}
use Rattle.dns_name.specs.Name.{child_of}
use Rattle.zone_answers.proofs.Bare.{star_below}
use Rattle.zone_answers.proofs.zone.LentZone.node_below.Goals as goal

pub returns-in_default : goal.returns-in_default
returns-in_default c = absurd (star_below c.args.self.now c.args.name.now c.in_default.field-0 c.label_count-labels.ensures.legal c.requires (c.in_default.ensures.answer ∙ ap (child_of (42 ∷ [])) c.closest_at.ensures))
