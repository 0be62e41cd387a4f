use Rattle.std.proofs.Common.{ap, ◌∙◌, ◌∷◌, []}
use Rattle.dns_name.specs.Name.{child_of}
use Rattle.zone_answers.proofs.Cuts.{star_fits}
use Rattle.zone_answers.proofs.zone.LentZone.node_of.Goals as goal

pub returns-in_default : goal.returns-in_default
returns-in_default c = absurd (star_fits c.args.self.now c.args.name.now c.in_default.field-0 c.label_count-labels.ensures.legal (c.in_default.ensures.answer ∙ ap (child_of (42 ∷ [])) c.closest_above.ensures))
