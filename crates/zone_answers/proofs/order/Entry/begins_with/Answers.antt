use Rattle.std.proofs.Common.{ℕ, List, ◌∙◌, ap}
use Rattle.std.specs.Prelude.{nat_eq}
use Rattle.std.specs.List.{starts_with}
use Rattle.zone_answers.proofs.Keys.{begins_tested}
use Rattle.zone_answers.proofs.order.Entry.begins_with.Goals as goal

pub returns : goal.returns
returns c = c.starts_with.ensures.value ∙ ap (λ (l : List ℕ). starts_with nat_eq l c.args.key.now) c.as_slice.ensures.value ∙ begins_tested c.args.key.now c.args.self.now.key.items
