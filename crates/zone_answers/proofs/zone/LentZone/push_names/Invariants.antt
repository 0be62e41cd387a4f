use Rattle.std.proofs.Common.{◌≡◌, ℕ, List, ◌&&◌, ◌||◌, take, slice_get}
use Rattle.std.specs.List.{list_any}
use Rattle.dns_name.specs.Name.{is_under}
use Rattle.zone_answers.specs.Same.{same_name}
use Rattle.zone_answers.specs.Index.{counts}
use Rattle.zone_answers.proofs.Orders.{told_at}
use Rattle.zone_answers.proofs.zone.LentZone.push_names.Given as goal

abbrev pub invariant-loop-entry : goal.invariant-loop-entry
invariant-loop-entry l = (name : List (List ℕ)) → list_any (same_name name) l.names
    ≡ ((list_any (same_name name) l.fn.names || (same_name l.self.origin name && is_under name l.top))
    || list_any (λ e. told_at (λ r. same_name r.owner name && counts l.lent r) (slice_get l.self.records e.place)) (take l.entry-index l.entries))
