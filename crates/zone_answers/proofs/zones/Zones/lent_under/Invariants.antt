use Rattle.std.proofs.Common.{◌≡◌, ℕ, List, ◌&&◌, take}
use Rattle.std.specs.List.{list_any}
use Rattle.dns_name.specs.Name.{is_under}
use Rattle.zone_answers.specs.Same.{same_name}
use Rattle.zone_answers.specs.Index.{stands_at}
use Rattle.zone_answers.proofs.zones.Zones.lent_under.Given as goal

abbrev pub invariant-loop-zone : goal.invariant-loop-zone
invariant-loop-zone l = (name : List (List ℕ)) → list_any (same_name name) l.names ≡ (list_any (λ z. stands_at l.lent z name) (take l.zone-index l.zones) && is_under name l.top)
