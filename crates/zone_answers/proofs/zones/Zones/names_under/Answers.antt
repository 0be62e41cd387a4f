use Rattle.std.proofs.Common.{◌≡◌, ℕ, List, ◌&&◌}
use Rattle.std.specs.List.{list_any}
use Rattle.std.proofs.lemmas.Result.{IfOk-weaker}
use Rattle.dns_name.specs.Name.{is_under}
use Rattle.zone_answers.specs.declared.zone.Lent.TheVariants.{All}
use Rattle.zone_answers.specs.Same.{same_name}
use Rattle.zone_answers.specs.Index.{stands_at}
use Rattle.zone_answers.specs.Reversed.{AreNamesUnder}
use Rattle.zone_answers.proofs.Listing.{all_listed}
use Rattle.zone_answers.proofs.zones.Zones.names_under.Goals as goal

pub returns : goal.returns
returns c = IfOk-weaker c.lent_under.result
    (λ names. (name : List (List ℕ)) → list_any (same_name name) names ≡ (list_any (λ z. stands_at All z name) c.args.self.now && is_under name c.args.top.now))
    (AreNamesUnder c.args.self.now c.args.top.now)
    (λ names h. all_listed c.args.self.now c.args.top.now names h) c.lent_under.ensures
