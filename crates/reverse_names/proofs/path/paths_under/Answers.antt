use Rattle.std.proofs.Common.{List, ℕ, sym, subst}
use Rattle.std.specs.List.{All}
use Rattle.dns_name.specs.Name.{IsUnder}
use Rattle.zone_answers.specs.Reversed.{AreNamesUnder}
use Rattle.zone_answers.proofs.Bare.{bare_names}
use Rattle.reverse_names.specs.declared.path.Path.{Path}
use Rattle.reverse_names.specs.Tree.{ArePaths}
use Rattle.reverse_names.proofs.Paths.{are_paths, listed_under, sorted_paths, unlent_unparted}
use Rattle.reverse_names.proofs.path.paths_under.Goals as goal

pub paths_to-requires : goal.paths_to-requires
paths_to-requires c =
    subst (λ (names : List (List (List ℕ))). All (λ name. IsUnder name c.args.suffix.now) names) (sym c.as_slice.ensures)
    (listed_under c.args.zones.now c.args.suffix.now c.in_ok-names.names c.in_ok-names.ensures)

pub returns : goal.returns
returns c =
    let lent : AreNamesUnder c.args.zones.now c.args.suffix.now c.as_slice.result.now =
    subst (λ (names : List (List (List ℕ))). AreNamesUnder c.args.zones.now c.args.suffix.now names) (sym c.as_slice.ensures) c.in_ok-names.ensures in
    sorted_paths c.args.zones.now c.args.family c.args.suffix.now c.into_vec-paths.result.items c.sort_unstable_by_key.new.self.items c.sort_unstable_by_key.ensures.permutation
    (subst (λ (paths : List Path). ArePaths c.args.zones.now c.args.family c.args.suffix.now paths) (sym c.into_vec-paths.ensures)
    (are_paths c.args.zones.now c.args.family c.args.suffix.now c.as_slice.result.now c.in_ok-paths_to.field-0
    (bare_names c.args.zones.now c.args.suffix.now c.as_slice.result.now lent) (unlent_unparted c.args.zones.now) lent c.in_ok-paths_to.ensures))
