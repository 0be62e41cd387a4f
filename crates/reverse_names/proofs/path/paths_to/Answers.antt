use Rattle.std.proofs.Common.{◌≡◌, ◌+◌, List, ℕ, [], ◌∷◌, ◌++◌, sym, ap, ◌∙◌, subst, take}
use Rattle.std.proofs.lemmas.List.{take_more}
use Rattle.std.proofs.lemmas.List.Elements.{All-get_or}
use Rattle.dns_name.specs.Name.{IsUnder}
use Rattle.reverse_names.specs.declared.path.Path.{Path}
use Rattle.reverse_names.specs.Tree.{ArePathsTo}
use Rattle.reverse_names.proofs.Paths.{paths_more}
use Rattle.reverse_names.proofs.path.paths_to.Goals as goal

pub path_of-requires : goal.path_of-requires
path_of-requires c =
    subst (λ (n : List (List ℕ)). IsUnder n c.args.suffix.now) (sym c.name-item.is)
    (All-get_or (λ name. IsUnder name c.args.suffix.now) c.args.names.now c.loop-name.name-index c.name-item.result c.loop-name-test.true c.requires)

pub loop-name-preserved : goal.loop-name-preserved
loop-name-preserved c =
    let more : take (c.loop-name.name-index + 1) c.args.names.now ≡ take c.loop-name.name-index c.args.names.now ++ c.name-item.result ∷ [] =
    take_more c.args.names.now c.loop-name.name-index c.name-item.result c.loop-name-test.true
    ∙ ap (λ (n : List (List ℕ)). take c.loop-name.name-index c.args.names.now ++ n ∷ []) (sym c.name-item.is) in
    subst (λ (n : List (List (List ℕ))). ArePathsTo c.args.family c.args.suffix.now n c.push.new.self) (sym more)
    (subst (λ (p : List Path). ArePathsTo c.args.family c.args.suffix.now (take c.loop-name.name-index c.args.names.now ++ c.name-item.result ∷ []) p) (sym c.in_ok-push.ensures.ok)
    (paths_more c.args.family c.args.suffix.now c.name-item.result c.path_of.result (take c.loop-name.name-index c.args.names.now) c.loop-name.paths c.loop-name.invariant c.path_of.ensures))
