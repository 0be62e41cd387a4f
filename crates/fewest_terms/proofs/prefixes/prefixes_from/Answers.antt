use Rattle.std.proofs.Common.{◌≡◌, ◌+◌, ◌++◌, ◌∷◌, [], map, take, sym, ◌∙◌, ap, ap₂}
use Rattle.std.proofs.lemmas.List.{map-append, take_more}
use Rattle.fewest_terms.specs.Row.{NeedRow}
use Rattle.fewest_terms.proofs.prefixes.prefixes_from.Goals as goal

pub loop-sum-preserved : goal.loop-sum-preserved
loop-sum-preserved g c =
    let i = c.loop-sum.sum-index in
    let own : c.sum.inside.prefix ≡ c.sum-item.result.prefix = ap (λ (r : NeedRow). r.prefix) c.sum.view_is in
    let more : take (i + 1) c.args.sums.now ≡ take i c.args.sums.now ++ c.sum-item.result ∷ [] =
    take_more c.args.sums.now i c.sum-item.result c.loop-sum-test.true ∙ ap (λ x. take i c.args.sums.now ++ x ∷ []) (sym c.sum-item.is) in
    c.in_ok-push.ensures.ok ∙ ap₂ (λ ps p. ps ++ p ∷ []) c.loop-sum.invariant own
    ∙ sym (ap (map (λ (r : NeedRow). r.prefix)) more ∙ map-append (λ (r : NeedRow). r.prefix) (take i c.args.sums.now) (c.sum-item.result ∷ []))
