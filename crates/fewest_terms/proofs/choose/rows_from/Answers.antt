use Rattle.std.proofs.Common.{◌≡◌, ◌+◌, ◌++◌, ◌∷◌, [], map, take, sym, ◌∙◌, ap, ap₂}
use Rattle.std.proofs.lemmas.List.{map-append, take_more}
use Rattle.fewest_terms.specs.Row.{NeedRow}
use Rattle.fewest_terms.specs.Leaves.{ruled_row}
use Rattle.fewest_terms.proofs.WalkLemmas.{ruled_from}
use Rattle.fewest_terms.proofs.choose.rows_from.Goals as goal

pub loop-sum-preserved : goal.loop-sum-preserved
loop-sum-preserved g c =
    let i = c.loop-sum.sum-index in
    let row : NeedRow = record { prefix = c.sum.inside.prefix; needs = c.under_rule.result } in
    let own : row ≡ ruled_row c.sum-item.result =
    ap (λ n. record { prefix = c.sum.inside.prefix; needs = n }) (ruled_from c.under_rule.result c.sum.inside.needs c.under_rule.ensures) ∙ ap ruled_row c.sum.view_is in
    let more : take (i + 1) c.args.sums.now ≡ take i c.args.sums.now ++ c.sum-item.result ∷ [] =
    take_more c.args.sums.now i c.sum-item.result c.loop-sum-test.true ∙ ap (λ x. take i c.args.sums.now ++ x ∷ []) (sym c.sum-item.is) in
    c.in_ok-push.ensures.ok ∙ ap₂ (λ xs t. xs ++ t ∷ []) c.loop-sum.invariant own
    ∙ sym (ap (map ruled_row) more ∙ map-append ruled_row (take i c.args.sums.now) (c.sum-item.result ∷ []))
