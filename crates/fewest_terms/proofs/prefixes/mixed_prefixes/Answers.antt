use Rattle.std.proofs.Common.{◌≡◌, ◌∙◌, ap, map}
use Rattle.std.proofs.lemmas.Result.{IfOk-weaker}
use Rattle.fewest_terms.specs.Leaves.{verdict_at}
use Rattle.fewest_terms.specs.Row.{NeedRow}
use Rattle.fewest_terms.specs.Tables.{mixed_prefixes}
use Rattle.fewest_terms.proofs.WalkLemmas.{sum_rows-places}
use Rattle.fewest_terms.proofs.prefixes.mixed_prefixes.Goals as goal

pub returns : goal.returns
returns g c = IfOk-weaker c.prefixes_from.result
    (λ prefixes. prefixes ≡ map (λ (r : NeedRow). r.prefix) c.deref.result.now)
    (λ prefixes. prefixes ≡ mixed_prefixes g.W.Width.BITS (verdict_at g.W.Width.BITS c.args.leaves.now) g.W.Width.BITS 0)
    (λ x e. e ∙ ap (map (λ (r : NeedRow). r.prefix)) (c.deref.ensures.value ∙ c.in_ok-sums.ensures.rows) ∙ sum_rows-places g.W.Width.BITS (verdict_at g.W.Width.BITS c.args.leaves.now) g.W.Width.BITS 0)
    c.prefixes_from.ensures
