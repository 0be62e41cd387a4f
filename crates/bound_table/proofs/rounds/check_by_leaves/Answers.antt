use Rattle.std.proofs.Common.{◌≡◌, None, ◌∙◌, subst, inr}
use Rattle.fewest_terms.specs.Leaves.{verdict_at}
use Rattle.fewest_terms.specs.Tables.{mixed_prefixes}
use Rattle.bound_table.specs.Judging.{IsMisplacedAnswer}
use Rattle.bound_table.proofs.rounds.check_by_leaves.Goals as goal

pub returns-in-Some-miscounted_line : goal.returns-in-Some-miscounted_line
returns-in-Some-miscounted_line c =
    let v4 = verdict_at 32 c.args.leaves4.now in
    let v6 = verdict_at 128 c.args.leaves6.now in
    let t = c.args.t.now in
    let mixed4 : c.as_slice.result.now ≡ mixed_prefixes 32 v4 32 0 = c.as_slice.ensures ∙ c.in_ok-mixed4.ensures in
    let mixed6 : c.as_slice-2.result.now ≡ mixed_prefixes 128 v6 128 0 = c.as_slice-2.ensures ∙ c.in_ok-mixed6.ensures in
    let here = subst (λ m. IsMisplacedAnswer c.as_slice.result.now m t.rows4 t.rows6 t.last None) mixed6 c.in_default.ensures in
    let none = subst (λ m. IsMisplacedAnswer m (mixed_prefixes 128 v6 128 0) t.rows4 t.rows6 t.last None) mixed4 here in
    inr (none.1, c.in-Some-miscounted_line.ensures)
