use Rattle.std.proofs.Common.{◌++◌, length, arith, ◌∙◌, ap}
use Rattle.fewest_terms.specs.Leaves.{sums_at, verdict_at}
use Rattle.fewest_terms.proofs.WalkLemmas.{begin_all, sums_all, need_all, need-leaves}
use Rattle.fewest_terms.proofs.answer.sums_of.Goals as goal

pub walk-requires-clause-begins : goal.walk-requires-clause-begins
walk-requires-clause-begins g c = begin_all g.W.Width.BITS c.args.leaves.now c.requires.leaves

pub returns-clause-rows : goal.returns-clause-rows
returns-clause-rows g c =
    c.in_ok-walked.ensures.sums ∙ ap (λ xs. xs ++ sums_at g.W.Width.BITS c.args.leaves.now 0 0) c.new-rows.ensures.items ∙ sums_all g.W.Width.BITS c.args.leaves.now c.requires.leaves

pub returns-clause-needs : goal.returns-clause-needs
returns-clause-needs g c = λ x. c.in_ok-walked.ensures.needs x ∙ need_all g.W.Width.BITS c.args.leaves.now c.requires.leaves x

pub returns-clause-fits : goal.returns-clause-fits
returns-clause-fits g c = λ x. omega (
  arith,
  c.in_ok-walked.ensures.needs x,
  need_all g.W.Width.BITS c.args.leaves.now c.requires.leaves x,
  need-leaves g.W.Width.BITS (verdict_at g.W.Width.BITS c.args.leaves.now) g.W.Width.BITS 0 x,
  ap length c.requires.leaves,
)
