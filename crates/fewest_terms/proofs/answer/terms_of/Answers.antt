use Rattle.std.proofs.Common.{◌++◌, [], sym, ◌∙◌, ap, append-nil}
use Rattle.fewest_terms.specs.Leaves.{sums_at, terms_at}
use Rattle.fewest_terms.proofs.WalkLemmas.{begin_all, sums_all, terms_all}
use Rattle.fewest_terms.proofs.answer.terms_of.Goals as goal

pub choose-requires-clause-begins : goal.choose-requires-clause-begins
choose-requires-clause-begins g c = begin_all g.W.Width.BITS c.args.leaves.now c.requires.leaves

pub choose-requires-clause-sums_begin : goal.choose-requires-clause-sums_begin
choose-requires-clause-sums_begin g c =
    ([], c.requires.sums ∙ sym (sums_all g.W.Width.BITS c.args.leaves.now c.requires.leaves) ∙ sym (append-nil (sums_at g.W.Width.BITS c.args.leaves.now 0 0)))

pub returns : goal.returns
returns g c =
    c.in_ok-choose.ensures.terms ∙ ap (λ xs. xs ++ terms_at g.W.Width.BITS c.args.leaves.now 0 0 c.args.had) c.new-terms.ensures.items ∙ terms_all g.W.Width.BITS c.args.leaves.now c.requires.leaves c.args.had
