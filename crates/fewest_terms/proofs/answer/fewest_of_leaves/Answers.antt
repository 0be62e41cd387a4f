use Rattle.std.proofs.Common.{◌++◌, map, ◌∙◌, ap, arith}
use Rattle.addr_bits.specs.declared.address.Family.TheVariants.{V4, V6}
use Rattle.fewest_terms.specs.Chosen.{flat}
use Rattle.fewest_terms.specs.Leaves.{ruled_row, verdict_at}
use Rattle.fewest_terms.proofs.AnswerLemmas.{both-is, total-is, list-is, rows-are}
use Rattle.fewest_terms.proofs.answer.fewest_of_leaves.Goals as goal

pub plus-both-requires : goal.plus-both-requires
plus-both-requires c = λ x. omega (arith, c.in_ok-four.ensures.fits x, c.in_ok-six.ensures.fits x)

pub returns-clause-rows4 : goal.returns-clause-rows4
returns-clause-rows4 c =
    rows-are 32 (verdict_at 32 c.args.leaves4.now) c.in_ok-four.four.rows.items c.in_ok-rows_from.field-0 c.in_ok-four.ensures.rows (c.in_ok-rows_from.ensures ∙ ap (map ruled_row) c.deref-5.ensures.value)

pub returns-clause-rows6 : goal.returns-clause-rows6
returns-clause-rows6 c =
    rows-are 128 (verdict_at 128 c.args.leaves6.now) c.in_ok-six.six.rows.items c.in_ok-rows_from-2.field-0 c.in_ok-six.ensures.rows (c.in_ok-rows_from-2.ensures ∙ ap (map ruled_row) c.deref-6.ensures.value)

pub returns-clause-total : goal.returns-clause-total
returns-clause-total c =
    let both = both-is (verdict_at 32 c.args.leaves4.now) (verdict_at 128 c.args.leaves6.now) c.plus-both.result c.in_ok-four.four.needs c.in_ok-six.six.needs c.plus-both.ensures c.in_ok-four.ensures.needs c.in_ok-six.ensures.needs in
    total-is (verdict_at 32 c.args.leaves4.now) (verdict_at 128 c.args.leaves6.now) c.plus-both.result c.total.result both c.total.ensures

pub returns-clause-list : goal.returns-clause-list
returns-clause-list c =
    let both = both-is (verdict_at 32 c.args.leaves4.now) (verdict_at 128 c.args.leaves6.now) c.plus-both.result c.in_ok-four.four.needs c.in_ok-six.six.needs c.plus-both.ensures c.in_ok-four.ensures.needs c.in_ok-six.ensures.needs in
    list-is (verdict_at 32 c.args.leaves4.now) (verdict_at 128 c.args.leaves6.now) c.plus-both.result c.verdict_of_all-verdict.result c.in_ok-terms4.terms4.items c.in_ok-terms6.terms6.items c.new-list.result c.push_terms.new.list c.push_terms-2.new.list c.push_all.new.list
    both c.verdict_of_all-verdict.ensures c.in_ok-terms4.ensures c.in_ok-terms6.ensures c.new-list.ensures
    (c.in_ok-push_terms.ensures ∙ ap (λ xs. c.new-list.result ++ map (flat V4) xs) c.deref-3.ensures.value)
    (c.in_ok-push_terms-2.ensures ∙ ap (λ xs. c.push_terms.new.list ++ map (flat V6) xs) c.deref-4.ensures.value) c.in_ok-push_all.ensures
