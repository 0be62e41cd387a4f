use Rattle.std.proofs.Common.{rules, ◌-◌, ◌++◌, length, arith, sym, ◌∙◌, ap}
use Rattle.fewest_terms.specs.Chosen.{term_for}
use Rattle.fewest_terms.specs.Row.{NeedRow}
use Rattle.fewest_terms.specs.Tables.{number}
use Rattle.fewest_terms.specs.Leaves.{verdict_at, bits_at, passed_down}
use Rattle.fewest_terms.proofs.WalkLemmas.{within_at, alone_read, leaf_read, halves_read, high_begins, sum_rows-plain}
use Rattle.fewest_terms.proofs.ChooseLemmas.{half_sums, head_at, high_sums, leaf_end, row_end, terms_end, chosen-plain}
use Rattle.fewest_terms.proofs.choose.+choose.Goals as goal

pub offset_bounds-leaves-at : goal.offset_bounds-leaves-at
offset_bounds-leaves-at g t c = omega (arith, within_at g.W.Width.BITS c.args.leaves.now c.args.at.leaf c.args.len c.requires.begins)

pub bounds-leaves-at : goal.bounds-leaves-at
bounds-leaves-at g t c = omega (arith, within_at g.W.Width.BITS c.args.leaves.now c.args.at.leaf c.args.len c.requires.begins)

pub overflow_add-result : goal.overflow_add-result
overflow_add-result g t c = omega (arith, within_at g.W.Width.BITS c.args.leaves.now c.args.at.leaf c.args.len c.requires.begins)

pub returns-then-len-clause-leaf : goal.returns-then-len-clause-leaf
returns-then-len-clause-leaf g t c =
    let a = alone_read g.W.Width.BITS c.args.leaves.now c.args.at.leaf c.args.len c.index-leaves-at.result c.requires.len_in c.requires.begins c.index-leaves-at.is (sym c.len.ensures.value ∙ c.if-len.true) in
    omega (arith, a.one)

pub returns-then-len-clause-row : goal.returns-then-len-clause-row
returns-then-len-clause-row g t c =
    let a = alone_read g.W.Width.BITS c.args.leaves.now c.args.at.leaf c.args.len c.index-leaves-at.result c.requires.len_in c.requires.begins c.index-leaves-at.is (sym c.len.ensures.value ∙ c.if-len.true) in
    omega (arith, ap length (sum_rows-plain g.W.Width.BITS (verdict_at g.W.Width.BITS c.args.leaves.now) (g.W.Width.BITS - c.args.len) (bits_at g.W.Width.BITS c.args.leaves.now c.args.at.leaf c.args.len) a.plain))

pub returns-then-len-clause-terms : goal.returns-then-len-clause-terms
returns-then-len-clause-terms g t c =
    let a = alone_read g.W.Width.BITS c.args.leaves.now c.args.at.leaf c.args.len c.index-leaves-at.result c.requires.len_in c.requires.begins c.index-leaves-at.is (sym c.len.ensures.value ∙ c.if-len.true) in
    let leaf = leaf_read g.W.Width.BITS c.args.leaves.now c.args.at.leaf c.args.len c.index-leaves-at.result c.requires.begins c.index-leaves-at.is ∙ a.whole in
    c.in_ok-push_term.ensures ∙ ap (λ l. c.args.terms.now.items ++ term_for l.0 l.1 c.args.had) leaf
    ∙ ap (λ xs. c.args.terms.now.items ++ xs) (sym (chosen-plain g.W.Width.BITS (verdict_at g.W.Width.BITS c.args.leaves.now) (g.W.Width.BITS - c.args.len) (bits_at g.W.Width.BITS c.args.leaves.now c.args.at.leaf c.args.len) c.args.had a.plain))

pub offset_bounds-sums-at : goal.offset_bounds-sums-at
offset_bounds-sums-at g t c =
    let h = halves_read g.W.Width.BITS c.args.leaves.now c.args.at.leaf c.args.len c.index-leaves-at.result c.requires.len_in c.requires.begins c.index-leaves-at.is (λ q. c.if-len.false (c.len.ensures.value ∙ q)) in
    let s = half_sums g.W.Width.BITS c.args.leaves.now c.args.at.leaf c.args.len h c.args.sums.now c.args.at.row c.requires.sums_begin in
    omega (arith, s.within)

pub bounds-sums-at : goal.bounds-sums-at
bounds-sums-at g t c =
    let h = halves_read g.W.Width.BITS c.args.leaves.now c.args.at.leaf c.args.len c.index-leaves-at.result c.requires.len_in c.requires.begins c.index-leaves-at.is (λ q. c.if-len.false (c.len.ensures.value ∙ q)) in
    let s = half_sums g.W.Width.BITS c.args.leaves.now c.args.at.leaf c.args.len h c.args.sums.now c.args.at.row c.requires.sums_begin in
    s.within

pub overflow_add-low : goal.overflow_add-low
overflow_add-low g t c =
    let h = halves_read g.W.Width.BITS c.args.leaves.now c.args.at.leaf c.args.len c.index-leaves-at.result c.requires.len_in c.requires.begins c.index-leaves-at.is (λ q. c.if-len.false (c.len.ensures.value ∙ q)) in
    let s = half_sums g.W.Width.BITS c.args.leaves.now c.args.at.leaf c.args.len h c.args.sums.now c.args.at.row c.requires.sums_begin in
    omega (arith, s.within)

pub choose-requires : goal.choose-requires
choose-requires g t c κs within =
    let h = halves_read g.W.Width.BITS c.args.leaves.now c.args.at.leaf c.args.len c.index-leaves-at.result c.requires.len_in c.requires.begins c.index-leaves-at.is (λ q. c.if-len.false (c.len.ensures.value ∙ q)) in
    let s = half_sums g.W.Width.BITS c.args.leaves.now c.args.at.leaf c.args.len h c.args.sums.now c.args.at.row c.requires.sums_begin in
    (search rules, (search rules, (omega (arith, h.open_is), (h.low, s.low))))

pub choose-requires-2 : goal.choose-requires-2
choose-requires-2 g t c κs within =
    let h = halves_read g.W.Width.BITS c.args.leaves.now c.args.at.leaf c.args.len c.index-leaves-at.result c.requires.len_in c.requires.begins c.index-leaves-at.is (λ q. c.if-len.false (c.len.ensures.value ∙ q)) in
    let s = half_sums g.W.Width.BITS c.args.leaves.now c.args.at.leaf c.args.len h c.args.sums.now c.args.at.row c.requires.sums_begin in
    let begins = high_begins g.W.Width.BITS c.args.leaves.now c.args.at.leaf c.args.len h c.in_ok-high.high.leaf c.in_ok-high.ensures.leaf in
    let sums = high_sums g.W.Width.BITS c.args.leaves.now c.args.at.leaf c.args.len h c.args.sums.now c.args.at.row c.in_ok-high.high.leaf c.in_ok-high.high.row s c.in_ok-high.ensures.leaf c.in_ok-high.ensures.row in
    (search rules, (search rules, (omega (arith, h.open_is), (begins, sums))))

pub returns-clause-leaf : goal.returns-clause-leaf
returns-clause-leaf g t c =
    let h = halves_read g.W.Width.BITS c.args.leaves.now c.args.at.leaf c.args.len c.index-leaves-at.result c.requires.len_in c.requires.begins c.index-leaves-at.is (λ q. c.if-len.false (c.len.ensures.value ∙ q)) in
    leaf_end g.W.Width.BITS c.args.leaves.now c.args.at.leaf c.args.len h c.in_ok-high.high.leaf c.in_ok-end.end.leaf c.in_ok-high.ensures.leaf c.in_ok-end.ensures.leaf

pub returns-clause-row : goal.returns-clause-row
returns-clause-row g t c =
    let h = halves_read g.W.Width.BITS c.args.leaves.now c.args.at.leaf c.args.len c.index-leaves-at.result c.requires.len_in c.requires.begins c.index-leaves-at.is (λ q. c.if-len.false (c.len.ensures.value ∙ q)) in
    row_end g.W.Width.BITS c.args.leaves.now c.args.at.leaf c.args.len h c.in_ok-high.high.leaf c.args.at.row c.in_ok-high.high.row c.in_ok-end.end.row c.in_ok-high.ensures.leaf c.in_ok-high.ensures.row c.in_ok-end.ensures.row

pub returns-clause-terms : goal.returns-clause-terms
returns-clause-terms g t c =
    let h = halves_read g.W.Width.BITS c.args.leaves.now c.args.at.leaf c.args.len c.index-leaves-at.result c.requires.len_in c.requires.begins c.index-leaves-at.is (λ q. c.if-len.false (c.len.ensures.value ∙ q)) in
    let head = head_at g.W.Width.BITS c.args.leaves.now c.args.at.leaf c.args.len h c.args.sums.now c.args.at.row c.index-sums-at.result c.requires.sums_begin c.index-sums-at.is in
    let prefix = ap (λ (r : NeedRow). r.prefix) c.sum.view_is ∙ head.0 in
    let numbers = ap (λ (r : NeedRow). number r.needs) c.sum.view_is ∙ head.1 in
    terms_end g.W.Width.BITS c.args.leaves.now c.args.at.leaf c.args.len h c.in_ok-high.high.leaf c.args.had c.passed_down-verdict.result c.args.terms.now.items c.choose.new.terms.items c.choose-2.new.terms.items c.push_term-2.new.terms.items c.in_ok-high.ensures.leaf
    (c.passed_down-verdict.ensures ∙ ap (λ f. passed_down f c.args.had) numbers) c.in_ok-high.ensures.terms c.in_ok-end.ensures.terms
    (c.in_ok-push_term-2.ensures ∙ ap (λ p. c.choose-2.new.terms.items ++ term_for p c.passed_down-verdict.result c.args.had) prefix)
