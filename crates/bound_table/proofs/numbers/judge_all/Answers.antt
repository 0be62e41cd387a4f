use Rattle.std.proofs.Common.{◌≡◌, length, ◌∙◌, ap₂, subst, arith}
use Rattle.std.proofs.Math.Nat.{sub-zero}
use Rattle.fewest_terms.specs.Leaves.{verdict_at}
use Rattle.fewest_terms.specs.Tables.{claimed}
use Rattle.fewest_terms.proofs.WalkLemmas.{begin_all, bits_all}
use Rattle.bound_table.specs.Judging.{IsFirstWrong}
use Rattle.bound_table.specs.Placed.{rows_of}
use Rattle.bound_table.proofs.NumberLemmas.{all_begin, all_mixed}
use Rattle.bound_table.proofs.numbers.judge_all.Goals as goal

pub judge-requires-clause-begins : goal.judge-requires-clause-begins
judge-requires-clause-begins g c = begin_all g.W.Width.BITS c.args.leaves.now c.requires.leaves

pub judge-requires-clause-rows_begin : goal.judge-requires-clause-rows_begin
judge-requires-clause-rows_begin g c = all_begin g.W.Width.BITS c.args.leaves.now c.args.rows.now c.requires.leaves c.requires.places

pub returns-clause-claims : goal.returns-clause-claims
returns-clause-claims g c = λ x.
    c.judge.ensures.claims x ∙ ap₂ (λ j m. claimed (verdict_at g.W.Width.BITS c.args.leaves.now) j m (rows_of c.args.rows.now) x) (sub-zero g.W.Width.BITS) (bits_all g.W.Width.BITS c.args.leaves.now c.requires.leaves)

pub returns-clause-fault : goal.returns-clause-fault
returns-clause-fault g c =
    let whole : c.judge.result.next.row ≡ length c.args.rows.now = c.judge.ensures.row ∙ omega (arith, all_mixed g.W.Width.BITS c.args.leaves.now c.args.rows.now c.requires.leaves c.requires.places) in
    subst (λ till. IsFirstWrong g.W.Width.BITS (verdict_at g.W.Width.BITS c.args.leaves.now) c.args.rows.now 0 till c.judge.result.fault) whole c.judge.ensures.fault
