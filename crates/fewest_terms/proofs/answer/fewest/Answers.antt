use Rattle.std.proofs.Common.{rules, ◌≡◌, sym, ◌∙◌, ap, ap₂, subst, refl}
use denote.Enum.Bare.{same_true}
use Rattle.spf_grammar.specs.contracts.verdict.Verdict.{the_type}
use Rattle.spf_grammar.specs.declared.verdict.Verdict.TheVariants.{Fail, SoftFail, Pass, Neutral}
use Rattle.fewest_terms.specs.Chosen.{chosen_list}
use Rattle.fewest_terms.specs.Leaves.{AreLeaves, verdict_at}
use Rattle.fewest_terms.specs.Tables.{need_rows}
use Rattle.fewest_terms.specs.Totals.{total}
use Rattle.fewest_terms.proofs.AnswerLemmas.{list-same, list-shortest, list-counted, list-prefixes, list-gives4, list-gives6}
use Rattle.fewest_terms.proofs.TrieLeaves.{AreLeaves-IsTrie, same-SameLeaves}
use Rattle.fewest_terms.proofs.answer.fewest.Goals as goal

pub fewest_of_leaves-requires-clause-leaves4 : goal.fewest_of_leaves-requires-clause-leaves4
fewest_of_leaves-requires-clause-leaves4 c =
    subst (AreLeaves 32) (sym c.as_slice.ensures) (AreLeaves-IsTrie 32 (elim [ Fail ↦ refl | SoftFail ↦ refl | Pass ↦ refl | Neutral ↦ refl ]) c.in_ok-leaves4.leaves4 c.in_ok-leaves4.ensures.listed)

pub fewest_of_leaves-requires-clause-leaves6 : goal.fewest_of_leaves-requires-clause-leaves6
fewest_of_leaves-requires-clause-leaves6 c =
    subst (AreLeaves 128) (sym c.as_slice-2.ensures) (AreLeaves-IsTrie 128 (elim [ Fail ↦ refl | SoftFail ↦ refl | Pass ↦ refl | Neutral ↦ refl ]) c.in_ok-leaves6.leaves6 c.in_ok-leaves6.ensures.listed)

pub returns-clause-rows4 : goal.returns-clause-rows4
returns-clause-rows4 c =
    let same : c.as_slice.result.now ≡ c.args.v4.now = c.as_slice.ensures ∙ same-SameLeaves (same_true the_type (search rules)) c.in_ok-leaves4.leaves4 c.args.v4.now c.in_ok-leaves4.ensures.same in
    c.in_ok-found.ensures.rows4 ∙ ap (λ leaves. need_rows 32 (verdict_at 32 leaves) 32 0) same

pub returns-clause-rows6 : goal.returns-clause-rows6
returns-clause-rows6 c =
    let same : c.as_slice-2.result.now ≡ c.args.v6.now = c.as_slice-2.ensures ∙ same-SameLeaves (same_true the_type (search rules)) c.in_ok-leaves6.leaves6 c.args.v6.now c.in_ok-leaves6.ensures.same in
    c.in_ok-found.ensures.rows6 ∙ ap (λ leaves. need_rows 128 (verdict_at 128 leaves) 128 0) same

pub returns-clause-total : goal.returns-clause-total
returns-clause-total c =
    let four : c.as_slice.result.now ≡ c.args.v4.now = c.as_slice.ensures ∙ same-SameLeaves (same_true the_type (search rules)) c.in_ok-leaves4.leaves4 c.args.v4.now c.in_ok-leaves4.ensures.same in
    let six : c.as_slice-2.result.now ≡ c.args.v6.now = c.as_slice-2.ensures ∙ same-SameLeaves (same_true the_type (search rules)) c.in_ok-leaves6.leaves6 c.args.v6.now c.in_ok-leaves6.ensures.same in
    c.in_ok-found.ensures.total ∙ ap₂ (λ x y. total (verdict_at 32 x) (verdict_at 128 y)) four six

pub returns-clause-list : goal.returns-clause-list
returns-clause-list c =
    let four : c.as_slice.result.now ≡ c.args.v4.now = c.as_slice.ensures ∙ same-SameLeaves (same_true the_type (search rules)) c.in_ok-leaves4.leaves4 c.args.v4.now c.in_ok-leaves4.ensures.same in
    let six : c.as_slice-2.result.now ≡ c.args.v6.now = c.as_slice-2.ensures ∙ same-SameLeaves (same_true the_type (search rules)) c.in_ok-leaves6.leaves6 c.args.v6.now c.in_ok-leaves6.ensures.same in
    c.in_ok-found.ensures.list ∙ ap₂ (λ x y. chosen_list (verdict_at 32 x) (verdict_at 128 y)) four six

pub returns-clause-same : goal.returns-clause-same
returns-clause-same c = list-same (verdict_at 32 c.args.v4.now) (verdict_at 128 c.args.v6.now) c.in_ok-found.found.list (returns-clause-list c)

pub returns-clause-shortest : goal.returns-clause-shortest
returns-clause-shortest c = λ other same. list-shortest (verdict_at 32 c.args.v4.now) (verdict_at 128 c.args.v6.now) c.in_ok-found.found.list other (returns-clause-list c) same

pub returns-clause-counted : goal.returns-clause-counted
returns-clause-counted c = list-counted (verdict_at 32 c.args.v4.now) (verdict_at 128 c.args.v6.now) c.in_ok-found.found.list c.in_ok-found.found.total (returns-clause-list c) (returns-clause-total c)

pub returns-clause-prefixes : goal.returns-clause-prefixes
returns-clause-prefixes c = list-prefixes (verdict_at 32 c.args.v4.now) (verdict_at 128 c.args.v6.now) c.in_ok-found.found.list (returns-clause-list c)

pub returns-clause-gives4 : goal.returns-clause-gives4
returns-clause-gives4 c = list-gives4 (verdict_at 32 c.args.v4.now) (verdict_at 128 c.args.v6.now) c.in_ok-found.found.list (returns-clause-list c)

pub returns-clause-gives6 : goal.returns-clause-gives6
returns-clause-gives6 c = list-gives6 (verdict_at 32 c.args.v4.now) (verdict_at 128 c.args.v6.now) c.in_ok-found.found.list (returns-clause-list c)
