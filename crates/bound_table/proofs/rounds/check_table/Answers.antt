use Rattle.std.proofs.Common.{rules, ◌≡◌, sym, ◌∙◌, refl, subst}
use denote.Enum.Bare.{same_true}
use Rattle.spf_grammar.specs.contracts.verdict.Verdict.{the_type}
use Rattle.spf_grammar.specs.declared.verdict.Verdict.TheVariants.{Fail, SoftFail, Pass, Neutral}
use Rattle.fewest_terms.specs.Leaves.{AreLeaves, verdict_at}
use Rattle.fewest_terms.proofs.TrieLeaves.{AreLeaves-IsTrie, same-SameLeaves}
use Rattle.bound_table.specs.Answers.{IsCheckAnswer}
use Rattle.bound_table.proofs.rounds.check_table.Goals as goal

pub check_by_leaves-requires-clause-leaves4 : goal.check_by_leaves-requires-clause-leaves4
check_by_leaves-requires-clause-leaves4 c =
    subst (AreLeaves 32) (sym c.as_slice.ensures) (AreLeaves-IsTrie 32 (elim [ Fail ↦ refl | SoftFail ↦ refl | Pass ↦ refl | Neutral ↦ refl ]) c.in_ok-leaves4.leaves4 c.in_ok-leaves4.ensures.listed)

pub check_by_leaves-requires-clause-leaves6 : goal.check_by_leaves-requires-clause-leaves6
check_by_leaves-requires-clause-leaves6 c =
    subst (AreLeaves 128) (sym c.as_slice-2.ensures) (AreLeaves-IsTrie 128 (elim [ Fail ↦ refl | SoftFail ↦ refl | Pass ↦ refl | Neutral ↦ refl ]) c.in_ok-leaves6.leaves6 c.in_ok-leaves6.ensures.listed)

pub returns : goal.returns
returns c =
    let four : c.as_slice.result.now ≡ c.args.v4.now = c.as_slice.ensures ∙ same-SameLeaves (same_true the_type (search rules)) c.in_ok-leaves4.leaves4 c.args.v4.now c.in_ok-leaves4.ensures.same in
    let six : c.as_slice-2.result.now ≡ c.args.v6.now = c.as_slice-2.ensures ∙ same-SameLeaves (same_true the_type (search rules)) c.in_ok-leaves6.leaves6 c.args.v6.now c.in_ok-leaves6.ensures.same in
    subst (λ leaves. IsCheckAnswer (verdict_at 32 c.args.v4.now) (verdict_at 128 leaves) c.args.t.now c.check_by_leaves.result) six
    (subst (λ leaves. IsCheckAnswer (verdict_at 32 leaves) (verdict_at 128 c.as_slice-2.result.now) c.args.t.now c.check_by_leaves.result) four c.check_by_leaves.ensures)
