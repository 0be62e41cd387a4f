use Rattle.std.proofs.Common.{◌≤◌, arith, leb-true, le-leb}
use Rattle.std.proofs.lemmas.Bool.{false≢true}
use Rattle.spf_grammar.specs.declared.verdict.Verdict.TheVariants.{Fail, SoftFail, Pass, Neutral}
use Rattle.fewest_terms.specs.Tables.{number}
use Rattle.bound_table.proofs.check.is_at_most.Goals as goal

pub returns-then-most-row : goal.returns-then-most-row
returns-then-most-row c = ((λ h. absurd (false≢true h)), λ h. absurd (omega (arith, h Fail)))

pub returns-then-most-row-2 : goal.returns-then-most-row-2
returns-then-most-row-2 c = ((λ h. absurd (false≢true h)), λ h. absurd (omega (arith, h SoftFail)))

pub returns-then-most-row-3 : goal.returns-then-most-row-3
returns-then-most-row-3 c = ((λ h. absurd (false≢true h)), λ h. absurd (omega (arith, h Pass)))

pub returns : goal.returns
returns c = (
  (λ h x. elim x as (λ x. number c.args.row.now x ≤ number c.args.most.now x) [
    | Fail ↦ omega arith
    | SoftFail ↦ omega arith
    | Pass ↦ omega arith
    | Neutral ↦ leb-true _ _ h
  ]),
  λ h. le-leb _ _ (h Neutral),
)
