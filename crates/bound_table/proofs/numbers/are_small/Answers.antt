use Rattle.std.proofs.Common.{◌<◌, ◌^◌, arith, leb-true, le-leb}
use Rattle.spf_grammar.specs.declared.verdict.Verdict.TheVariants.{Fail, SoftFail, Pass, Neutral}
use Rattle.fewest_terms.specs.Tables.{number}
use Rattle.bound_table.proofs.numbers.are_small.Goals as goal

pub returns : goal.returns
returns c = (
  (λ h x. let most = leb-true _ _ h in elim x as (λ x. number c.args.needs.now x < 2 ^ 32) [
    | Fail ↦ omega (arith, most)
    | SoftFail ↦ omega (arith, most)
    | Pass ↦ omega (arith, most)
    | Neutral ↦ omega (arith, most)
  ]),
  λ h. le-leb _ _ (omega (arith, h Fail, h SoftFail, h Pass, h Neutral)),
)
