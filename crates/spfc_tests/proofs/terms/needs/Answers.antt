use Rattle.std.proofs.Common.{◌<◌, ◌^◌, arith}
use Rattle.spf_grammar.specs.declared.verdict.Verdict.TheVariants.{Fail, SoftFail, Pass, Neutral}
use Rattle.fewest_terms.specs.Tables.{number}
use Rattle.spfc_tests.proofs.terms.needs.Goals as goal

pub returns : goal.returns
returns c = λ x.
    elim x as (λ x. number (record { fail = c.from.result; softfail = c.from-2.result; pass = c.from-3.result; neutral = c.from-4.result }) x < 2 ^ 32) [
      | Fail ↦ omega arith
      | SoftFail ↦ omega arith
      | Pass ↦ omega arith
      | Neutral ↦ omega arith
    ]
