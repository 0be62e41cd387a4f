-- Verdicts (RFC 7208, section 2.6): when two are the same, and the project's own sums over the four.
use Rattle.std.specs.Prelude.{ℕ, min, Bool, true, false, if◌then◌else◌}
use Rattle.spf_grammar.specs.declared.verdict.Verdict.{Verdict}
use Rattle.spf_grammar.specs.declared.verdict.Verdict.TheVariants.{Fail, SoftFail, Pass, Neutral}

-- whether two verdicts are the same
abbrev pub is_same : Verdict → Verdict → Bool
is_same Fail Fail = true
is_same SoftFail SoftFail = true
is_same Pass Pass = true
is_same Neutral Neutral = true
is_same _ _ = false

-- the terms that it takes to give all addresses of a prefix the verdict d, where they have c so far
unfoldable pub cost : Verdict → Verdict → ℕ
cost d c = if is_same d c then 0 else 1

-- the least of four numbers, one for each verdict
unfoldable pub least : (Verdict → ℕ) → ℕ
least s = min (min (s Fail) (s SoftFail)) (min (s Pass) (s Neutral))
