-- The least number of terms for both families: definitions of the project's own.
use Rattle.std.specs.Prelude.{ℕ, ◌+◌, ◌≤◌, ◌==◌, min, if◌then◌else◌, List, length}
use Rattle.spf_grammar.specs.declared.verdict.Verdict.{Verdict}
use Rattle.spf_grammar.specs.declared.verdict.Verdict.TheVariants.{Fail, SoftFail, Pass, Neutral}
use Rattle.spf_grammar.specs.declared.flat.FlatTerm.{FlatTerm}
use Rattle.spf_grammar.specs.Lists.{IsSame}
use Rattle.fewest_terms.specs.Needs.{need}

-- the least of four numbers where each verdict but neutral takes one term more, which is `all`
unfoldable pub least_with_all : (Verdict → ℕ) → ℕ
least_with_all s = min (s Neutral) (min (1 + s Fail) (min (1 + s SoftFail) (1 + s Pass)))

-- the first verdict that gives the least, in this order
unfoldable pub verdict_of_all : (Verdict → ℕ) → Verdict
verdict_of_all s =
    if s Neutral == least_with_all s then Neutral
    else (if 1 + s Fail == least_with_all s then Fail
    else (if 1 + s SoftFail == least_with_all s then SoftFail else Pass))

-- what all addresses of both families need
unfoldable pub need_of_both : (v4 v6 : ℕ → Verdict) → Verdict → ℕ
need_of_both v4 v6 c = need v4 32 0 c + need v6 128 0 c

-- how many terms a shortest list for both families has
unfoldable pub total : (v4 v6 : ℕ → Verdict) → ℕ
total v4 v6 = least_with_all (need_of_both v4 v6)

-- no list with the same verdicts has fewer terms
abbrev pub NoListIsShorter : Type 0
NoListIsShorter = (v4 v6 : ℕ → Verdict) (list : List FlatTerm) → IsSame v4 v6 list → total v4 v6 ≤ length list
