-- How strong a verdict of RFC 7208, section 2.6, is: the project's own order.
use Rattle.std.specs.Prelude.{ℕ, nat_lt, Bool, true, false, if◌then◌else◌, List, [], ◌∷◌}
use Rattle.spf_grammar.specs.declared.verdict.Verdict.{Verdict}
use Rattle.spf_grammar.specs.declared.verdict.Verdict.TheVariants.{Fail, SoftFail, Pass, Neutral}

-- from the strongest: pass, neutral, softfail, fail
abbrev pub strength : Verdict → ℕ
strength Pass = 3
strength Neutral = 2
strength SoftFail = 1
strength Fail = 0

-- the stronger of two
abbrev pub strongest : Verdict → Verdict → Verdict
strongest a b = if nat_lt (strength a) (strength b) then b else a

-- the weaker of two
abbrev pub weakest : Verdict → Verdict → Verdict
weakest a b = if nat_lt (strength b) (strength a) then b else a

-- the stronger of two, or the weaker
abbrev pub chosen : (weak : Bool) → Verdict → Verdict → Verdict
chosen false a b = strongest a b
chosen true a b = weakest a b

-- the verdict than which none is weaker, or the one than which none is stronger
abbrev pub of_none : (weak : Bool) → Verdict
of_none false = Fail
of_none true = Pass

-- the strongest of verdicts, or the weakest
abbrev pub joined : (weak : Bool) → List Verdict → Verdict
joined weak [] = of_none weak
joined weak (v ∷ vs) = chosen weak v (joined weak vs)
