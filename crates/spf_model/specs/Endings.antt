-- An outcome as a verdict or another one (the project's own form).
use Rattle.std.specs.Prelude.{Option, Some, None, Result, Ok, Err}
use Rattle.spf_grammar.specs.declared.verdict.Verdict.{Verdict}
use Rattle.spf_model.specs.declared.outcome.Outcome.{Outcome}
use Rattle.spf_model.specs.declared.outcome.Outcome.TheVariants.{Nothing, Is, Perm, Temp, Unsettled}

-- the outcome that is kept
abbrev pub outcome_in : Result Verdict Outcome → Outcome
outcome_in (Ok verdict) = Is verdict
outcome_in (Err outcome) = outcome

-- RFC 7208, section 2.6: the verdict, where the outcome is one that a record gives an address by a qualifier
abbrev pub verdict_in : Outcome → Option Verdict
verdict_in (Is verdict) = Some verdict
verdict_in (Nothing place) = None
verdict_in (Perm cause place) = None
verdict_in (Temp cause place) = None
verdict_in (Unsettled cause place) = None
