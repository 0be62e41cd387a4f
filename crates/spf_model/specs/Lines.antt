-- The words of an outcome on the command line (the project's own choice, after RFC 7208, section 2.6).
use Rattle.std.specs.Prelude.{ℕ, List, [], ◌∷◌, ◌++◌, decimal, codes}
use Rattle.dns_name.specs.Printed.{printed_name}
use Rattle.spf_grammar.specs.declared.verdict.Verdict.{Verdict}
use Rattle.spf_grammar.specs.declared.verdict.Verdict.TheVariants.{Pass, Fail, SoftFail, Neutral}
use Rattle.spf_model.specs.declared.outcome.Cause.{Cause}
use Rattle.spf_model.specs.declared.outcome.Cause.TheVariants as cause
use Rattle.spf_model.specs.declared.outcome.Place.{Place}
use Rattle.spf_model.specs.declared.outcome.Outcome.{Outcome}
use Rattle.spf_model.specs.declared.outcome.Outcome.TheVariants.{Nothing, Is, Perm, Temp, Unsettled}

-- RFC 7208, section 2.6: the word of a verdict
abbrev pub verdict_word : Verdict → List ℕ
verdict_word Fail = codes "fail"
verdict_word SoftFail = codes "softfail"
verdict_word Pass = codes "pass"
verdict_word Neutral = codes "neutral"

-- project's own choice: the word of a cause
abbrev pub cause_word : Cause → List ℕ
cause_word cause.NoRecord = codes "norecord"
cause_word cause.Sender = codes "sender"
cause_word cause.Helo = codes "helo"
cause_word cause.Reverse = codes "reverse"
cause_word cause.Address = codes "address"
cause_word cause.Outside = codes "outside"
cause_word cause.Target = codes "target"
cause_word cause.Syntax = codes "syntax"
cause_word cause.Records = codes "records"
cause_word cause.Lookups = codes "lookups"
cause_word cause.Voids = codes "voids"
cause_word cause.Exchanges = codes "exchanges"
cause_word cause.Missing = codes "missing"
cause_word cause.Alias = codes "alias"

-- project's own choice: a cause and a place, which is the printed name and the number of the term
abbrev pub cause_words : Cause → Place → List ℕ
cause_words cause place = cause_word cause ++ 32 ∷ (printed_name place.name ++ 32 ∷ decimal place.term)

-- project's own choice: why an outcome is no verdict, and where
abbrev pub cause_text : Outcome → List ℕ
cause_text (Is verdict) = []
cause_text (Nothing place) = cause_words cause.NoRecord place
cause_text (Perm cause place) = cause_words cause place
cause_text (Temp cause place) = cause_words cause place
cause_text (Unsettled cause place) = cause_words cause place

-- RFC 7208, section 2.6: the words of an outcome. `open` is the project's own
abbrev pub outcome_words : Outcome → List ℕ
outcome_words (Is verdict) = verdict_word verdict
outcome_words (Nothing place) = codes "none " ++ cause_words cause.NoRecord place
outcome_words (Perm cause place) = codes "permerror " ++ cause_words cause place
outcome_words (Temp cause place) = codes "temperror " ++ cause_words cause place
outcome_words (Unsettled cause place) = codes "open " ++ cause_words cause place
