-- The law of an evaluation, as a statement.
use Rattle.std.specs.Prelude.{ℕ, List, Contains}
use Rattle.addr_bits.specs.Prefix.{Cidr}
use Rattle.zone_answers.specs.declared.answer.Question.{Question}
use Rattle.spf_model.specs.Run.{AnsweringEach, AnswerAlike}
use Rattle.spf_model.specs.declared.outcome.Limits.{Limits}
use Rattle.spf_model.specs.declared.outcome.Outcome.{Outcome}
use Rattle.symbolic_check.specs.Evaluation.{IsEvaluation}

-- the questions of an evaluation decide it: other zones that answer them alike have it too
abbrev pub RestsOnAsked : Type 0
RestsOnAsked = (zones others : AnsweringEach) (limits : Limits) (domain : List ℕ) (four six : List (Cidr × Outcome))
    (asked : List Question)
    → ((question : Question) → Contains asked question → AnswerAlike others zones question)
    → IsEvaluation zones limits domain four six asked → IsEvaluation others limits domain four six asked
