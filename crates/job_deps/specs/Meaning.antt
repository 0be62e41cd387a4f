-- What the job means.
use Rattle.std.specs.Prelude.{◌≡◌, ℕ, List, [], Ok, flat_map, Contains}
use Rattle.addr_bits.specs.Prefix.{Cidr}
use Rattle.dns_name.specs.Name.{name_of_text}
use Rattle.zone_answers.specs.Questions.{question_text}
use Rattle.zone_answers.specs.Zone.{Zone}
use Rattle.zone_answers.specs.declared.answer.Question.{Question}
use Rattle.spf_model.specs.Result.{AreModest}
use Rattle.spf_model.specs.Run.{AnsweringEach, AnswerAlike, says}
use Rattle.spf_model.specs.declared.outcome.Limits.{Limits}
use Rattle.spf_model.specs.declared.outcome.Outcome.{Outcome}
use Rattle.symbolic_check.specs.Evaluation.{IsEvaluation}
use Rattle.loading.specs.Lines.{line_of}
use Rattle.loading.specs.declared.loaded.Loaded.{Loaded}
use Rattle.jobs.specs.Meaning.{Due, Gives, Meaning}
use Rattle.jobs.specs.declared.output.Output.{Output}
use Rattle.job_deps.specs.declared.deps.Deps.{Deps}

-- project's own choice: a line for each question, in order
abbrev pub question_lines : List Question → List ℕ
question_lines questions = flat_map (λ q. line_of [] (question_text q)) questions

-- RFC 7208, section 4: the bytes are the lines of the questions that check_host asks over these zones for some address
-- of either family, once each and in order
pub record AreAskedLines (zones : List Zone) (limits : Limits) (domain : List ℕ) (bytes : List ℕ) : Type 0 where
  pub asked : List Question
  pub v4 : List (Cidr × Outcome)
  pub v6 : List (Cidr × Outcome)
  pub evaluation : IsEvaluation (says zones) limits domain v4 v6 asked
  pub lines : bytes ≡ question_lines asked

-- the output is these lines; no question is told of
pub record AreDeps (job : Deps) (loaded : Loaded) (output : Output) : Type 0 where
  pub lines : AreAskedLines loaded.zones job.subject.limits job.subject.domain.text output.bytes
  pub untold : output.asked ≡ []

-- RFC 7208, section 4: the policy rests on the questions of the lines alone. Over all others that answer them alike,
-- every address has the same outcome, and the same questions are asked
pub record IsBest (job : Deps) (loaded : Loaded) (output : Output) : Type 0 where
  pub are : AreDeps job loaded output
  pub rests : (others : AnsweringEach)
      → ((question : Question) → Contains are.lines.asked question → AnswerAlike others (says loaded.zones) question)
      → IsEvaluation others job.subject.limits job.subject.domain.text are.lines.v4 are.lines.v6 are.lines.asked

-- the output is due
abbrev pub DepsDue : Deps → Loaded → Due → Type 0
DepsDue job loaded due = (output : Output) × AreDeps job loaded output × (due ≡ Gives output)

-- the domain is a legal name, and the limits are modest
pub record IsReady (job : Deps) : Type 0 where
  pub named : name_of_text job.subject.domain.text ≡ Ok job.subject.domain.name
  pub modest : AreModest job.subject.limits

-- what the job means
abbrev pub meaning_of_deps : Deps → Meaning
meaning_of_deps job =
    record { inputs = job.subject.inputs; IsReady = IsReady job; IsDue = DepsDue job; IsBest = IsBest job }
