-- The laws of check_host, as statements.
use Rattle.std.specs.Prelude.{◌≡◌, ℕ, ◌+◌, ◌<◌, ◌≤◌, ◌↔◌, suc, List, length, Contains}
use Rattle.addr_bits.specs.Address.{IsAddress, family_of}
use Rattle.addr_bits.specs.declared.address.Address.{Address}
use Rattle.addr_bits.specs.declared.address.Family.{Family}
use Rattle.spf_model.specs.Judging.{Labels, question_of, reversed_question}
use Rattle.zone_answers.specs.Zone.{Zone}
use Rattle.zone_answers.specs.Answers.{answer_of}
use Rattle.zone_answers.specs.Reversed.{reversed_class}
use Rattle.zone_answers.specs.declared.answer.QKind.{QKind}
use Rattle.zone_answers.specs.declared.answer.Question.{Question}
use Rattle.spf_model.specs.declared.outcome.Limits.{Limits}
use Rattle.spf_model.specs.declared.outcome.Counts.{Counts}
use Rattle.spf_model.specs.declared.outcome.Outcome.{Outcome}
use Rattle.spf_model.specs.Run.{Run, Answering, AnswerAlike, EndsWith, AsksFor, IsDialogue, says}
use Rattle.spf_model.specs.Check.{check}
use Rattle.spf_model.specs.Chains.{IsChain, GivesFlat}
use Rattle.spf_grammar.specs.declared.flat.FlatTerm.{FlatTerm}

-- zones that answer each question of a run alike
abbrev pub SameAnswers : Answering → Answering → Run → Type 0
SameAnswers zones others run = (question : Question) → AsksFor zones run question → others question ≡ zones question

-- a run depends on the answers to its own questions alone, and so do its questions
pub record RestsOnItsQuestions : Type 0 where
  pub ends : (zones others : Answering) (run : Run) (outcome : Outcome) (counts : Counts)
      → SameAnswers zones others run → EndsWith zones run outcome counts → EndsWith others run outcome counts
  pub asks : (zones others : Answering) (run : Run) (question : Question)
      → SameAnswers zones others run → AsksFor zones run question → AsksFor others run question

-- a run is one dialogue: it has one list of questions, in one order, and one outcome with its counts, and no run has
-- none. It ends as its dialogue does, and the questions that it asks are those of the list
pub record OneEnd : Type 0 where
  pub one : (zones : Answering) (run : Run) (questions others : List Question) (o p : Outcome) (c d : Counts)
      → IsDialogue zones run questions o c → IsDialogue zones run others p d → (questions ≡ others) × (o ≡ p) × (c ≡ d)
  pub never_none : (zones : Answering) (run : Run)
      → ¬ ((questions : List Question) (o : Outcome) (c : Counts) → ¬ IsDialogue zones run questions o c)
  pub ends : (zones : Answering) (run : Run) (o : Outcome) (c : Counts)
      → EndsWith zones run o c ↔ ((questions : List Question) × IsDialogue zones run questions o c)
  pub asks : (zones : Answering) (run : Run) (questions : List Question) (o : Outcome) (c : Counts)
      → IsDialogue zones run questions o c → (question : Question)
      → AsksFor zones run question ↔ Contains questions question
  pub one_end : (zones : Answering) (run : Run) (o p : Outcome) (c d : Counts) → EndsWith zones run o c
      → EndsWith zones run p d → (o ≡ p) × (c ≡ d)

-- the measure of the recursion: where the depth is more than the lookups that are left, more depth changes nothing
abbrev pub DepthSuffices : Type 0
DepthSuffices = (zones : Answering) (limits : Limits) (a : Address) (depth : ℕ) (domain : List ℕ) (name : Labels)
    (counts : Counts)
    (outcome : Outcome) (after : Counts) → counts.lookups ≤ limits.lookups → limits.lookups < depth + counts.lookups
    → EndsWith zones (check limits a depth domain name counts) outcome after
    ↔ EndsWith zones (check limits a (suc depth) domain name counts) outcome after

-- RFC 7208, section 6.1: a chain of at most one record more than the limit on lookups gives every address the verdict
-- of the first of all its terms that has it
abbrev pub ChainsGiveFirst : Type 0
ChainsGiveFirst = (zones : Answering) (limits : Limits) (a : Address) (domain : List ℕ) (name : Labels)
    (lists : List (List FlatTerm))
    → IsChain zones domain name lists → length lists ≤ suc limits.lookups → GivesFlat zones limits a domain name lists

-- two lists of zones answer a question for records of a kind alike where its answers are the same, and one at the
-- reversed names of a family's addresses where the classes at each of them are
pub record SaidAlike : Type 0 where
  pub plain : (zones others : List Zone) (name : Labels) (kind : QKind)
      → AnswerAlike (says others) (says zones) (question_of kind name)
      ↔ (answer_of others name kind ≡ answer_of zones name kind)
  pub reversed : (zones others : List Zone) (name : Labels) (family : Family)
      → AnswerAlike (says others) (says zones) (reversed_question family name)
      ↔ ((a : Address) → IsAddress a → family_of a ≡ family
      → reversed_class others name a ≡ reversed_class zones name a)
