-- An evaluation as a dialogue: it ends, or asks a question and goes on with the answer, or reads a text and goes on
-- with its policy (the project's own form; it says once what is asked and what is answered, for the outcome and for the
-- questions).
use Rattle.std.specs.Prelude.{◌≡◌, ℕ, List, [], ◌∷◌, ◌⊎◌, Option}
use Rattle.addr_bits.specs.Address.{IsAddress}
use Rattle.addr_bits.specs.declared.address.Address.{Address}
use Rattle.addr_bits.specs.declared.address.Address.TheVariants.{V4, V6}
use Rattle.zone_answers.specs.declared.answer.QKind.TheVariants as kind
use Rattle.zone_answers.specs.declared.answer.Question.{Question}
use Rattle.zone_answers.specs.declared.answer.Answer.{Answer}
use Rattle.zone_answers.specs.declared.answer.Answer.TheVariants.{Outside, NoName, Loop, Found}
use Rattle.zone_answers.specs.declared.ask_kind.AskKind.{AskKind}
use Rattle.zone_answers.specs.declared.ask_kind.AskKind.TheVariants.{A, Aaaa, Mx, Txt, Reverse4, Reverse6}
use Rattle.zone_answers.specs.declared.class.Class.{Class}
use Rattle.zone_answers.specs.declared.class.Class.TheVariants.{Hit, Void, Beyond, Round}
use Rattle.zone_answers.specs.Zone.{Zone}
use Rattle.zone_answers.specs.Answers.{answer_of}
use Rattle.zone_answers.specs.Reversed.{reversed_class}
use Rattle.spf_grammar.specs.declared.policy.Policy.{Policy}
use Rattle.spf_grammar.specs.Grammar.{ReadAs}
use Rattle.spf_model.specs.declared.outcome.Counts.{Counts}
use Rattle.spf_model.specs.declared.outcome.Outcome.{Outcome}

-- RFC 7208, section 4.6: an evaluation, which ends with an outcome and the counts so far
pub data Run : Type 0 where
  Ends : Outcome → Counts → Run
  Asks : Question → (Answer → Run) → Run
  Reads : List ℕ → (Option Policy → Run) → Run

-- a run, and then what its outcome and its counts lead to
abbrev pub then_do : Run → (Outcome → Counts → Run) → Run
then_do (Ends outcome counts) go = go outcome counts
then_do (Asks question next) go = Asks question (λ answer. then_do (next answer) go)
then_do (Reads text next) go = Reads text (λ policy. then_do (next policy) go)

-- what is said to each question
abbrev pub Answering : Type 0
Answering = Question → Answer

-- what is said to each question for each address
abbrev pub AnsweringEach : Type 0
AnsweringEach = Address → Answering

-- project's own choice: of the answer at a reversed name only the class is heard
abbrev pub heard : Class → Answer
heard Hit = Found []
heard Void = NoName
heard Beyond = Outside
heard Round = Loop

-- RFC 1034, section 4.3.2: what the lent zones say at a name to a question of a kind, for an address. A question for
-- records of a kind is answered alike for all addresses; one at the reversed names of a family's addresses by the class
-- at the address's own (RFC 7208, section 5.7), and never asked for one of the other family
abbrev pub said : List Zone → List (List ℕ) → Address → AskKind → Answer
said zones name a A = answer_of zones name kind.A
said zones name a Aaaa = answer_of zones name kind.Aaaa
said zones name a Mx = answer_of zones name kind.Mx
said zones name a Txt = answer_of zones name kind.Txt
said zones name (V4 a) Reverse4 = heard (reversed_class zones name (V4 a))
said zones name (V6 a) Reverse4 = Outside
said zones name (V4 a) Reverse6 = Outside
said zones name (V6 a) Reverse6 = heard (reversed_class zones name (V6 a))

-- RFC 1034, section 4.3.2: what the lent zones say to a question for an address
unfoldable pub says : List Zone → AnsweringEach
says zones a question = said zones question.name a question.kind

-- the question is answered alike for every address
abbrev pub AnswerAlike : AnsweringEach → AnsweringEach → Question → Type 0
AnswerAlike others zones question = (a : Address) → IsAddress a → others a question ≡ zones a question

-- the run ends with this outcome and these counts, where the zones answer and the grammar reads
abbrev pub EndsWith : Answering → Run → Outcome → Counts → Type 0
EndsWith zones (Ends o c) outcome counts = (outcome ≡ o) × (counts ≡ c)
EndsWith zones (Asks question next) outcome counts = EndsWith zones (next (zones question)) outcome counts
EndsWith zones (Reads text next) outcome counts = (policy : Option Policy) × ReadAs text policy
    × EndsWith zones (next policy) outcome counts

-- the run asks this question, up to the answer that decides
abbrev pub AsksFor : Answering → Run → Question → Type 0
AsksFor zones (Ends o c) question = ⊥
AsksFor zones (Asks q next) question = (question ≡ q) ⊎ AsksFor zones (next (zones q)) question
AsksFor zones (Reads text next) question = (policy : Option Policy) × ReadAs text policy
    × AsksFor zones (next policy) question

-- the run asks these questions in this order, up to the answer that decides, and ends with this outcome and these
-- counts
abbrev pub IsDialogue : Answering → Run → List Question → Outcome → Counts → Type 0
IsDialogue zones (Ends o c) questions outcome counts = (questions ≡ []) × (outcome ≡ o) × (counts ≡ c)
IsDialogue zones (Asks question next) questions outcome counts =
    (later : List Question) × (questions ≡ question ∷ later)
    × IsDialogue zones (next (zones question)) later outcome counts
IsDialogue zones (Reads text next) questions outcome counts =
    (policy : Option Policy) × ReadAs text policy × IsDialogue zones (next policy) questions outcome counts
