-- The text of a question.
use Rattle.std.specs.Prelude.{ℕ, List, ◌∷◌, ◌++◌, codes}
use Rattle.addr_bits.specs.declared.address.Family.{Family}
use Rattle.addr_bits.specs.declared.address.Family.TheVariants.{V4, V6}
use Rattle.dns_name.specs.Printed.{printed_name}
use Rattle.zone_answers.specs.declared.answer.QKind.{QKind}
use Rattle.zone_answers.specs.declared.answer.QKind.TheVariants as kinds
use Rattle.zone_answers.specs.declared.answer.Question.{Question}
use Rattle.zone_answers.specs.declared.ask_kind.AskKind.{AskKind}
use Rattle.zone_answers.specs.declared.ask_kind.AskKind.TheVariants.{A, Aaaa, Mx, Txt, Reverse4, Reverse6}

-- RFC 1034, section 3.7.1: asking for records of a kind at a name
abbrev pub ask_kind_of : QKind → AskKind
ask_kind_of kinds.A = A
ask_kind_of kinds.Aaaa = Aaaa
ask_kind_of kinds.Mx = Mx
ask_kind_of kinds.Txt = Txt

-- project's own choice: asking at the reversed names of all addresses of a family is one question
abbrev pub reversed_kind : Family → AskKind
reversed_kind V4 = Reverse4
reversed_kind V6 = Reverse6

-- RFC 1035, section 3.2.2, and RFC 3596, section 2.1: the word of a kind; those of reversed names are the project's own
-- choice
abbrev pub kind_word : AskKind → List ℕ
kind_word A = codes "A"
kind_word Aaaa = codes "AAAA"
kind_word Mx = codes "MX"
kind_word Txt = codes "TXT"
kind_word Reverse4 = codes "REVERSE4"
kind_word Reverse6 = codes "REVERSE6"

-- project's own choice: the printed name, a space (32) and the word of the kind
abbrev pub question_text : Question → List ℕ
question_text question = printed_name question.name ++ 32 ∷ kind_word question.kind
