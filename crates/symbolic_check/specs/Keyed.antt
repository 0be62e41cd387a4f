-- Questions by the keys that they are ordered by (the project's own form).
use Rattle.std.specs.Prelude.{◌≡◌, List, [], ◌∷◌}
use Rattle.dns_name.specs.Name.{IsName}
use Rattle.dns_name.specs.Printed.{printed_name}
use Rattle.zone_answers.specs.declared.answer.Question.{Question}
use Rattle.spf_model.specs.Result.{kind_number}
use Rattle.symbolic_check.specs.declared.asked.Key.{Key}

-- the key of a question, whose name is legal
pub record IsKeyOf (question : Question) (key : Key) : Type 0 where
  pub legal : IsName question.name
  pub text : key.text.items ≡ printed_name question.name
  pub kind : key.kind ≡ kind_number question.kind

-- each question stands under its key
abbrev pub AreKeyed : List (Key × Question) → Type 0
AreKeyed [] = Unit {0}
AreKeyed (entry ∷ entries) = IsKeyOf entry.1 entry.0 × AreKeyed entries
