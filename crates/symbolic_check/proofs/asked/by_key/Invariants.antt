use Rattle.std.proofs.Common.{◌↔◌, Contains}
use Rattle.std.specs.List.Sorted.{IsStrictlySortedBy}
use Rattle.std.specs.Map.{keys_of, values_of}
use Rattle.zone_answers.specs.declared.answer.Question.{Question}
use Rattle.symbolic_check.specs.contracts.asked.KeyOrd.TheImpl as key_order
use Rattle.symbolic_check.specs.Keyed.{AreKeyed}
use Rattle.symbolic_check.proofs.asked.by_key.Given as goal

-- the questions so far stand under their keys
abbrev pub invariant-loop-question : goal.invariant-loop-question
invariant-loop-question l = record {
  keyed : AreKeyed l.found.entries;
  ordered : IsStrictlySortedBy key_order.cmp-value.it (keys_of l.found.entries);
  same : (question : Question) → Contains (values_of l.found.entries) question ↔ Contains l.yielded question;
}
