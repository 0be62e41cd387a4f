use Rattle.std.proofs.Common.{◌≡◌, ◌++◌, take}
use Rattle.std.specs.List.{AllByRecursion}
use Rattle.kept_lists.specs.Texts.{IsSound, items_text}
use Rattle.kept_lists.proofs.answer.push_items.Given as goal

abbrev pub invariant-loop-body : goal.invariant-loop-body
invariant-loop-body l = record {
  written : l.text ≡ l.initial.text ++ items_text (take l.body-index l.bodies);
  sound : AllByRecursion IsSound (take l.body-index l.bodies);
}
