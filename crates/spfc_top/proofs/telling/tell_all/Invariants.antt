use Rattle.std.proofs.Common.{◌≡◌, ℕ, List, map, take}
use Rattle.spfc_outer.specs.Auditors.{After}
use Rattle.spfc_top.proofs.telling.tell_all.Given as goal

-- the questions so far were told
abbrev pub invariant-loop-question : goal.invariant-loop-question
invariant-loop-question g l = record {
  told : After (take l.question-index l.asked) (map (λ b. (goal.Auditor-dyn g (b.vtable, b.value)).hears b.value) l.fn.row.items)
      (map (λ b. (goal.Auditor-dyn g (b.vtable, b.value)).hears b.value) l.row.items);
  none : l.question-index ≡ 0 → l.row ≡ l.fn.row;
}
