use Rattle.std.proofs.Common.{◌≡◌, ◌++◌, ◌-◌, ◌≤◌, List, map, take, drop, length}
use Rattle.spfc_outer.proofs.Rows.{HasCome}
use Rattle.spfc_top.proofs.row.tell_row.Given as goal

-- those so far were told
abbrev pub invariant-loop-i : goal.invariant-loop-i
invariant-loop-i g l = record {
  within : l.i ≤ length l.row.items;
  come : HasCome (λ b. (goal.Auditor-dyn g (b.vtable, b.value)).hears b.value) l.question l.fn.row.items l.row.items l.i;
}

abbrev pub decreases-loop-i : goal.decreases-loop-i
decreases-loop-i g l = length l.row.items - l.i
