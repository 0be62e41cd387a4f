use Rattle.std.proofs.Common.{ℕ, ◌≤◌, ◌<◌, IsFalse}
use Rattle.publishing.specs.Published.{is_record_taken}
use Rattle.publishing.proofs.names.refuse_taken.Given as goal

-- the names so far are free
abbrev pub invariant-loop-number : goal.invariant-loop-number
invariant-loop-number l = (j : ℕ) → 1 ≤ j → j < l.number → IsFalse (is_record_taken l.settings l.zones j)
