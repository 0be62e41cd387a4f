use Rattle.std.proofs.Common.{◌≡◌, ◌≤◌, length}
use Rattle.record_pack.proofs.Fewest.{Led, AllGoOn}
use Rattle.record_pack.proofs.greedy.pack.Given as goal

-- the records so far lead on, and each cut that fits goes on from here or before
abbrev pub invariant-loop-index : goal.invariant-loop-index
invariant-loop-index l = record {
  led : Led l.domain l.label l.size l.others l.list 0 0 l.ends l.from;
  count : length l.ends ≡ l.index;
  within : l.from ≤ length l.list;
  all : AllGoOn l.domain l.label l.size l.others l.list l.index l.from;
}
