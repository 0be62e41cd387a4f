use Rattle.std.proofs.Common.{◌≡◌, ◌≤◌, ◌++◌, take, length}
use Rattle.zone_answers.proofs.text.push_octets.Given as goal

abbrev pub invariant-loop-octet : goal.invariant-loop-octet
invariant-loop-octet l = (l.octets.items ≡ l.initial.octets.items ++ take l.octet-index l.string) × (length l.octets.items ≤ 7)
