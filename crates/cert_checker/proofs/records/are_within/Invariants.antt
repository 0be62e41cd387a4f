use Rattle.std.proofs.Common.{◌≡◌, ◌+◌, length, drop}
use Rattle.std.specs.List.{concat}
use Rattle.cert_checker.proofs.records.are_within.Given as goal

-- the strings so far take what is missing of the room
abbrev pub invariant-loop-string : goal.invariant-loop-string
invariant-loop-string l = length (concat l.strings) + l.left ≡ l.fn.room + length (concat (drop l.string-index l.strings))
