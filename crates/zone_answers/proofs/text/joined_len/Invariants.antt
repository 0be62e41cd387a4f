use Rattle.std.proofs.Common.{◌≡◌, length, sum_by, take}
use Rattle.zone_answers.proofs.text.joined_len.Given as goal

abbrev pub invariant-loop-string : goal.invariant-loop-string
invariant-loop-string l = l.octets ≡ sum_by (λ s. length s) (take l.string-index l.string-items)
