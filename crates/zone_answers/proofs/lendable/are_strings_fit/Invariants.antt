use Rattle.std.proofs.Common.{◌≡◌, ◌≤◌, ◌+◌, take, sum_by, length}
use Rattle.std.specs.List.{AllByRecursion}
use Rattle.zone_answers.proofs.lendable.are_strings_fit.Given as goal

abbrev pub invariant-loop-string : goal.invariant-loop-string
invariant-loop-string l = (l.octets ≡ sum_by (λ s. length s + 1) (take l.string-index l.string-items)) × (l.octets ≤ 65535) × AllByRecursion (λ s. length s ≤ 255) (take l.string-index l.string-items)
