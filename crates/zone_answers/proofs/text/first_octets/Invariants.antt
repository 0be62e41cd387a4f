use Rattle.std.proofs.Common.{◌≡◌, take}
use Rattle.std.specs.List.{concat}
use Rattle.zone_answers.proofs.text.first_octets.Given as goal

abbrev pub invariant-loop-string : goal.invariant-loop-string
invariant-loop-string l = l.octets.items ≡ take 7 (concat (take l.string-index l.string-items))
