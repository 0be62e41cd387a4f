use Rattle.std.proofs.Common.{◌≡◌, ◌++◌, map, take}
use Rattle.fewest_terms.specs.Chosen.{flat}
use Rattle.fewest_terms.proofs.answer.push_terms.Given as goal

abbrev pub invariant-loop-prefix : goal.invariant-loop-prefix
invariant-loop-prefix g l = l.list ≡ l.initial.list ++ map (flat g.W.AddressFamily.family) (take l.prefix-index l.terms)
