use Rattle.std.proofs.Common.{◌≡◌, ◌++◌, ◌∷◌, drop, flat_map}
use Rattle.spf_macros.proofs.parts.append_joined.Given as goal

abbrev pub invariant-loop-part : goal.invariant-loop-part
invariant-loop-part l = l.out ++ flat_map (λ x. 46 ∷ x.now) (drop l.part-index l.rest) ≡ l.initial.out ++ flat_map (λ x. 46 ∷ x.now) l.rest
