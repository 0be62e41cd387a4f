-- The texts that domain-specs ask for.
use Rattle.std.proofs.Common.{◌≡◌, ℕ, ◌≤◌, List, [], ◌∷◌, length, refl, arith}
use Rattle.spf_macros.specs.Expansion.{first_short}

-- a text that is short enough is not cut
pub short_stays : (text : List ℕ) (texts : List (List ℕ)) → length text ≤ 253 → first_short text texts ≡ text
short_stays text [] h = refl
short_stays text (next ∷ texts) h = grind arith
