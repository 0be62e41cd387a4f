-- The places of the records that the one at the top includes.
use Rattle.std.proofs.Common.{ℕ, zero, suc, ◌<◌, List, [], ◌∷◌, arith}
use Rattle.std.specs.List.{range_with_len}

-- what holds of each place holds below 8
pub each_place : (P : ℕ → Type 0) → P 0 → P 1 → P 2 → P 3 → P 4 → P 5 → P 6 → P 7 → (k : ℕ) → k < 8 → P k
each_place P a b c d e f g h zero below = a
each_place P a b c d e f g h (suc zero) below = b
each_place P a b c d e f g h (suc (suc zero)) below = c
each_place P a b c d e f g h (suc (suc (suc zero))) below = d
each_place P a b c d e f g h (suc (suc (suc (suc zero)))) below = e
each_place P a b c d e f g h (suc (suc (suc (suc (suc zero))))) below = f
each_place P a b c d e f g h (suc (suc (suc (suc (suc (suc zero)))))) below = g
each_place P a b c d e f g h (suc (suc (suc (suc (suc (suc (suc zero))))))) below = h
each_place P a b c d e f g h (suc (suc (suc (suc (suc (suc (suc (suc k)))))))) below = absurd (omega (arith, below))

-- places below 8
abbrev pub ArePlaces : List ℕ → Type 0
ArePlaces [] = Unit {0}
ArePlaces (k ∷ places) = (k < 8) × ArePlaces places

pub eight_places : ArePlaces (range_with_len 0 8)
eight_places = (omega arith, (omega arith, (omega arith, (omega arith, (omega arith, (omega arith, (omega arith, (omega arith, tt))))))))
