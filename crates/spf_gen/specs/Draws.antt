-- Numbers that look random: a linear congruential generator, with the multiplier and the increment of Knuth's MMIX
-- (The Art of Computer Programming, section 3.3.4). Which one is taken is the project's own choice.
use Rattle.std.specs.Prelude.{ℕ, zero, suc, ◌+◌, ◌*◌, ◌%◌, ◌^◌}

-- the number after so many steps, without a modulus
unfoldable pub grown : (start steps : ℕ) → ℕ
grown start zero = start
grown start (suc steps) = grown start steps * 6364136223846793005 + 1442695040888963407

-- the draw after so many steps
unfoldable pub draw : (start steps : ℕ) → ℕ
draw start steps = grown start steps % 2 ^ 64
