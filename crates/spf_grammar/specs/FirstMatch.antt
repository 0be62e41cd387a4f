-- First-match lists (RFC 7208, sections 4.6.2 and 4.7), seen from one family of addresses: the project's own form.
use Rattle.std.specs.Prelude.{ℕ, ◌+◌, ◌-◌, ◌/◌, ◌^◌, ◌==◌, nat_lt, nat_le, Bool, true, false, ◌&&◌, if◌then◌else◌, List}
use Rattle.std.specs.Prelude.{[], ◌∷◌}
use Rattle.spf_grammar.specs.declared.verdict.Verdict.{Verdict}
use Rattle.spf_grammar.specs.declared.verdict.Verdict.TheVariants.{Neutral}

-- what a term covers in the family: every address, none, or those of a prefix by its open bits and its first bits
pub data Reach : Type 0 where
  everything : Reach
  nothing : Reach
  below : (open_bits first_bits : ℕ) → Reach

-- a term, seen from the family
pub record Rule : Type 0 where
  pub verdict : Verdict
  pub reach : Reach

-- whether it covers an address
abbrev pub reaches : Reach → ℕ → Bool
reaches everything a = true
reaches nothing a = false
reaches (below j m) a = a / 2 ^ j == m

-- the verdict of the first term that covers the address, or neutral
abbrev pub first_rule : List Rule → ℕ → Verdict
first_rule [] a = Neutral
first_rule (t ∷ ts) a = if reaches t.reach a then t.verdict else first_rule ts a

-- whether it covers all of a prefix and is not the prefix itself: `all`, or a shorter prefix
abbrev pub is_above : Reach → (k n : ℕ) → Bool
is_above everything k n = true
is_above nothing k n = false
is_above (below j m) k n = nat_lt k j && (n / 2 ^ (j - k) == m)

-- whether it is the prefix or lies below it
abbrev pub is_within : Reach → (k n : ℕ) → Bool
is_within everything k n = false
is_within nothing k n = false
is_within (below j m) k n = nat_le j k && (m / 2 ^ (k - j) == n)

-- the verdict of the first term above the prefix, or neutral
abbrev pub inherited : List Rule → (k n : ℕ) → Verdict
inherited [] k n = Neutral
inherited (t ∷ ts) k n = if is_above t.reach k n then t.verdict else inherited ts k n

-- how many terms before the first one above the prefix are the prefix or lie below it
abbrev pub spent : List Rule → (k n : ℕ) → ℕ
spent [] k n = 0
spent (t ∷ ts) k n =
    if is_above t.reach k n then 0 else (if is_within t.reach k n then 1 + spent ts k n else spent ts k n)
