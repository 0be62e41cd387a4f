-- The parts of a table's line, in the project's own form.
use Rattle.std.specs.Prelude.{ℕ, ◌≡◌, ◌<◌, ◌^◌, ◌==◌, not, Bool, true, List, ◌∷◌, ◌++◌, decimal, Option, MatchOption}
use Rattle.std.specs.List.{list_all}
use Rattle.std.specs.Borrow.{Bor}
use Rattle.addr_bits.specs.Address.{bits_of, text_in}
use Rattle.addr_bits.specs.Prefix.{Cidr, IsCidr}
use Rattle.addr_bits.specs.declared.address.Family.{Family}
use Rattle.spf_grammar.specs.declared.verdict.Verdict.{Verdict}
use Rattle.fewest_terms.specs.declared.needs.Needs.{Needs}
use Rattle.fewest_terms.specs.Tables.{number}

-- any byte but this one
abbrev pub is_other : ℕ → ℕ → Bool
is_other byte b = not (b == byte)

-- a text is cut at the first of these bytes
pub record IsCut (byte : ℕ) (text front rest : List ℕ) : Type 0 where
  pub whole : text ≡ front ++ byte ∷ rest
  pub others : list_all (is_other byte) front ≡ true

-- a number of at most 4,294,967,295, without leading zeros
abbrev pub SpellsNumber : List ℕ → ℕ → Type 0
SpellsNumber text n = (n < 2 ^ 32) × (text ≡ decimal n)

-- such a number with a space behind it, and the rest, or none where the text does not begin so
abbrev pub ReadsFirst : List ℕ → Option (ℕ × Bor (List ℕ)) → Type 0
ReadsFirst text read =
    MatchOption read ((n : ℕ) (rest : List ℕ) → n < 2 ^ 32 → text ≡ decimal n ++ 32 ∷ rest → ⊥)
    (λ r. (r.0 < 2 ^ 32) × (text ≡ decimal r.0 ++ 32 ∷ r.1.now))

-- each number is at most 4,294,967,295
abbrev pub AreSmall : Needs → Type 0
AreSmall needs = (c : Verdict) → number needs c < 2 ^ 32

-- the four numbers, with a space between two
pub record SpellsNeeds (text : List ℕ) (needs : Needs) : Type 0 where
  pub small : AreSmall needs
  pub written :
      text
      ≡ decimal needs.fail ++ 32 ∷ (decimal needs.softfail ++ 32 ∷ (decimal needs.pass ++ 32 ∷ decimal needs.neutral))

-- a prefix in its written form
pub record SpellsPrefix (f : Family) (text : List ℕ) (p : Cidr) : Type 0 where
  pub prefix : IsCidr (bits_of f) p
  pub written : text ≡ text_in f p.start ++ 47 ∷ decimal p.len
