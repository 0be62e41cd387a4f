-- The tables that the lines of a file are, which are the project's own format: what the lines spell, and the first of
-- the three rounds in which they are judged.
use Rattle.std.specs.Prelude.{ℕ, ◌≡◌, ◌+◌, ◌<◌, ◌^◌, ◌==◌, Bool, true, false, ◌||◌, if◌then◌else◌, ◌⊎◌, List, [], ◌∷◌}
use Rattle.std.specs.Prelude.{◌++◌, length, codes, decimal}
use Rattle.std.specs.List.{starts_with, list_any}
use Rattle.addr_bits.specs.Address.{bits_of, text_in}
use Rattle.addr_bits.specs.Prefix.{IsCidr}
use Rattle.addr_bits.specs.declared.address.Family.{Family}
use Rattle.addr_bits.specs.declared.address.Family.TheVariants.{V4, V6}
use Rattle.fewest_terms.specs.Row.{NeedRow}
use Rattle.bound_table.specs.Lines.{row_line}
use Rattle.bound_table.specs.Parts.{AreSmall}
use Rattle.bound_table.specs.Placed.{PlacedRow}

-- ---- lines

-- a byte in front of the first line
abbrev pub in_front : ℕ → List (List ℕ) → List (List ℕ)
in_front b [] = (b ∷ []) ∷ []
in_front b (line ∷ lines) = (b ∷ line) ∷ lines

-- the lines of a file: the pieces between line feeds, where an empty last piece is none
unfoldable pub lines_of : List ℕ → List (List ℕ)
lines_of [] = []
lines_of (b ∷ bs) = if b == 10 then [] ∷ lines_of bs else in_front b (lines_of bs)

-- the lines that belong to the table
abbrev pub is_table_line : List ℕ → Bool
is_table_line line = starts_with ◌==◌ line (codes "; row ") || starts_with ◌==◌ line (codes "; fewest ")

-- ---- what a line spells

-- the line of a row, as it is written
pub record SpellsRow (f : Family) (line : List ℕ) (row : NeedRow) : Type 0 where
  pub prefix : IsCidr (bits_of f) row.prefix
  pub small : AreSmall row.needs
  pub written : line ++ 10 ∷ [] ≡ row_line (text_in f row.prefix.start) row.prefix.len row.needs

-- the line of the total, as it is written
abbrev pub SpellsTotal : List ℕ → ℕ → Type 0
SpellsTotal line total = (total < 2 ^ 32) × (line ++ 10 ∷ [] ≡ codes "; fewest " ++ decimal total ++ 10 ∷ [])

-- the line is neither that of a row nor that of the total
abbrev pub SpellsNothing : List ℕ → Type 0
SpellsNothing line = ((f : Family) (row : NeedRow) → ¬ SpellsRow f line row) × ((total : ℕ) → ¬ SpellsTotal line total)

-- ---- the first round: the spelling

-- the table lines among these are lines of rows, namely of these. The first line has this number
abbrev pub HaveRows : (from : ℕ) → List (List ℕ) → (rows4 rows6 : List PlacedRow) → Type 0
HaveRows from [] rows4 rows6 = (rows4 ≡ []) × (rows6 ≡ [])
HaveRows from (line ∷ lines) rows4 rows6 =
    ((is_table_line line ≡ false) × HaveRows (from + 1) lines rows4 rows6)
    ⊎ (((row : NeedRow) × (more : List PlacedRow) × SpellsRow V4 line row
    × (rows4 ≡ record { line = from; row = row } ∷ more) × HaveRows (from + 1) lines more rows6)
    ⊎ ((row : NeedRow) × (more : List PlacedRow) × SpellsRow V6 line row
    × (rows6 ≡ record { line = from; row = row } ∷ more) × HaveRows (from + 1) lines rows4 more))

-- the table lines are those of rows, and the last one is that of the total
pub record AreTable (lines : List (List ℕ)) (rows4 rows6 : List PlacedRow) (total last : ℕ) : Type 0 where
  pub front : List (List ℕ)
  pub line : List ℕ
  pub back : List (List ℕ)
  pub whole : lines ≡ front ++ line ∷ back
  pub rows : HaveRows 1 front rows4 rows6
  pub spells : SpellsTotal line total
  pub ends : list_any is_table_line back ≡ false
  pub place : last ≡ length front + 1

-- a table line with these lines behind it is faulty: it says nothing, or the total and another table line follows
abbrev pub IsFaulty : (line : List ℕ) → (back : List (List ℕ)) → Type 0
IsFaulty line back =
    SpellsNothing line
    ⊎ ((total : ℕ) × SpellsTotal line total × (list_any is_table_line back ≡ true))

-- the first faulty line, in front of which the table lines are those of rows
pub record IsFirstFaulty (lines : List (List ℕ)) (place : ℕ) : Type 0 where
  pub front : List (List ℕ)
  pub line : List ℕ
  pub back : List (List ℕ)
  pub whole : lines ≡ front ++ line ∷ back
  pub rows4 : List PlacedRow
  pub rows6 : List PlacedRow
  pub rows : HaveRows 1 front rows4 rows6
  pub of_table : is_table_line line ≡ true
  pub faulty : IsFaulty line back
  pub at : place ≡ length front + 1

-- no line says the total: what is named is the line after the last
pub record HasNoEnd (lines : List (List ℕ)) (place : ℕ) : Type 0 where
  pub rows4 : List PlacedRow
  pub rows6 : List PlacedRow
  pub rows : HaveRows 1 lines rows4 rows6
  pub at : place ≡ length lines + 1

-- the first round finds a fault, and names this line
abbrev pub IsMisspelled : List (List ℕ) → ℕ → Type 0
IsMisspelled lines place = IsFirstFaulty lines place ⊎ HasNoEnd lines place
