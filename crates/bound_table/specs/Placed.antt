-- Rows and their lines as contracts see them: the project's own choice.
use Rattle.std.specs.Prelude.{ℕ, zero, suc, ◌≢◌, ◌+◌, ◌<◌, List, [], ◌∷◌, map}
use Rattle.std.specs.List.{Contains}
use Rattle.fewest_terms.specs.Row.{NeedRow}

-- a row, and the line of a file that it stands in, counted from 1
pub record PlacedRow : Type 0 where
  pub line : ℕ
  pub row : NeedRow

-- rows without their lines
abbrev pub rows_of : List PlacedRow → List NeedRow
rows_of placed = map (λ p. p.row) placed

-- rows that stand in lines that follow one another, the first in this line
abbrev pub placed_from : (from : ℕ) → List NeedRow → List PlacedRow
placed_from from [] = []
placed_from from (row ∷ rows) = record { line = from; row = row } ∷ placed_from (from + 1) rows

-- the line of a family's k-th row, counted from 0, and that of the total where there is none
abbrev pub line_at : List PlacedRow → (last k : ℕ) → ℕ
line_at [] last k = last
line_at (row ∷ rows) last zero = row.line
line_at (row ∷ rows) last (suc k) = line_at rows last k

-- each row of a family stands before the next one, and the last one before the total
abbrev pub LinesRise : List PlacedRow → (last : ℕ) → Type 0
LinesRise [] last = Unit {0}
LinesRise (row ∷ rows) last = (row.line < line_at rows last 0) × LinesRise rows last

-- the lines of the rows rise in each family, are below that of the total, and no two rows have the same line
pub record HasRisingLines (rows4 rows6 : List PlacedRow) (last : ℕ) : Type 0 where
  pub four : LinesRise rows4 last
  pub six : LinesRise rows6 last
  pub apart : (a b : PlacedRow) → Contains rows4 a → Contains rows6 b → a.line ≢ b.line
