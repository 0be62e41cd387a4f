-- The second and the third round in which a table is judged, by the verdicts that it is to be a table of: the project's
-- own format. Both name the first line that they find at fault.
use Rattle.std.specs.Prelude.{ℕ, ◌≡◌, ◌≢◌, ◌+◌, ◌<◌, ◌≤◌, ◌^◌, nat_lt, ◌⊎◌, List, ◌∷◌, ◌++◌, map, length, Some}
use Rattle.std.specs.List.{Contains, count_by, slice_get}
use Rattle.addr_bits.specs.Prefix.{Cidr}
use Rattle.addr_bits.specs.declared.address.Family.{Family}
use Rattle.addr_bits.specs.declared.address.Family.TheVariants.{V4, V6}
use Rattle.spf_grammar.specs.declared.verdict.Verdict.{Verdict}
use Rattle.fewest_terms.specs.Tables.{mixed_prefixes, KeepsRowRule, claimed_total, IsGoodTable}
use Rattle.bound_table.specs.Parts.{AreSmall}
use Rattle.bound_table.specs.Placed.{PlacedRow, rows_of}

-- the least line of which this holds
pub record IsFirst (IsWrong : ℕ → Type 0) (line : ℕ) : Type 0 where
  pub wrong : IsWrong line
  pub none_before : (other : ℕ) → IsWrong other → line ≤ other

-- ---- the second round: the places

-- prefixes with their families, IPv4 before IPv6
abbrev pub in_order : (mixed4 mixed6 : List Cidr) → List (Family × Cidr)
in_order mixed4 mixed6 = map (λ p. (V4, p)) mixed4 ++ map (λ p. (V6, p)) mixed6

-- the mixed prefixes of the verdicts, in the order in which their rows must stand
abbrev pub places : (v4 v6 : ℕ → Verdict) → List (Family × Cidr)
places v4 v6 = in_order (mixed_prefixes 32 v4 32 0) (mixed_prefixes 128 v6 128 0)

-- how many rows of a family stand before a line
abbrev pub rows_before : List PlacedRow → (line : ℕ) → ℕ
rows_before rows line = count_by (λ row. nat_lt row.line line) rows

-- in this line stands a row of this family, and by the order, with so many rows before it, that of another prefix, or
-- none, must stand there
pub record IsRowMisplaced (order : List (Family × Cidr)) (rows4 rows6 : List PlacedRow) (f : Family)
    (rows : List PlacedRow) (line : ℕ) : Type 0 where
  pub row : PlacedRow
  pub stands : Contains rows row
  pub at : row.line ≡ line
  pub other : slice_get order (rows_before rows4 line + rows_before rows6 line) ≢ Some (f, row.row.prefix)

-- the total stands in this line, and not behind as many rows as must stand before it
pub record IsTotalMisplaced (order : List (Family × Cidr)) (rows4 rows6 : List PlacedRow) (last line : ℕ)
    : Type 0 where
  pub at : line ≡ last
  pub other : length rows4 + length rows6 ≢ length order

-- the table line is not the one which must stand there
abbrev pub IsMisplaced : (order : List (Family × Cidr)) → (rows4 rows6 : List PlacedRow) → (last line : ℕ) → Type 0
IsMisplaced order rows4 rows6 last line =
    IsRowMisplaced order rows4 rows6 V4 rows4 line
    ⊎ (IsRowMisplaced order rows4 rows6 V6 rows6 line ⊎ IsTotalMisplaced order rows4 rows6 last line)

-- ---- the third round: the numbers

-- in this line stands a row that breaks the row rule with the rows that follow it, or whose numbers are too large
pub record IsRowWrong (w : ℕ) (v : ℕ → Verdict) (rows : List PlacedRow) (line : ℕ) : Type 0 where
  pub front : List PlacedRow
  pub row : PlacedRow
  pub back : List PlacedRow
  pub whole : rows ≡ front ++ row ∷ back
  pub at : row.line ≡ line
  pub wrong : ¬ (KeepsRowRule w v row.row (rows_of back) × AreSmall row.row.needs)

-- the total stands in this line, and is not what the rows claim, or is too large
pub record IsTotalWrong (v4 v6 : ℕ → Verdict) (rows4 rows6 : List PlacedRow) (total last line : ℕ) : Type 0 where
  pub at : line ≡ last
  pub wrong : ¬ ((total ≡ claimed_total v4 v6 (rows_of rows4) (rows_of rows6)) × (total < 2 ^ 32))

-- the table line has wrong numbers
abbrev pub IsMiscounted : (v4 v6 : ℕ → Verdict) → (rows4 rows6 : List PlacedRow) → (total last line : ℕ) → Type 0
IsMiscounted v4 v6 rows4 rows6 total last line =
    IsRowWrong 32 v4 rows4 line ⊎ (IsRowWrong 128 v6 rows6 line ⊎ IsTotalWrong v4 v6 rows4 rows6 total last line)

-- ---- both

-- the second round names this line, or finds no fault, and the third one names it
abbrev pub IsNamed : (v4 v6 : ℕ → Verdict) → (rows4 rows6 : List PlacedRow) → (total last line : ℕ) → Type 0
IsNamed v4 v6 rows4 rows6 total last line =
    IsFirst (IsMisplaced (places v4 v6) rows4 rows6 last) line
    ⊎ (((other : ℕ) → ¬ IsMisplaced (places v4 v6) rows4 rows6 last other)
    × IsFirst (IsMiscounted v4 v6 rows4 rows6 total last) line)

-- a good table, IPv4 before IPv6, with no number that is too large
pub record IsGoodAsPlaced (v4 v6 : ℕ → Verdict) (rows4 rows6 : List PlacedRow) (total : ℕ) : Type 0 where
  pub good : IsGoodTable v4 v6 (rows_of rows4) (rows_of rows6) total
  pub order : (a b : PlacedRow) → Contains rows4 a → Contains rows6 b → a.line < b.line
  pub small4 : (row : PlacedRow) → Contains rows4 row → AreSmall row.row.needs
  pub small6 : (row : PlacedRow) → Contains rows6 row → AreSmall row.row.needs
  pub small : total < 2 ^ 32
