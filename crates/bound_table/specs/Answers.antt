-- What the reading of a table answers: the project's own form.
use Rattle.std.specs.Prelude.{ℕ, ◌≡◌, Bool, true, false, List, [], ◌∷◌, ◌++◌, Option, Some, None, Result, Ok, Err}
use Rattle.std.specs.declared.alloc.AllocError.{AllocError}
use Rattle.addr_bits.specs.declared.address.Family.{Family}
use Rattle.fewest_terms.specs.Row.{NeedRow}
use Rattle.bound_table.specs.declared.table.Table.{Table}
use Rattle.bound_table.specs.declared.table.TableFault.{TableFault}
use Rattle.bound_table.specs.declared.table.TableFault.TheVariants.{NotTable, Memory}
use Rattle.bound_table.specs.Placed.{PlacedRow}
use Rattle.spf_grammar.specs.declared.verdict.Verdict.{Verdict}
use Rattle.bound_table.specs.Rounds.{IsGoodAsPlaced, IsNamed}
use Rattle.bound_table.specs.Reading.{is_table_line, AreTable, HaveRows, IsMisspelled, SpellsNothing, SpellsRow}
use Rattle.bound_table.specs.Reading.{SpellsTotal}

-- the table of the lines, or the line that the first round names, or no memory
abbrev pub IsTableAnswer : List (List ℕ) → Result Table TableFault → Type 0
IsTableAnswer lines (Ok t) = AreTable lines t.rows4 t.rows6 t.total t.last
IsTableAnswer lines (Err (NotTable line)) = IsMisspelled lines line
IsTableAnswer lines (Err Memory) = Unit {0}

-- one line more: rows behind the rows, or the total, or a line that says nothing, or no memory
abbrev pub IsStep : (line : ℕ) → (text : List ℕ) → (old4 old6 new4 new6 : List PlacedRow)
    → Result (Option ℕ) TableFault → Type 0
IsStep line text old4 old6 new4 new6 (Ok None) =
    (more4 more6 : List PlacedRow) × HaveRows line (text ∷ []) more4 more6
    × (new4 ≡ old4 ++ more4) × (new6 ≡ old6 ++ more6)
IsStep line text old4 old6 new4 new6 (Ok (Some total)) =
    (is_table_line text ≡ true) × SpellsTotal text total × (new4 ≡ old4) × (new6 ≡ old6)
IsStep line text old4 old6 new4 new6 (Err (NotTable place)) =
    (is_table_line text ≡ true) × (place ≡ line) × SpellsNothing text
IsStep line text old4 old6 new4 new6 (Err Memory) = Unit {0}

-- the row of a line behind the rows, if it is that of a row of the family, or no memory
abbrev pub IsPushed : Family → (line : ℕ) → (text : List ℕ) → (old new : List PlacedRow)
    → Result Bool AllocError → Type 0
IsPushed f line text old new (Ok true) =
    (row : NeedRow) × SpellsRow f text row × (new ≡ old ++ record { line = line; row = row } ∷ [])
IsPushed f line text old new (Ok false) = ((row : NeedRow) → ¬ SpellsRow f text row) × (new ≡ old)
IsPushed f line text old new (Err _) = Unit {0}

-- the table is good, or the line that the later rounds name, or no memory
abbrev pub IsCheckAnswer : (v4 v6 : ℕ → Verdict) → Table → Result Unit TableFault → Type 0
IsCheckAnswer v4 v6 t (Ok _) = IsGoodAsPlaced v4 v6 t.rows4 t.rows6 t.total
IsCheckAnswer v4 v6 t (Err (NotTable line)) = IsNamed v4 v6 t.rows4 t.rows6 t.total t.last line
IsCheckAnswer v4 v6 t (Err Memory) = Unit {0}
