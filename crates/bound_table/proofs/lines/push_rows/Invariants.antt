use Rattle.std.proofs.Common.{◌≡◌, ◌++◌, drop}
use Rattle.bound_table.specs.Lines.{row_lines}
use Rattle.bound_table.proofs.lines.push_rows.Given as goal

-- the lines of the rows that are left are what is missing
abbrev pub invariant-loop-row : goal.invariant-loop-row
invariant-loop-row g l = l.lines ++ row_lines g.W.AddressFamily.family (drop l.row-index l.rows) ≡ l.initial.lines ++ row_lines g.W.AddressFamily.family l.rows
