use Rattle.std.proofs.Common.{◌≡◌, length}
use Rattle.std.specs.List.{list_any}
use Rattle.bound_table.specs.Reading.{is_table_line as belongs, lines_of}
use Rattle.bound_table.proofs.table.has_table_line.Given as goal

abbrev pub invariant-loop-rest : goal.invariant-loop-rest
invariant-loop-rest l = list_any belongs (lines_of l.lines) ≡ list_any belongs (lines_of l.rest)

abbrev pub decreases-loop-rest : goal.decreases-loop-rest
decreases-loop-rest l = length l.rest
