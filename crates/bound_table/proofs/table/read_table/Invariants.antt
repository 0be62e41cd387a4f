use Rattle.std.proofs.Common.{◌+◌, ◌≤◌, length}
use Rattle.bound_table.specs.Reading.{lines_of}
use Rattle.bound_table.proofs.RowLemmas.{AreRead}
use Rattle.bound_table.proofs.table.read_table.Given as goal

-- the lines that were read are those of rows and others, and no bytes are read twice
abbrev pub invariant-loop-rest : goal.invariant-loop-rest
invariant-loop-rest l = record {
  read : AreRead (lines_of l.bytes) (lines_of l.rest) l.rows4 l.rows6 l.line;
  few : l.line + length l.rest ≤ length l.bytes;
}

abbrev pub decreases-loop-rest : goal.decreases-loop-rest
decreases-loop-rest l = length l.rest
