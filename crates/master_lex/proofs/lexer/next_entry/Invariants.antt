use Rattle.std.proofs.Common.{[], take}
use Rattle.master_lex.specs.Pieces.{StandsFor}
use Rattle.master_lex.proofs.lexer.next_entry.Given as goal

abbrev pub invariant-loop-place : goal.invariant-loop-place
invariant-loop-place l = StandsFor l.line l.cutter (take l.place l.bytes) []
