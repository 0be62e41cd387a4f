use Rattle.std.proofs.Common.{◌≡◌, ◌++◌, drop}
use Rattle.spf_macros.specs.Grammar.{written}
use Rattle.spf_macros.proofs.write.write_pieces.Given as goal

abbrev pub invariant-loop-piece : goal.invariant-loop-piece
invariant-loop-piece l = l.text ++ written (drop l.piece-index l.pieces) ≡ l.initial.text ++ written l.pieces
