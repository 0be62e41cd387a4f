use Rattle.std.proofs.Common.{◌≡◌, drop}
use Rattle.spf_macros.specs.declared.expansion.Expanded.TheVariants.{Out}
use Rattle.spf_macros.specs.Expansion.{expansion, followed_by}
use Rattle.spf_macros.proofs.expansion.expand_pieces.Given as goal

abbrev pub invariant-loop-piece : goal.invariant-loop-piece
invariant-loop-piece l = followed_by (Out l.out) (expansion l.family l.domain (drop l.piece-index l.pieces)) ≡ expansion l.family l.domain l.pieces
