use Rattle.std.proofs.Common.{◌≡◌, ◌+◌, List, ◌∷◌, ℕ, drop, drop-cons, add-one, get_or, Option, None, ap, sym, refl, ◌∙◌, append_assoc}
use Rattle.spf_macros.specs.declared.expansion.Expanded.{Expanded}
use Rattle.spf_macros.specs.declared.expansion.Expanded.TheVariants.{Out, Needs}
use Rattle.spf_macros.specs.declared.expansion.Need.{Need}
use Rattle.spf_macros.specs.declared.piece.Piece.{Piece}
use Rattle.spf_macros.specs.declared.piece.Piece.TheVariants.{Literal}
use Rattle.spf_macros.specs.Expansion.{Expands, expanded_piece, expansion, followed_by}
use Rattle.spf_macros.proofs.expansion.expand_pieces.Goals as goal

-- what one piece expands to stands before the rest
one_more : (expanded rest : Expanded) (old new : List ℕ) (need : Option Need) → need ≡ None → Expands expanded old new need
    → followed_by (Out new) rest ≡ followed_by (Out old) (followed_by expanded rest)
one_more (Out text) (Out rest) old new need none h = simp (h.1, append_assoc) refl
one_more (Out text) (Needs n) old new need none h = refl
one_more (Needs n) rest old new need none h = cc

pub loop-piece-preserved : goal.loop-piece-preserved
loop-piece-preserved c =
    let pieces = c.args.pieces.now in
    let i = c.loop-piece.piece-index in
    let next : drop i pieces ≡ get_or pieces i (Literal 0) ∷ drop (i + 1) pieces = rw (add-one, drop-cons pieces i (Literal 0) c.loop-piece-test.true) refl in
    one_more (expanded_piece c.args.family c.args.domain.now (get_or pieces i (Literal 0))) (expansion c.args.family c.args.domain.now (drop (i + 1) pieces)) c.loop-piece.out c.expand_piece.new.out
    c.in_ok-need.field-0 c.in_default.is c.in_ok-need.ensures
    ∙ ap (λ (ps : List Piece). followed_by (Out c.loop-piece.out) (expansion c.args.family c.args.domain.now ps)) (sym next)
    ∙ c.loop-piece.invariant
