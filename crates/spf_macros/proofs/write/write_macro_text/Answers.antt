use Rattle.std.proofs.Common.{◌≡◌, ℕ, List, ◌++◌, sym, ap₂, subst, ◌∙◌}
use Rattle.spf_macros.specs.declared.piece.Piece.{Piece}
use Rattle.spf_macros.specs.Grammar.{SpellsMacroText, written}
use Rattle.spf_macros.proofs.WrittenForm.{written_spells}
use Rattle.spf_macros.proofs.write.write_macro_text.Goals as goal

pub returns-clause-spells : goal.returns-clause-spells
returns-clause-spells c =
    let text : c.write_pieces.new.text ≡ written c.args.pieces.now =
    c.in_ok-write_pieces.ensures ∙ ap₂ (λ (a : List ℕ) (b : List Piece). a ++ written b) c.new-text.ensures c.as_slice.ensures in
    subst (λ (t : List ℕ). SpellsMacroText t c.args.pieces.now) (sym text) (written_spells c.args.pieces.now c.requires)
