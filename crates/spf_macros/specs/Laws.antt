-- The laws over macro texts, as statements.
use Rattle.std.specs.Prelude.{◌≡◌, ℕ, List}
use Rattle.spf_macros.specs.declared.piece.Piece.{Piece}
use Rattle.spf_macros.specs.Grammar.{SpellsMacroText, written}

-- some macro-string spells the pieces
abbrev pub IsMacroText : List Piece → Type 0
IsMacroText pieces = (text : List ℕ) × SpellsMacroText text pieces

-- a text spells at most one macro text
abbrev pub OneMacroText : Type 0
OneMacroText = (text : List ℕ) (a b : List Piece) → SpellsMacroText text a → SpellsMacroText text b → a ≡ b

-- the written form spells its pieces
abbrev pub WrittenSpells : Type 0
WrittenSpells = (pieces : List Piece) → IsMacroText pieces → SpellsMacroText (written pieces) pieces
