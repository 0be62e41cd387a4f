-- What readers of macro texts answer, in the project's own form, over the productions of RFC 7208, section 7.1.
use Rattle.std.specs.Prelude.{◌≡◌, ℕ, Bool, true, false, ◌||◌, ◌==◌, Option, MatchOption, List, [], ◌∷◌, ◌++◌, IsTrue}
use Rattle.std.specs.List.{list_all}
use Rattle.spf_macros.specs.declared.piece.Macro.{Macro}
use Rattle.spf_macros.specs.declared.piece.Piece.{Piece}
use Rattle.spf_macros.specs.Grammar.{SpellsMacro, is_expand}
use Rattle.std.specs.Borrow.{Bor}

-- what the text spells, or none where it spells nothing
abbrev pub Reads : {A : Type 0} → (List ℕ → A → Type 0) → List ℕ → Option A → Type 0
Reads {A} Spells text read = MatchOption read ((a : A) → ¬ Spells text a) (Spells text)

-- what a beginning of the text spells, and the rest, or none where no beginning spells anything
abbrev pub ReadsFirst : {A : Type 0} → (List ℕ → A → Type 0) → List ℕ → Option (A × Bor (List ℕ)) → Type 0
ReadsFirst {A} Spells text read =
    MatchOption read ((front rest : List ℕ) (a : A) → Spells front a → text ≡ front ++ rest → ⊥)
    (λ r. (front : List ℕ) × Spells front r.0 × (text ≡ front ++ r.1.now))

-- the text is empty, or its first byte fails the test
abbrev pub Pauses : (ℕ → Bool) → List ℕ → Type 0
Pauses p [] = Unit {0}
Pauses p (b ∷ bs) = p b ≡ false

-- the letter `r` of either case
abbrev pub is_turn : ℕ → Bool
is_turn b = b == 114 || b == 82

-- the text is its longest beginning of bytes that pass the test, and the rest
pub record IsSpan (p : ℕ → Bool) (text front rest : List ℕ) : Type 0 where
  pub whole : text ≡ front ++ rest
  pub passes : IsTrue (list_all p front)
  pub pauses : Pauses p rest

-- the text is `r` of either case and the rest, or the rest, which begins with no such letter
abbrev pub ReadsReverse : List ℕ → Bool → List ℕ → Type 0
ReadsReverse text true rest = (b : ℕ) × (is_turn b ≡ true) × (text ≡ b ∷ rest)
ReadsReverse text false rest = Pauses is_turn text × (text ≡ rest)

-- RFC 7208, section 7.1: a macro without its first two bytes `%{`
abbrev pub SpellsBehind : List ℕ → Macro → Type 0
SpellsBehind text m = SpellsMacro (37 ∷ 123 ∷ text) m

-- RFC 7208, section 7.1: the last piece is a macro-expand
abbrev pub EndsInExpand : List Piece → Type 0
EndsInExpand pieces = (begins : List Piece) × (piece : Piece) × IsTrue (is_expand piece)
    × (pieces ≡ begins ++ piece ∷ [])
