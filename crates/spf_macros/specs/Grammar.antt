-- Macro texts by the productions of RFC 7208, section 7.1, between texts and lists of pieces.
use Rattle.std.specs.Prelude.{◌≡◌, ℕ, ◌-◌, ◌/◌, ◌%◌, ◌^◌, ◌<◌, min, Bool, true, false, not, ◌&&◌, ◌||◌, ◌==◌, nat_le}
use Rattle.std.specs.Prelude.{IsTrue, ◌⊎◌, List, [], ◌∷◌, ◌++◌, length, map, filter, flat_map, sum_by, slice_index}
use Rattle.std.specs.Prelude.{decimal, codes, if◌then◌else◌}
use Rattle.std.specs.List.{list_all, list_any, enumerate_from}
use Rattle.std.specs.Char.{is_ascii_alphabetic, is_ascii_digit}
use Rattle.std.specs.Str.Parse.{AllDigits, digits_value}
use Rattle.spf_macros.specs.declared.piece.Letter.{Letter}
use Rattle.spf_macros.specs.declared.piece.Letter.TheVariants.{S, L, O, D, I, P, H, V, C, R, T}
use Rattle.spf_macros.specs.declared.piece.Macro.{Macro}
use Rattle.spf_macros.specs.declared.piece.Piece.{Piece}
use Rattle.spf_macros.specs.declared.piece.Piece.TheVariants.{Literal, Percent, Space, Percent20, Expand}

-- macro-letter (RFC 7208, section 7.1), in lower case
abbrev pub letter_code : Letter → ℕ
letter_code S = 115
letter_code L = 108
letter_code O = 111
letter_code D = 100
letter_code I = 105
letter_code P = 112
letter_code H = 104
letter_code V = 118
letter_code C = 99
letter_code R = 114
letter_code T = 116

-- a letter is written in either case (RFC 7208, section 7.3)
abbrev pub letter_byte : Letter → Bool → ℕ
letter_byte letter upper = if upper then letter_code letter - 32 else letter_code letter

-- *DIGIT (RFC 7208, section 7.1): how many parts are kept, 0 for all. A written number is not 0, and is held at 255
-- (the project's own choice, since no text of a domain has more parts)
abbrev pub SpellsKeep : List ℕ → ℕ → Type 0
SpellsKeep [] keep = keep ≡ 0
SpellsKeep (d ∷ ds) keep = AllDigits 10 (d ∷ ds) × (0 < digits_value 10 (d ∷ ds))
    × (keep ≡ min (digits_value 10 (d ∷ ds)) 255)

-- [ "r" ] of either case (RFC 7208, section 7.1)
abbrev pub SpellsReverse : List ℕ → Bool → Type 0
SpellsReverse text true = (text ≡ codes "r") ⊎ (text ≡ codes "R")
SpellsReverse text false = text ≡ []

-- delimiter (RFC 7208, section 7.1), each with its bit in a macro's set of delimiters
abbrev pub delimiters : List (ℕ × ℕ)
delimiters = enumerate_from 0 (codes ".-+,/_=")

-- a byte that is a delimiter (RFC 7208, section 7.1)
abbrev pub is_delimiter : ℕ → Bool
is_delimiter b = list_any (λ d. b == d.1) delimiters

-- the set of some delimiters, as a number with their bits
abbrev pub delimiter_set : List ℕ → ℕ
delimiter_set ds = sum_by (λ d. if list_any (λ b. b == d.1) ds then 2 ^ d.0 else 0) delimiters

-- the byte is a delimiter of the set
abbrev pub is_in_set : ℕ → ℕ → Bool
is_in_set set b = list_any (λ d. b == d.1 && set / 2 ^ d.0 % 2 == 1) delimiters

-- *delimiter (RFC 7208, section 7.1), of which the order and the number of times say nothing
abbrev pub SpellsDelimiters : List ℕ → ℕ → Type 0
SpellsDelimiters text set = IsTrue (list_all is_delimiter text) × (set ≡ delimiter_set text)

-- "%{" macro-letter transformers *delimiter "}" (RFC 7208, section 7.1)
pub record SpellsMacro (text : List ℕ) (m : Macro) : Type 0 where
  pub digits : List ℕ
  pub turn : List ℕ
  pub delims : List ℕ
  pub keeps : SpellsKeep digits m.keep
  pub reverses : SpellsReverse turn m.reverse
  pub splits : SpellsDelimiters delims m.delims
  pub whole : text ≡ codes "%{" ++ (letter_byte m.letter m.upper ∷ (digits ++ (turn ++ (delims ++ codes "}"))))

-- macro-literal (RFC 7208, section 7.1): a visible byte other than `%`
abbrev pub is_literal : ℕ → Bool
is_literal b = nat_le 33 b && nat_le b 126 && not (b == 37)

-- macro-expand / macro-literal (RFC 7208, section 7.1)
abbrev pub SpellsPiece : List ℕ → Piece → Type 0
SpellsPiece text (Literal b) = IsTrue (is_literal b) × (text ≡ b ∷ [])
SpellsPiece text Percent = text ≡ codes "%%"
SpellsPiece text Space = text ≡ codes "%_"
SpellsPiece text Percent20 = text ≡ codes "%-"
SpellsPiece text (Expand m) = SpellsMacro text m

-- macro-string = *( macro-expand / macro-literal ) (RFC 7208, section 7.1)
abbrev pub SpellsMacroText : List ℕ → List Piece → Type 0
SpellsMacroText text [] = text ≡ []
SpellsMacroText text (piece ∷ pieces) =
    (front rest : List ℕ) × SpellsPiece front piece × SpellsMacroText rest pieces × (text ≡ front ++ rest)

-- a letter, digit or hyphen
abbrev pub is_let_dig_hyp : ℕ → Bool
is_let_dig_hyp b = is_ascii_alphabetic b || is_ascii_digit b || b == 45

-- toplabel (RFC 7208, section 7.1): letters, digits and hyphens, the first and the last no hyphen, and not digits alone
abbrev pub is_toplabel : List ℕ → Bool
is_toplabel text =
    list_all is_let_dig_hyp text && not (slice_index text 0 == 45) && not (slice_index text (length text - 1) == 45)
    && list_any (λ b. is_ascii_alphabetic b || b == 45) text

-- a macro-expand, and no macro-literal (RFC 7208, section 7.1)
abbrev pub is_expand : Piece → Bool
is_expand (Literal b) = false
is_expand Percent = true
is_expand Space = true
is_expand Percent20 = true
is_expand (Expand m) = true

-- domain-end = ( "." toplabel [ "." ] ) / macro-expand (RFC 7208, section 7.1)
abbrev pub SpellsDomainEnd : List ℕ → List Piece → Type 0
SpellsDomainEnd text pieces =
    ((label dot : List ℕ) × IsTrue (is_toplabel label) × ((dot ≡ []) ⊎ (dot ≡ codes "."))
    × (text ≡ 46 ∷ (label ++ dot)) × (pieces ≡ map Literal text))
    ⊎ ((piece : Piece) × SpellsPiece text piece × IsTrue (is_expand piece) × (pieces ≡ piece ∷ []))

-- the letters c, r and t are for explanations
abbrev pub is_explaining : Letter → Bool
is_explaining S = false
is_explaining L = false
is_explaining O = false
is_explaining D = false
is_explaining I = false
is_explaining P = false
is_explaining H = false
is_explaining V = false
is_explaining C = true
is_explaining R = true
is_explaining T = true

-- a piece that may stand outside of explanations: no letter c, r or t (RFC 7208, section 7.2; that they are syntax
-- errors in a directive and in `redirect`, and none in `exp`, is the project's own reading)
abbrev pub is_for_all : Piece → Bool
is_for_all (Literal b) = true
is_for_all Percent = true
is_for_all Space = true
is_for_all Percent20 = true
is_for_all (Expand m) = not (is_explaining m.letter)

-- domain-spec = macro-string domain-end (RFC 7208, section 7.1), with the letters c, r and t only in an explanation
pub record SpellsDomainSpec (explain : Bool) (text : List ℕ) (pieces : List Piece) : Type 0 where
  pub front : List ℕ
  pub end : List ℕ
  pub begins : List Piece
  pub ends : List Piece
  pub first : SpellsMacroText front begins
  pub last : SpellsDomainEnd end ends
  pub letters : IsTrue (explain || list_all is_for_all pieces)
  pub whole : text ≡ front ++ end
  pub all : pieces ≡ begins ++ ends

-- the written form of a macro: the letter in its case, the number, `r` in lower case, the delimiters in the grammar's
-- order (the project's own choice among its spellings)
abbrev pub written_macro : Macro → List ℕ
written_macro m = codes "%{" ++ (letter_byte m.letter m.upper ∷ ((if m.keep == 0 then [] else decimal m.keep)
    ++ ((if m.reverse then codes "r" else []) ++ (filter (is_in_set m.delims) (codes ".-+,/_=") ++ codes "}"))))

-- the written form of a piece (RFC 7208, section 7.1), which is its one spelling unless it is a macro
abbrev pub written_piece : Piece → List ℕ
written_piece (Literal b) = b ∷ []
written_piece Percent = codes "%%"
written_piece Space = codes "%_"
written_piece Percent20 = codes "%-"
written_piece (Expand m) = written_macro m

-- the written form of a macro text
abbrev pub written : List Piece → List ℕ
written pieces = flat_map written_piece pieces
