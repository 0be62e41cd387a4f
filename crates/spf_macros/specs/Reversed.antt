-- Macro texts that begin with the reversed address and a dot.
use Rattle.std.specs.Prelude.{ℕ, Bool, true, false, not, ◌&&◌, ◌==◌, List, [], ◌∷◌, Option, Some, None, if◌then◌else◌}
use Rattle.std.specs.Option.{option_map}
use Rattle.addr_bits.specs.declared.address.Family.{Family}
use Rattle.spf_macros.specs.declared.piece.Letter.{Letter}
use Rattle.spf_macros.specs.declared.piece.Letter.TheVariants.{I}
use Rattle.spf_macros.specs.declared.piece.Macro.{Macro}
use Rattle.spf_macros.specs.declared.piece.Piece.{Piece}
use Rattle.spf_macros.specs.declared.piece.Piece.TheVariants.{Literal, Percent, Space, Percent20, Expand}
use Rattle.spf_macros.specs.declared.expansion.Expanded.{Expanded}
use Rattle.spf_macros.specs.declared.expansion.Expanded.TheVariants.{Out, Needs}
use Rattle.spf_macros.specs.Grammar.{letter_code}
use Rattle.spf_macros.specs.Expansion.{expansion, without_final_dot}

-- RFC 7208, sections 7.2 and 7.3: the macro `i` in lower case, reversed, with no number and no delimiter
abbrev pub is_reversed_address : Macro → Bool
is_reversed_address m =
    letter_code m.letter == letter_code I && not m.upper && m.keep == 0 && m.reverse && m.delims == 0

-- RFC 7208, section 7.2: a text that begins with this macro and a dot, of which the rest stands behind (that no other
-- text counts as one is the project's own choice)
abbrev pub behind_reversed : List Piece → Option (List Piece)
behind_reversed (Expand m ∷ Literal b ∷ rest) = if is_reversed_address m && b == 46 then Some rest else None
behind_reversed pieces = None

-- without one final dot
abbrev pub undotted : Expanded → Expanded
undotted (Out text) = Out (without_final_dot text)
undotted (Needs n) = Needs n

-- RFC 7208, sections 7.2 and 7.3: what the pieces behind the reversed address and the dot expand to, without one final
-- dot, or their first need
abbrev pub reverse_suffix : Family → List ℕ → List Piece → Option Expanded
reverse_suffix family domain pieces =
    option_map (λ rest. undotted (expansion family domain rest)) (behind_reversed pieces)
