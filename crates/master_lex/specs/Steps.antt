-- What a byte does to an open entry. The private functions answer it, and no public contract cites it: proofs/ shows
-- that it is what the definitions say.
use Rattle.std.specs.Prelude.{ℕ, zero, suc, ◌+◌, ◌-◌, ◌*◌, Bool, true, false, ◌&&◌, List, [], ◌∷◌, ◌++◌, ◌==◌}
use Rattle.std.specs.Prelude.{if◌then◌else◌, min, ◌^◌, Option, Some, None, Result, Ok, Err}
use Rattle.std.specs.Char.{is_ascii_digit}
use Rattle.master_lex.specs.declared.entry.Octet.{Octet}
use Rattle.master_lex.specs.declared.entry.Token.{Token}
use Rattle.master_lex.specs.declared.fault.LexKind.{LexKind}
use Rattle.master_lex.specs.declared.fault.LexKind.TheVariants.{OpenQuote, OpenParen, StrayParen, BadEscape}
use Rattle.master_lex.specs.declared.part.Escape.TheVariants.{Unescaped, Slash, OneDigit, TwoDigits}
use Rattle.master_lex.specs.declared.part.Part.{Part}
use Rattle.master_lex.specs.declared.part.Part.TheVariants.{Outside, InComment, InToken}
use Rattle.master_lex.specs.declared.part.Step.{Step}
use Rattle.master_lex.specs.declared.part.Step.TheVariants.{Goes, Closes, Fails}
use Rattle.master_lex.specs.declared.entry.Entry.{Entry}
use Rattle.master_lex.specs.Entries.{has_token}
use Rattle.master_lex.specs.Items.{bare, marked, numbered, octet_of, is_escape, is_plain_glyph, is_quoted_glyph}
use Rattle.master_lex.specs.Items.{is_blank, is_feed}

-- project's own form: the tokens with one more of these octets
abbrev pub with_token : List Token → Bool → List Octet → List Token
with_token tokens quoted units = tokens ++ record { units = units; quoted = quoted } ∷ []

-- project's own form: a line feed closes the entry at depth 0, and is within it at another depth
abbrev pub at_feed : ℕ → List Token → Step
at_feed zero tokens = Closes tokens
at_feed (suc d) tokens = Goes (suc d) tokens Outside

-- project's own form: a `)` closes a parenthesis, and is a fault at depth 0
abbrev pub at_closing : ℕ → List Token → Step
at_closing zero tokens = Fails StrayParen
at_closing (suc d) tokens = Goes d tokens Outside

-- project's own form: a byte that is no plain one
abbrev pub at_mark : ℕ → List Token → ℕ → Step
at_mark d tokens b =
    if is_blank b then Goes d tokens Outside
    else (if is_feed b then at_feed d tokens
    else (if b == 59 then Goes d tokens InComment
    else (if b == 40 then Goes (suc d) tokens Outside
    else (if b == 41 then at_closing d tokens
    else (if b == 34 then Goes d tokens (InToken true [] Unescaped)
    else Goes d tokens (InToken false [] Slash))))))

-- RFC 1035, section 5.1: the value of three decimal digits, given as their bytes
abbrev pub value_of : ℕ → ℕ → ℕ → ℕ
value_of x y z = 100 * (x - 48) + 10 * (y - 48) + (z - 48)

-- project's own form: what a byte does at this depth, behind these tokens, in this part of the entry
abbrev pub step : ℕ → List Token → Part → ℕ → Step
step d tokens Outside b =
    if is_plain_glyph (bare b) then Goes d tokens (InToken false (octet_of (bare b) ∷ []) Unescaped)
    else at_mark d tokens b
step d tokens InComment b = if is_feed b then at_feed d tokens else Goes d tokens InComment
step d tokens (InToken false units Unescaped) b =
    if is_plain_glyph (bare b) then Goes d tokens (InToken false (units ++ octet_of (bare b) ∷ []) Unescaped)
    else (if b == 92 then Goes d tokens (InToken false units Slash) else at_mark d (with_token tokens false units) b)
step d tokens (InToken true units Unescaped) b =
    if is_quoted_glyph (bare b) then Goes d tokens (InToken true (units ++ octet_of (bare b) ∷ []) Unescaped)
    else (if b == 34 then Goes d (with_token tokens true units) Outside
    else (if b == 92 then Goes d tokens (InToken true units Slash) else Fails OpenQuote))
step d tokens (InToken quoted units Slash) b =
    if is_escape (marked b) then Goes d tokens (InToken quoted (units ++ octet_of (marked b) ∷ []) Unescaped)
    else (if is_ascii_digit b then Goes d tokens (InToken quoted units (OneDigit b)) else Fails BadEscape)
step d tokens (InToken quoted units (OneDigit x)) b =
    if is_ascii_digit b then Goes d tokens (InToken quoted units (TwoDigits x b)) else Fails BadEscape
step d tokens (InToken quoted units (TwoDigits x y)) b =
    if is_ascii_digit b && is_escape (numbered (value_of x y b))
    then Goes d tokens (InToken quoted (units ++ octet_of (numbered (value_of x y b)) ∷ []) Unescaped)
    else Fails BadEscape

-- ---- numbers of lines, and entries with a token

-- project's own form: the number of the line behind a byte, which stops at the last of its type
abbrev pub line_behind : ℕ → ℕ → ℕ
line_behind line b = if is_feed b then min (line + 1) (2 ^ 64 - 1) else line

-- project's own form: an entry that has a token is given
abbrev pub given_of : Entry → Option Entry
given_of entry = if has_token entry then Some entry else None

-- ---- the end of the file

-- project's own form: the end of the file at depth 0 ends the entry, and is a fault at another depth
abbrev pub closed_at : ℕ → List Token → Result (List Token) LexKind
closed_at zero tokens = Ok tokens
closed_at (suc d) tokens = Err OpenParen

-- project's own form: the tokens of the open entry, or its fault
abbrev pub end_of : ℕ → List Token → Part → Result (List Token) LexKind
end_of d tokens Outside = closed_at d tokens
end_of d tokens InComment = closed_at d tokens
end_of d tokens (InToken false units Unescaped) = closed_at d (with_token tokens false units)
end_of d tokens (InToken true units Unescaped) = Err OpenQuote
end_of d tokens (InToken quoted units Slash) = Err BadEscape
end_of d tokens (InToken quoted units (OneDigit x)) = Err BadEscape
end_of d tokens (InToken quoted units (TwoDigits x y)) = Err BadEscape
