-- The bytes of a fragment: a master file (RFC 1035, section 5.1) with the project's own table in comments.
use Rattle.std.specs.Prelude.{ℕ, zero, suc, ◌+◌, ◌==◌, nat_lt, Bool, true, false, List, [], ◌∷◌, ◌++◌, length, take}
use Rattle.std.specs.Prelude.{drop, flat_map, decimal, codes, if◌then◌else◌}
use Rattle.spf_grammar.specs.declared.flat.FlatTerm.{FlatTerm}
use Rattle.fewest_terms.specs.Row.{NeedRow}
use Rattle.bound_table.specs.Lines.{table_text}
use Rattle.record_pack.specs.Records.{pieces_from, record_text}

-- RFC 1035, section 3.3.14: a text as character strings of 255 octets, the last of which may be shorter; the first
-- number bounds how many full ones stand before it
abbrev pub strings_within : ℕ → List ℕ → List (List ℕ)
strings_within zero text = text ∷ []
strings_within (suc n) text =
    if nat_lt 255 (length text) then take 255 text ∷ strings_within n (drop 255 text) else text ∷ []

-- RFC 1035, section 3.3.14: a text as its character strings; it has no more full ones than octets
abbrev pub strings_of : List ℕ → List (List ℕ)
strings_of text = strings_within (length text) text

-- a character string between quotes, behind a space
abbrev pub quoted : List ℕ → List ℕ
quoted string = 32 ∷ 34 ∷ string ++ 34 ∷ []

-- the owner of record k, below the origin
abbrev pub owner_text : (label : List ℕ) → (k : ℕ) → List ℕ
owner_text label k = if k == 0 then codes "@" else label ++ decimal k

-- RFC 1035, section 5.1: a TXT record on a line
abbrev pub record_line : (owner text : List ℕ) → List ℕ
record_line owner text = owner ++ codes " IN TXT" ++ flat_map quoted (strings_of text) ++ 10 ∷ []

-- project's own form: whether no piece is left
abbrev pub is_none : List (List FlatTerm) → Bool
is_none [] = true
is_none (piece ∷ pieces) = false

-- the records of the pieces, from record k on
abbrev pub record_lines : (domain label : List ℕ) → (k : ℕ) → List (List FlatTerm) → List ℕ
record_lines domain label k [] = []
record_lines domain label k (piece ∷ pieces) =
    record_line (owner_text label k) (record_text domain label piece k (is_none pieces))
    ++ record_lines domain label (k + 1) pieces

-- RFC 1035, section 5.1, and RFC 2308, section 4: the origin and the TTL, in seconds
abbrev pub head_text : (domain : List ℕ) → (ttl : ℕ) → List ℕ
head_text domain ttl = codes "$ORIGIN " ++ domain ++ codes ".\n$TTL " ++ decimal ttl ++ codes "\n"

-- the whole fragment
abbrev pub fragment_text : (domain label : List ℕ) → (ttl : ℕ) → List FlatTerm → (ends : List ℕ)
    → (rows4 rows6 : List NeedRow) → (total : ℕ) → List ℕ
fragment_text domain label ttl list ends rows4 rows6 total =
    head_text domain ttl ++ record_lines domain label 0 (pieces_from list 0 ends) ++ table_text rows4 rows6 total
