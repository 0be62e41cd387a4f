-- What a macro text expands to (RFC 7208, sections 7.2 to 7.4).
use Rattle.std.specs.Prelude.{◌≡◌, Option, Some, None, ℕ, ◌+◌, ◌-◌, ◌/◌, ◌%◌, Bool, ◌||◌, ◌==◌, nat_lt, nat_le, List}
use Rattle.std.specs.Prelude.{[], ◌∷◌, ◌++◌, length, drop, reverse, flat_map, codes, if◌then◌else◌}
use Rattle.std.specs.List.{list_any, slice_split, join_with_byte}
use Rattle.std.specs.Char.{is_ascii_alphabetic, is_ascii_digit}
use Rattle.addr_bits.specs.declared.address.Family.{Family}
use Rattle.addr_bits.specs.declared.address.Family.TheVariants.{V4, V6}
use Rattle.spf_macros.specs.declared.piece.Letter.{Letter}
use Rattle.spf_macros.specs.declared.piece.Letter.TheVariants.{S, L, O, D, I, P, H, V, C, R, T}
use Rattle.spf_macros.specs.declared.piece.Macro.{Macro}
use Rattle.spf_macros.specs.declared.piece.Piece.{Piece}
use Rattle.spf_macros.specs.declared.piece.Piece.TheVariants.{Literal, Percent, Space, Percent20, Expand}
use Rattle.spf_macros.specs.declared.expansion.Need.{Need}
use Rattle.spf_macros.specs.declared.expansion.Need.TheVariants as need
use Rattle.spf_macros.specs.declared.expansion.Expanded.{Expanded}
use Rattle.spf_macros.specs.declared.expansion.Expanded.TheVariants.{Out, Needs}
use Rattle.spf_macros.specs.Grammar.{is_in_set}

-- the text without one final dot
abbrev pub without_final_dot : List ℕ → List ℕ
without_final_dot [] = []
without_final_dot (b ∷ []) = if b == 46 then [] else b ∷ []
without_final_dot (b ∷ c ∷ bs) = b ∷ without_final_dot (c ∷ bs)

-- `v` stands for the tree of reversed names of the address's family (RFC 7208, section 7.2)
abbrev pub family_text : Family → List ℕ
family_text V4 = codes "in-addr"
family_text V6 = codes "ip6"

-- the value of a letter (RFC 7208, section 7.2), or what it needs. The letters of explanations alone are never asked
-- for
abbrev pub value_of : Letter → Family → List ℕ → Expanded
value_of D family domain = Out (without_final_dot domain)
value_of V family domain = Out (family_text family)
value_of S family domain = Needs need.Sender
value_of L family domain = Needs need.Sender
value_of O family domain = Needs need.Sender
value_of H family domain = Needs need.Helo
value_of P family domain = Needs need.Reverse
value_of I family domain = Needs need.Address
value_of C family domain = Out []
value_of R family domain = Out []
value_of T family domain = Out []

-- a macro splits its value at its delimiters, or at dots where it has none (RFC 7208, section 7.3)
abbrev pub splits_at : Macro → ℕ → Bool
splits_at m b = if m.delims == 0 then b == 46 else is_in_set m.delims b

-- the right-hand parts, as many as are kept, or all (RFC 7208, section 7.3)
abbrev pub kept : ℕ → List (List ℕ) → List (List ℕ)
kept keep parts = if keep == 0 then parts else drop (length parts - keep) parts

-- the value split, reversed, cut to its right-hand parts, and joined by dots (RFC 7208, section 7.3)
abbrev pub transformed : Macro → List ℕ → List ℕ
transformed m value =
    let parts = slice_split (splits_at m) value in
    join_with_byte 46 (kept m.keep (if m.reverse then reverse parts else parts))

-- a digit from 0 to 15 in upper case
abbrev pub hex_upper : ℕ → ℕ
hex_upper n = if nat_lt n 10 then 48 + n else 55 + n

-- URL escaping (RFC 7208, section 7.3; RFC 3986, section 2.3)
abbrev pub escaped_byte : ℕ → List ℕ
escaped_byte b =
    if is_ascii_alphabetic b || is_ascii_digit b || list_any (λ x. b == x) (codes "-._~") then b ∷ []
    else 37 ∷ hex_upper (b / 16) ∷ hex_upper (b % 16) ∷ []

-- an upper-case letter stands for the escaped text (RFC 7208, section 7.3)
abbrev pub in_case : Bool → List ℕ → List ℕ
in_case upper text = if upper then flat_map escaped_byte text else text

-- a value stands for what the macro makes of it, a need for itself (RFC 7208, section 7.3)
abbrev pub expanded_macro : Macro → Expanded → Expanded
expanded_macro m (Out value) = Out (in_case m.upper (transformed m value))
expanded_macro m (Needs n) = Needs n

-- what one piece stands for (RFC 7208, sections 7.2 and 7.3)
abbrev pub expanded_piece : Family → List ℕ → Piece → Expanded
expanded_piece family domain (Literal b) = Out (b ∷ [])
expanded_piece family domain Percent = Out (codes "%")
expanded_piece family domain Space = Out (codes " ")
expanded_piece family domain Percent20 = Out (codes "%20")
expanded_piece family domain (Expand m) = expanded_macro m (value_of m.letter family domain)

-- one text after another, or the first need
abbrev pub followed_by : Expanded → Expanded → Expanded
followed_by (Needs n) rest = Needs n
followed_by (Out front) (Needs n) = Needs n
followed_by (Out front) (Out rest) = Out (front ++ rest)

-- the expansion of a macro text, or the need of the first macro that needs more than the family and the domain
abbrev pub expansion : Family → List ℕ → List Piece → Expanded
expansion family domain [] = Out []
expansion family domain (piece ∷ pieces) =
    followed_by (expanded_piece family domain piece) (expansion family domain pieces)

-- what stands after each dot of the text, the longest first
abbrev pub after_dots : List ℕ → List (List ℕ)
after_dots [] = []
after_dots (b ∷ bs) = if b == 46 then bs ∷ after_dots bs else after_dots bs

-- the first text that has at most 253 characters, or the last text
abbrev pub first_short : List ℕ → List (List ℕ) → List ℕ
first_short text [] = text
first_short text (next ∷ texts) = if nat_le (length text) 253 then text else first_short next texts

-- the text without its first labels where it has more than 253 characters (RFC 7208, section 7.3)
abbrev pub cut_to_fit : List ℕ → List ℕ
cut_to_fit text = first_short text (after_dots text)

-- an expansion without one final dot, cut to fit (RFC 7208, section 7.3)
abbrev pub fitted : Expanded → Expanded
fitted (Out text) = Out (cut_to_fit (without_final_dot text))
fitted (Needs n) = Needs n

-- the text that a domain-spec asks for: its expansion, without one final dot, cut to fit (RFC 7208, section 7.3)
abbrev pub target : Family → List ℕ → List Piece → Expanded
target family domain pieces = fitted (expansion family domain pieces)

-- the text is appended, or the need is answered
abbrev pub Expands : Expanded → List ℕ → List ℕ → Option Need → Type 0
Expands (Out text) old new need = (need ≡ None) × (new ≡ old ++ text)
Expands (Needs n) old new need = need ≡ Some n
