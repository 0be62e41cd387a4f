-- What a reader in pieces keeps, and the bytes that it stands for.
use Rattle.std.specs.Prelude.{◌≡◌, ℕ, ◌+◌, ◌-◌, ◌<◌, ◌≤◌, ◌^◌, min, Bool, true, false, ◌&&◌, not, List, [], ◌∷◌, ◌++◌}
use Rattle.std.specs.Prelude.{map, filter, length, Option, Some, None, nat_lt, IsTrue, ⊤}
use Rattle.std.specs.List.{list_any, list_all}
use Rattle.std.specs.Char.{is_ascii_digit}
use Rattle.master_lex.specs.declared.entry.Token.{Token}
use Rattle.master_lex.specs.declared.entry.Entry.{Entry}
use Rattle.master_lex.specs.declared.fault.LexKind.{LexKind}
use Rattle.master_lex.specs.declared.fault.LexFault.{LexFault}
use Rattle.master_lex.specs.declared.fault.LexFault.TheVariants.{Bad, Memory}
use Rattle.master_lex.specs.declared.part.Escape.{Escape}
use Rattle.master_lex.specs.declared.part.Escape.TheVariants.{Unescaped, Slash, OneDigit, TwoDigits}
use Rattle.master_lex.specs.declared.part.Part.{Part}
use Rattle.master_lex.specs.declared.part.Part.TheVariants.{Outside, InComment, InToken}
use Rattle.master_lex.specs.Items.{Glyph, glyphs_text, octet_of, is_plain_glyph, is_quoted_glyph, is_blank, is_feed}
use Rattle.master_lex.specs.Items.{Item, plain, items_text, tokens_of, depth_after}
use Rattle.master_lex.specs.Entries.{AreEntries, has_token, lines_in}
use Rattle.master_lex.specs.Broken.{IsBroken, IsDecided, ends_in_comment}

-- ---- an open entry

-- whether the last item is a plain token, which goes on at a plain byte
abbrev pub ends_in_plain : List Item → Bool
ends_in_plain [] = false
ends_in_plain (plain glyphs ∷ []) = true
ends_in_plain (item ∷ items) = ends_in_plain items

-- items in place, with their depth and tokens, that end in no comment; under `apart` in no plain token either
pub record AreDone (apart : Bool) (items : List Item) (depth : ℕ) (tokens : List Token) : Type 0 where
  pub in_place : depth_after 0 items ≡ Some depth
  pub all : tokens ≡ tokens_of items
  pub no_comment : ends_in_comment items ≡ false
  pub no_plain : (apart && ends_in_plain items) ≡ false

-- a glyph that may stand in a quoted or a plain token
abbrev pub may_stand : Bool → Glyph → Bool
may_stand true glyph = is_quoted_glyph glyph
may_stand false glyph = is_plain_glyph glyph

-- the quote before a quoted token
abbrev pub opening_text : Bool → List ℕ
opening_text true = 34 ∷ []
opening_text false = []

-- RFC 1035, section 5.1: the bytes of an escape that is not yet whole
abbrev pub escape_text : Escape → List ℕ
escape_text Unescaped = []
escape_text Slash = 92 ∷ []
escape_text (OneDigit x) = 92 ∷ x ∷ []
escape_text (TwoDigits x y) = 92 ∷ x ∷ y ∷ []

-- a plain token has come of something, and the bytes behind a `\` are digits
abbrev pub HasBegun : Bool → List Glyph → Escape → Type 0
HasBegun false glyphs Unescaped = nat_lt 0 (length glyphs) ≡ true
HasBegun true glyphs Unescaped = ⊤
HasBegun which glyphs Slash = ⊤
HasBegun which glyphs (OneDigit x) = is_ascii_digit x ≡ true
HasBegun which glyphs (TwoDigits x y) = (is_ascii_digit x ≡ true) × (is_ascii_digit y ≡ true)

-- RFC 1035, section 5.1: the bytes of an entry come to this part of it, at this depth and behind these tokens
abbrev pub ComesTo : List ℕ → ℕ → List Token → Part → Type 0
ComesTo bytes depth tokens Outside = (items : List Item) × AreDone true items depth tokens × (bytes ≡ items_text items)
ComesTo bytes depth tokens InComment =
    (items : List Item) × (text : List ℕ) × AreDone false items depth tokens × (not (list_any is_feed text) ≡ true)
    × (bytes ≡ items_text items ++ 59 ∷ text)
ComesTo bytes depth tokens (InToken is_quoted units escape) =
    (items : List Item) × (glyphs : List Glyph) × AreDone (not is_quoted) items depth tokens
    × (list_all (may_stand is_quoted) glyphs ≡ true)
    × (units ≡ map octet_of glyphs) × HasBegun is_quoted glyphs escape
    × (bytes ≡ items_text items ++ (opening_text is_quoted ++ (glyphs_text glyphs ++ escape_text escape)))

-- ---- bytes in pieces

-- what a `Cutter` keeps: the line on which the open entry begins, the line of the next byte, whether the entry's first
-- byte is a blank, and how far the entry has come
pub record Kept : Type 0 where
  pub line : ℕ
  pub here : ℕ
  pub lead : Option Bool
  pub depth : ℕ
  pub tokens : List Token
  pub part : Part

-- whether the first byte is a blank, where there is one
abbrev pub lead_of : List ℕ → Option Bool
lead_of [] = None
lead_of (b ∷ bytes) = Some (is_blank b)

-- project's own choice: a number of a line stops at the last of its type
abbrev pub line_number : ℕ → ℕ
line_number line = min line (2 ^ 64 - 1)

-- What is kept stands for the bytes from a line on, of which these entries with a token are closed: however the bytes
-- go on, they are closed entries and then the open one.
pub record StandsFor (first : ℕ) (kept : Kept) (bytes : List ℕ) (given : List Entry) : Type 0 where
  pub entries : List Entry
  pub rest : List ℕ
  pub last : ℕ
  pub closed : (more : List ℕ) → AreEntries first (bytes ++ more) entries last (rest ++ more)
  pub with_tokens : given ≡ filter has_token entries
  pub counted : 0 < first
  pub few : first + length bytes ≤ 2 ^ 64
  pub line : kept.line ≡ line_number last
  pub here : kept.here ≡ line_number (last + lines_in rest)
  pub lead : kept.lead ≡ lead_of rest
  pub part : ComesTo rest kept.depth kept.tokens kept.part

-- the entry that begins on the line is broken, those before it are not, and these of them have a token
pub record IsBrokenAt (first : ℕ) (bytes : List ℕ) (given : List Entry) (line : ℕ) (kind : LexKind) : Type 0 where
  pub entries : List Entry
  pub rest : List ℕ
  pub place : ℕ
  pub in_order : AreEntries first bytes entries line rest
  pub with_tokens : given ≡ filter has_token entries
  pub fault : IsBroken rest kind place

-- the same, however the bytes go on
pub record IsDecidedAt (first : ℕ) (bytes : List ℕ) (given : List Entry) (line : ℕ) (kind : LexKind) : Type 0 where
  pub entries : List Entry
  pub rest : List ℕ
  pub place : ℕ
  pub in_order : AreEntries first bytes entries line rest
  pub with_tokens : given ≡ filter has_token entries
  pub fault : IsBroken rest kind place
  pub decided : IsDecided rest kind place

-- the byte behind the bytes closes this entry, which has a token, however the file goes on; the next one begins on the
-- line
pub record Closes (first : ℕ) (bytes : List ℕ) (given : List Entry) (byte : ℕ) (entry : Entry) (line : ℕ) : Type 0 where
  pub before : List Entry
  pub last : ℕ
  pub in_order : (more : List ℕ) → AreEntries first (bytes ++ byte ∷ more) (before ++ entry ∷ []) last more
  pub with_tokens : given ≡ filter has_token before
  pub token : IsTrue (has_token entry)
  pub number : line ≡ line_number last

-- the end of the file closes this entry, which has a token
pub record EndsWith (first : ℕ) (bytes : List ℕ) (given : List Entry) (entry : Entry) (line : ℕ) : Type 0 where
  pub before : List Entry
  pub last : ℕ
  pub in_order : AreEntries first bytes (before ++ entry ∷ []) last []
  pub with_tokens : given ≡ filter has_token before
  pub token : IsTrue (has_token entry)
  pub number : line ≡ line_number last

-- the bytes end here, and these are their entries with a token
pub record AreAll (first : ℕ) (bytes : List ℕ) (given : List Entry) : Type 0 where
  pub entries : List Entry
  pub last : ℕ
  pub in_order : AreEntries first bytes entries last []
  pub with_tokens : given ≡ filter has_token entries

-- a fault is want of memory, or what holds of its line and kind
abbrev pub FaultIs : (ℕ → LexKind → Type 0) → LexFault → Type 0
FaultIs holds (Bad line kind) = holds line kind
FaultIs holds Memory = ⊤
