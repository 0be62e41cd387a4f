-- Lines of a master file, and the entries that they are read as.
use Rattle.std.proofs.Common.{◌≡◌, ℕ, ◌+◌, ◌<◌, Bool, true, false, not, cond, ◌&&◌, List, [], ◌∷◌, ◌++◌, length, map, filter, refl, sym, ap, ap₂, subst, ◌∙◌, arith, append_assoc, append-nil, inl, Ok, Some, None, lt-ltb}
use Rattle.std.specs.List.{list_all, list_any}
use Rattle.std.proofs.lemmas.Bool.{and_parts, and_from, or_parts, not-true}
use Rattle.std.proofs.lemmas.List.{length-map}
use Rattle.std.proofs.lemmas.List.Folds.{list_all-map}
use Rattle.master_lex.specs.declared.entry.Entry.{Entry}
use Rattle.master_lex.specs.declared.entry.Octet.{Octet}
use Rattle.master_lex.specs.declared.entry.Token.{Token}
use Rattle.master_lex.specs.Items.{Glyph, Item, bare, blank, comment, plain, quoted, octet_of, glyphs_text, items_text, tokens_of, depth_after, may_precede, is_item, is_feed, ends_plain, is_plain_glyph, is_quoted_glyph}
use Rattle.master_lex.specs.Entries.{AreEntries, Spells, has_token, lines_in, starts_blank}
use Rattle.master_reader.specs.declared.record.Record.{Record}
use Rattle.master_reader.specs.Tokens.{bytes_in}
use Rattle.master_reader.specs.Entry.{Ask, Context, ask_of, context_behind}
use Rattle.master_reader.specs.Reading.{Adds, Mean}
use Rattle.master_reader.proofs.Once.{with_token}
use Rattle.zone_writer.specs.Fragment as fragment

-- ---- octets without escapes

abbrev pub units_of : List ℕ → List Octet
units_of bytes = map octet_of (map bare bytes)

abbrev pub plain_token : List ℕ → Token
plain_token bytes = record { units = units_of bytes; quoted = false }

abbrev pub string_token : List ℕ → Token
string_token bytes = record { units = units_of bytes; quoted = true }

pub bytes_back : (bytes : List ℕ) → bytes_in (units_of bytes) ≡ bytes
bytes_back [] = refl
bytes_back (b ∷ bytes) = ap (λ (bs : List ℕ). b ∷ bs) (bytes_back bytes)

pub no_escapes : (bytes : List ℕ) → list_any (λ (o : Octet). o.escaped) (units_of bytes) ≡ false
no_escapes [] = refl
no_escapes (b ∷ bytes) = no_escapes bytes

bare_text : (bytes : List ℕ) → glyphs_text (map bare bytes) ≡ bytes
bare_text [] = refl
bare_text (b ∷ bytes) = ap (λ (bs : List ℕ). b ∷ bs) (bare_text bytes)

-- ---- words and strings

-- a plain and a quoted token without escapes
abbrev word : List ℕ → Item
word bytes = plain (map bare bytes)

abbrev string : List ℕ → Item
string bytes = quoted (map bare bytes)

-- a byte that may stand in a word, and one that may stand in a string
abbrev pub is_bare_byte : ℕ → Bool
is_bare_byte b = not (ends_plain b)

abbrev pub is_string_byte : ℕ → Bool
is_string_byte b = is_quoted_glyph (bare b)

pub record IsWord (bytes : List ℕ) : Type 0 where
  pub some : 0 < length bytes
  pub each : list_all is_bare_byte bytes ≡ true

word_is_item : (bytes : List ℕ) → IsWord bytes → is_item (word bytes) ≡ true
word_is_item bytes h =
    let same : length (map bare bytes) ≡ length bytes = length-map bytes bare in
    let some : 0 < length bytes = h.some in
    and_from _ _ (lt-ltb 0 (length (map bare bytes)) (omega arith)) (list_all-map is_plain_glyph bare bytes ∙ h.each)

string_is_item : (bytes : List ℕ) → list_all is_string_byte bytes ≡ true → is_item (string bytes) ≡ true
string_is_item bytes h = list_all-map is_quoted_glyph bare bytes ∙ h

-- a word begins with no blank
word_led : (bytes rest : List ℕ) → IsWord bytes → starts_blank (bytes ++ rest) ≡ false
word_led [] rest h = absurd (omega (arith, h.some))
word_led (b ∷ bytes) rest h =
    let bare = not-true (ends_plain b) (and_parts (is_bare_byte b) (list_all is_bare_byte bytes) h.each).0 in
    (or_parts _ _ (or_parts _ _ bare).0).0

-- what stands behind the first word of a line, each behind a space
pub data Part : Type 0 where
  a_word : List ℕ → Part
  a_string : List ℕ → Part

abbrev pub parts_text : List Part → List ℕ
parts_text [] = []
parts_text (a_word bytes ∷ parts) = 32 ∷ (bytes ++ parts_text parts)
parts_text (a_string bytes ∷ parts) = fragment.quoted bytes ++ parts_text parts

abbrev pub parts_items : List Part → List Item
parts_items [] = []
parts_items (a_word bytes ∷ parts) = blank 32 ∷ word bytes ∷ parts_items parts
parts_items (a_string bytes ∷ parts) = blank 32 ∷ string bytes ∷ parts_items parts

abbrev pub parts_tokens : List Part → List Token
parts_tokens [] = []
parts_tokens (a_word bytes ∷ parts) = plain_token bytes ∷ parts_tokens parts
parts_tokens (a_string bytes ∷ parts) = string_token bytes ∷ parts_tokens parts

abbrev pub AreParts : List Part → Type 0
AreParts [] = Unit {0}
AreParts (a_word bytes ∷ parts) = IsWord bytes × AreParts parts
AreParts (a_string bytes ∷ parts) = (list_all is_string_byte bytes ≡ true) × AreParts parts

text_of_parts : (parts : List Part) → items_text (parts_items parts) ≡ parts_text parts
text_of_parts [] = refl
text_of_parts (a_word bytes ∷ parts) = ap₂ (λ (x y : List ℕ). 32 ∷ (x ++ y)) (bare_text bytes) (text_of_parts parts)
text_of_parts (a_string bytes ∷ parts) = ap₂ (λ (x y : List ℕ). 32 ∷ 34 ∷ ((x ++ 34 ∷ []) ++ y)) (bare_text bytes) (text_of_parts parts)

tokens_of_parts : (parts : List Part) → tokens_of (parts_items parts) ≡ parts_tokens parts
tokens_of_parts [] = refl
tokens_of_parts (a_word bytes ∷ parts) = ap (λ (ts : List Token). plain_token bytes ∷ ts) (tokens_of_parts parts)
tokens_of_parts (a_string bytes ∷ parts) = ap (λ (ts : List Token). string_token bytes ∷ ts) (tokens_of_parts parts)

may_stand : (glyphs : List Glyph) (parts : List Part) → may_precede (plain glyphs) (parts_items parts) ≡ true
may_stand glyphs [] = refl
may_stand glyphs (a_word bytes ∷ parts) = refl
may_stand glyphs (a_string bytes ∷ parts) = refl

depth_of_word : (bytes : List ℕ) (parts : List Part) → IsWord bytes → depth_after 0 (parts_items parts) ≡ Some 0 → depth_after 0 (word bytes ∷ parts_items parts) ≡ Some 0
depth_of_word bytes parts h rest =
    ap₂ (λ (s t : Bool). cond (s && t) (depth_after 0 (parts_items parts)) None) (word_is_item bytes h) (may_stand (map bare bytes) parts) ∙ rest

depth_of_parts : (parts : List Part) → AreParts parts → depth_after 0 (parts_items parts) ≡ Some 0
depth_of_parts [] h = refl
depth_of_parts (a_word bytes ∷ parts) h = depth_of_word bytes parts h.0 (depth_of_parts parts h.1)
depth_of_parts (a_string bytes ∷ parts) h =
    ap (λ (t : Bool). cond (t && true) (depth_after 0 (parts_items parts)) None) (string_is_item bytes h.0) ∙ depth_of_parts parts h.1

-- ---- the reading of what is left of a file

-- bytes from this line on, in this context, are read as these records
pub record ReadsOn (zone : List (List ℕ)) (context : Context) (line : ℕ) (bytes : List ℕ) (records : List Record) : Type 0 where
  pub entries : List Entry
  pub last : ℕ
  pub behind : Context
  pub in_order : AreEntries line bytes entries last []
  pub meaning : Mean zone context (filter has_token entries) behind records

-- nothing is left
pub nothing_on : (zone : List (List ℕ)) (context : Context) (line : ℕ) → ReadsOn zone context line [] []
nothing_on zone context line = record { entries = []; last = line; behind = context; in_order = (refl, refl); meaning = (refl, refl) }

abbrev pub comment_text : List ℕ → List ℕ
comment_text body = 59 ∷ (body ++ 10 ∷ [])

comment_spells : (line : ℕ) (body rest : List ℕ) → list_any is_feed body ≡ false → Spells (comment_text body) rest (record { line = line; blank = false; tokens = [] })
comment_spells line body rest none = record {
  items = comment body ∷ [];
  in_place = ap (λ (t : Bool). cond (not t && true) (Some 0) None) none;
  spelled = inl (ap (λ (t : List ℕ). 59 ∷ (t ++ 10 ∷ [])) (sym (append-nil body)));
  tokens = refl;
  led = refl;
}

-- a comment is passed over
pub comment_on : (zone : List (List ℕ)) (context : Context) (line : ℕ) (body rest : List ℕ) (records : List Record) → list_any is_feed body ≡ false
    → ((n : ℕ) → ReadsOn zone context n rest records) → ReadsOn zone context line (comment_text body ++ rest) records
comment_on zone context line body rest records none on =
    let r = on (line + lines_in (comment_text body)) in
    record {
      entries = record { line = line; blank = false; tokens = [] } ∷ r.entries;
      last = r.last;
      behind = r.behind;
      in_order = (comment_text body, rest, refl, comment_spells line body rest none, refl, r.in_order);
      meaning = r.meaning;
    }

abbrev pub line_text : (first : List ℕ) → List Part → List ℕ
line_text first parts = (first ++ parts_text parts) ++ 10 ∷ []

abbrev pub line_entry : (line : ℕ) → (first : List ℕ) → List Part → Entry
line_entry line first parts = record { line = line; blank = false; tokens = plain_token first ∷ parts_tokens parts }

line_spells : (line : ℕ) (first : List ℕ) (parts : List Part) (rest : List ℕ) → IsWord first → AreParts parts → Spells (line_text first parts) rest (line_entry line first parts)
line_spells line first parts rest h hs = record {
  items = word first ∷ parts_items parts;
  in_place = depth_of_word first parts h (depth_of_parts parts hs);
  spelled = inl (sym (ap₂ (λ (x y : List ℕ). (x ++ y) ++ 10 ∷ []) (bare_text first) (text_of_parts parts)));
  tokens = ap (λ (ts : List Token). plain_token first ∷ ts) (sym (tokens_of_parts parts));
  led = sym (ap starts_blank (append_assoc first (parts_text parts) (10 ∷ [])) ∙ word_led first (parts_text parts ++ 10 ∷ []) h);
}

-- a line is read as what it asks for
pub line_on : (zone : List (List ℕ)) (context : Context) (line : ℕ) (first : List ℕ) (parts : List Part) (ask : Ask) (rest : List ℕ) (mine others : List Record)
    → IsWord first → AreParts parts → ((n : ℕ) → ask_of context (line_entry n first parts) ≡ Ok ask) → Adds zone context.origin ask mine
    → ((n : ℕ) → ReadsOn zone (context_behind context ask) n rest others) → ReadsOn zone context line (line_text first parts ++ rest) (mine ++ others)
line_on zone context line first parts ask rest mine others h hs asks adds on =
    let r = on (line + lines_in (line_text first parts)) in
    record {
      entries = line_entry line first parts ∷ r.entries;
      last = r.last;
      behind = r.behind;
      in_order = (line_text first parts, rest, refl, line_spells line first parts rest h hs, refl, r.in_order);
      meaning =
          subst (λ (es : List Entry). Mean zone context es r.behind (mine ++ others)) (sym (with_token [] (line_entry line first parts) r.entries (lt-ltb 0 (length (plain_token first ∷ parts_tokens parts)) (omega arith))))
          (ask, asks line, (mine, others, refl, adds, r.meaning));
    }
