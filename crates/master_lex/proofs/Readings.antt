-- A text has one reading at most, and none where it is broken.
use Rattle.std.proofs.Common.{◌≡◌, ℕ, zero, suc, ◌+◌, ◌/◌, ◌%◌, ◌<◌, ◌≤◌, Bool, true, false, cond, not, ◌&&◌, ◌||◌, List, [], ◌∷◌, ◌++◌, map, Option, Some, None, option_and_then, refl, sym, ap, ap₂, subst, ◌∙◌, append_assoc, append-nil, inl, inr, ◌⊎◌, arith, nat_lt, nat_le, ◌==◌, length, ◌≢◌, true≢false, leb-true, ltb-true, eqb-true}
use Rattle.std.specs.Prelude.{⊤}
use Rattle.std.specs.List.{list_all, list_any}
use Rattle.std.specs.Char.{is_ascii_digit}
use Rattle.master_lex.specs.declared.entry.Octet.{Octet}
use Rattle.master_lex.specs.declared.entry.Token.{Token}
use Rattle.master_lex.specs.declared.entry.Entry.{Entry}
use Rattle.master_lex.specs.declared.fault.LexKind.{LexKind}
use Rattle.master_lex.specs.declared.fault.LexKind.TheVariants.{OpenQuote, OpenParen, StrayParen, BadEscape}
use Rattle.master_lex.specs.Items.{Glyph, bare, marked, numbered, glyph_text, glyphs_text, octet_of, is_escape, is_plain_glyph, is_quoted_glyph, is_blank, is_feed, Item, blank, comment, opening, closing, feed, plain, quoted, item_text, items_text, tokens_of, is_item, may_precede, depth_behind, depth_after}
use Rattle.master_lex.specs.Entries.{Spells}
use Rattle.master_lex.specs.Broken.{ends_in_comment, IsOutside, IsInQuotes, NoEscape, IsLineEnd, IsBroken}
use Rattle.master_lex.specs.declared.part.Escape.TheVariants.{Unescaped, Slash, OneDigit, TwoDigits}
use Rattle.master_lex.specs.declared.part.Part.{Part}
use Rattle.master_lex.specs.declared.part.Part.TheVariants.{Outside, InComment, InToken}
use Rattle.master_lex.specs.declared.part.Step.{Step}
use Rattle.master_lex.specs.declared.part.Step.TheVariants.{Goes, Closes, Fails}
use Rattle.master_lex.specs.Steps.{with_token, at_mark, step, value_of}
use Rattle.master_lex.proofs.Machine.{Outcome, closed, broken, alive, at_end, run, run_go, run_fails, when, unless, both_parts, glyphs_run}

pub some_is : {A : Type 0} (x y : A) → Some x ≡ Some y → x ≡ y
some_is x y e = cc

abbrev pub EndsPlain : List ℕ → Type 0
EndsPlain [] = ⊤
EndsPlain (b ∷ bytes) = (is_plain_glyph (bare b) ≡ false) × ((b == 92) ≡ false)

-- what may stand behind an item
abbrev pub Follows : Item → List ℕ → Type 0
Follows (plain glyphs) bytes = EndsPlain bytes
Follows (comment text) bytes = IsLineEnd bytes
Follows (blank b) bytes = ⊤
Follows opening bytes = ⊤
Follows closing bytes = ⊤
Follows feed bytes = ⊤
Follows (quoted glyphs) bytes = ⊤

blank_ends : (b : ℕ) → is_blank b ≡ true → (is_plain_glyph (bare b) ≡ false) × ((b == 92) ≡ false)
blank_ends b h = (ap (λ (t : Bool). not (t || is_feed b || list_any (λ c. c == b) (34 ∷ 40 ∷ 41 ∷ 59 ∷ 92 ∷ []))) h, by (b == 92) refl)
  where
    by : (t : Bool) → (b == 92) ≡ t → t ≡ false
    by false e = refl
    by true e = absurd (true≢false (sym (subst (λ (x : ℕ). is_blank x ≡ true) (eqb-true b 92 e) h)))

-- the parts of what `depth_after` says of an item and those behind it
pub record InPlace (d : ℕ) (item : Item) (items : List Item) (e : ℕ) : Type 0 where
  pub ok : is_item item ≡ true
  pub before : may_precede item items ≡ true
  pub depth : ℕ
  pub first : depth_behind d item ≡ Some depth
  pub others : depth_after depth items ≡ Some e

pub in_place : (d : ℕ) (item : Item) (items : List Item) (e : ℕ) → depth_after d (item ∷ items) ≡ Some e → InPlace d item items e
in_place d item items e h = by (is_item item && may_precede item items) refl h
  where
    behind : (o : Option ℕ) → depth_behind d item ≡ o → option_and_then (λ k. depth_after k items) o ≡ Some e
        → (k : ℕ) × (depth_behind d item ≡ Some k) × (depth_after k items ≡ Some e)
    behind None is h = absurd cc
    behind (Some k) is h = (k, is, h)

    by : (t : Bool) → (is_item item && may_precede item items) ≡ t
        → cond t (option_and_then (λ k. depth_after k items) (depth_behind d item)) None ≡ Some e → InPlace d item items e
    by false is h = absurd cc
    by true is h =
        let tests = both_parts (is_item item) (may_precede item items) is in
        let found = behind (depth_behind d item) refl h in
        record { ok = tests.0; before = tests.1; depth = found.0; first = found.1; others = found.2 }

-- what may stand behind the last item
abbrev pub Ends : List Item → List ℕ → Type 0
Ends [] bytes = ⊤
Ends (item ∷ []) bytes = Follows item bytes
Ends (item ∷ next ∷ items) bytes = Ends (next ∷ items) bytes

ends_later : (item : Item) (items : List Item) (bytes : List ℕ) → Ends (item ∷ items) bytes → Ends items bytes
ends_later item [] bytes h = tt
ends_later item (next ∷ items) bytes h = h

behind_plain : (glyphs : List Glyph) (next : Item) (items : List Item) (bytes : List ℕ) → is_item next ≡ true → may_precede (plain glyphs) (next ∷ items) ≡ true
    → EndsPlain (item_text next ++ bytes)
behind_plain glyphs (blank b) items bytes ok h = blank_ends b ok
behind_plain glyphs (comment text) items bytes ok h = (refl, refl)
behind_plain glyphs opening items bytes ok h = (refl, refl)
behind_plain glyphs closing items bytes ok h = (refl, refl)
behind_plain glyphs feed items bytes ok h = (refl, refl)
behind_plain glyphs (plain others) items bytes ok h = absurd (true≢false (sym h))
behind_plain glyphs (quoted others) items bytes ok h = (refl, refl)

behind_comment : (text : List ℕ) (next : Item) (items : List Item) (bytes : List ℕ) → may_precede (comment text) (next ∷ items) ≡ true
    → IsLineEnd (item_text next ++ bytes)
behind_comment text (blank b) items bytes h = absurd (true≢false (sym h))
behind_comment text (comment others) items bytes h = absurd (true≢false (sym h))
behind_comment text opening items bytes h = absurd (true≢false (sym h))
behind_comment text closing items bytes h = absurd (true≢false (sym h))
behind_comment text feed items bytes h = refl
behind_comment text (plain others) items bytes h = absurd (true≢false (sym h))
behind_comment text (quoted others) items bytes h = absurd (true≢false (sym h))

follows : (item next : Item) (items : List Item) (bytes : List ℕ) → is_item next ≡ true → may_precede item (next ∷ items) ≡ true → Follows item (item_text next ++ bytes)
follows (blank b) next items bytes ok h = tt
follows (comment text) next items bytes ok h = behind_comment text next items bytes h
follows opening next items bytes ok h = tt
follows closing next items bytes ok h = tt
follows feed next items bytes ok h = tt
follows (plain glyphs) next items bytes ok h = behind_plain glyphs next items bytes ok h
follows (quoted glyphs) next items bytes ok h = tt

pub tokens_of-cons : (item : Item) (items : List Item) → tokens_of (item ∷ items) ≡ tokens_of (item ∷ []) ++ tokens_of items
tokens_of-cons (blank b) items = refl
tokens_of-cons (comment text) items = refl
tokens_of-cons opening items = refl
tokens_of-cons closing items = refl
tokens_of-cons feed items = refl
tokens_of-cons (plain glyphs) items = refl
tokens_of-cons (quoted glyphs) items = refl

-- a line feed and the end may stand behind all items
pub ends_at_feed : (items : List Item) (bytes : List ℕ) → Ends items (10 ∷ bytes)
ends_at_feed [] bytes = tt
ends_at_feed (blank b ∷ []) bytes = tt
ends_at_feed (comment text ∷ []) bytes = refl
ends_at_feed (opening ∷ []) bytes = tt
ends_at_feed (closing ∷ []) bytes = tt
ends_at_feed (feed ∷ []) bytes = tt
ends_at_feed (plain glyphs ∷ []) bytes = (refl, refl)
ends_at_feed (quoted glyphs ∷ []) bytes = tt
ends_at_feed (item ∷ next ∷ items) bytes = ends_at_feed (next ∷ items) bytes

pub ends_at_end : (items : List Item) → Ends items []
ends_at_end [] = tt
ends_at_end (blank b ∷ []) = tt
ends_at_end (comment text ∷ []) = tt
ends_at_end (opening ∷ []) = tt
ends_at_end (closing ∷ []) = tt
ends_at_end (feed ∷ []) = tt
ends_at_end (plain glyphs ∷ []) = tt
ends_at_end (quoted glyphs ∷ []) = tt
ends_at_end (item ∷ next ∷ items) = ends_at_end (next ∷ items)

-- ---- a `\` without an escape

pub digit_is : (x : ℕ) → is_ascii_digit x ≡ true → (48 ≤ x) × (x ≤ 57)
digit_is x h = let p = both_parts (nat_le 48 x) (nat_le x 57) h in (leb-true 48 x p.0, leb-true x 57 p.1)

pub no_mark : (b : ℕ) (rest : List ℕ) → NoEscape (b ∷ rest) → is_escape (marked b) ≡ false
no_mark b rest none = by (is_escape (marked b)) refl
  where
    by : (t : Bool) → is_escape (marked b) ≡ t → t ≡ false
    by false is = refl
    by true is = absurd (none (marked b) rest is refl)

pub no_number : (x y z : ℕ) (rest : List ℕ) → NoEscape (x ∷ y ∷ z ∷ rest) → is_ascii_digit x ≡ true → is_ascii_digit y ≡ true
    → (is_ascii_digit z && is_escape (numbered (value_of x y z))) ≡ false
no_number x y z rest none dx dy = by (is_ascii_digit z && is_escape (numbered (value_of x y z))) refl
  where
    by : (t : Bool) → (is_ascii_digit z && is_escape (numbered (value_of x y z))) ≡ t → t ≡ false
    by false is = refl
    by true is =
        let p = both_parts (is_ascii_digit z) (is_escape (numbered (value_of x y z))) is in
        let n = value_of x y z in
        let hx = digit_is x dx in
        let hy = digit_is y dy in
        let hz = digit_is z p.0 in
        let small : n < 256 = ltb-true n 256 p.1 in
        let ex : x ≡ 48 + n / 100 = omega (arith, hx.0, hx.1, hy.0, hy.1, hz.0, hz.1) in
        let ey : y ≡ 48 + n / 10 % 10 = omega (arith, hx.0, hx.1, hy.0, hy.1, hz.0, hz.1) in
        let ez : z ≡ 48 + n % 10 = omega (arith, hx.0, hx.1, hy.0, hy.1, hz.0, hz.1) in
        absurd (none (numbered n) rest p.1 (λ i. 92 ∷ ex i ∷ ey i ∷ ez i ∷ rest))

-- ends that take an open plain token, and a comment, as what stands outside
pub record Good (end : ℕ → List Token → Part → Outcome) : Type 0 where
  pub plain : (d : ℕ) (tokens : List Token) (units : List Octet) → end d tokens (InToken false units Unescaped) ≡ end d (with_token tokens false units) Outside
  pub comment : (d : ℕ) (tokens : List Token) → end d tokens InComment ≡ end d tokens Outside

pub good_at_end : Good at_end
good_at_end = record { plain = λ d tokens units. refl; comment = λ d tokens. refl }

-- an end that says only that no fault stands before it
abbrev pub still : ℕ → List Token → Part → Outcome
still d tokens part = alive

pub good_still : Good still
good_still = record { plain = λ d tokens units. refl; comment = λ d tokens. refl }

-- ---- what the machine does with items

module _ (end : ℕ → List Token → Part → Outcome) (good : Good end) where
  plain_ends : (d : ℕ) (tokens : List Token) (units : List Octet) (bytes : List ℕ) → EndsPlain bytes
      → run end d tokens (InToken false units Unescaped) bytes ≡ run end d (with_token tokens false units) Outside bytes
  plain_ends d tokens units [] h = good.plain d tokens units
  plain_ends d tokens units (b ∷ bytes) h =
      ap (λ (s : Step). elim s [ Goes e more next ↦ run end e more next bytes | Closes all ↦ closed all bytes | Fails kind ↦ broken kind ]) (left ∙ sym right)
    where
      left : step d tokens (InToken false units Unescaped) b ≡ at_mark d (with_token tokens false units) b
      left = unless (is_plain_glyph (bare b)) _ _ h.0 ∙ unless (b == 92) _ _ h.1

      right : step d (with_token tokens false units) Outside b ≡ at_mark d (with_token tokens false units) b
      right = unless (is_plain_glyph (bare b)) _ _ h.0

  comment_ends : (d : ℕ) (tokens : List Token) (bytes : List ℕ) → IsLineEnd bytes → run end d tokens InComment bytes ≡ run end d tokens Outside bytes
  comment_ends d tokens [] h = good.comment d tokens
  comment_ends d tokens (b ∷ bytes) h =
      subst (λ (x : ℕ). run end d tokens InComment (x ∷ bytes) ≡ run end d tokens Outside (x ∷ bytes)) (sym h) refl

  pub comment_runs : (d : ℕ) (tokens : List Token) (text bytes : List ℕ) → not (list_any is_feed text) ≡ true
      → run end d tokens InComment (text ++ bytes) ≡ run end d tokens InComment bytes
  comment_runs d tokens [] bytes h = refl
  comment_runs d tokens (b ∷ text) bytes h =
      let parts = no_or (is_feed b) (list_any is_feed text) h in
      run_go end d tokens InComment b (text ++ bytes) d tokens InComment (unless (is_feed b) _ _ parts.0)
      ∙ comment_runs d tokens text bytes parts.1
    where
      no_or : (s t : Bool) → not (s || t) ≡ true → (s ≡ false) × (not t ≡ true)
      no_or true t h = absurd (true≢false (sym h))
      no_or false t h = (refl, h)

  plain_starts : (d : ℕ) (tokens : List Token) (g : Glyph) (bytes : List ℕ) → is_plain_glyph g ≡ true
      → run end d tokens Outside (glyph_text g ++ bytes) ≡ run end d tokens (InToken false [] Unescaped) (glyph_text g ++ bytes)
  plain_starts d tokens (bare b) bytes h =
      run_go end d tokens Outside b bytes d tokens (InToken false (octet_of (bare b) ∷ []) Unescaped) (when (is_plain_glyph (bare b)) _ _ h)
      ∙ sym (run_go end d tokens (InToken false [] Unescaped) b bytes d tokens (InToken false (octet_of (bare b) ∷ []) Unescaped) (when (is_plain_glyph (bare b)) _ _ h))
  plain_starts d tokens (marked b) bytes h = refl
  plain_starts d tokens (numbered b) bytes h = refl

  pub plain_runs : (d : ℕ) (tokens : List Token) (glyphs : List Glyph) (bytes : List ℕ) → is_item (plain glyphs) ≡ true
      → run end d tokens Outside (glyphs_text glyphs ++ bytes) ≡ run end d tokens (InToken false (map octet_of glyphs) Unescaped) bytes
  plain_runs d tokens [] bytes h = absurd (true≢false (sym h))
  plain_runs d tokens (g ∷ gs) bytes h =
      let each = (both_parts (nat_lt 0 (length (g ∷ gs))) (list_all is_plain_glyph (g ∷ gs)) h).1 in
      let first = (both_parts (is_plain_glyph g) (list_all is_plain_glyph gs) each).0 in
      ap (run end d tokens Outside) (append_assoc (glyph_text g) (glyphs_text gs) bytes)
      ∙ plain_starts d tokens g (glyphs_text gs ++ bytes) first
      ∙ ap (run end d tokens (InToken false [] Unescaped)) (sym (append_assoc (glyph_text g) (glyphs_text gs) bytes))
      ∙ glyphs_run end false d tokens [] (g ∷ gs) bytes each

  -- an item leads from outside to outside
  pub item_runs : (d : ℕ) (tokens : List Token) (item : Item) (e : ℕ) (bytes : List ℕ) → is_item item ≡ true → depth_behind d item ≡ Some e → Follows item bytes
      → run end d tokens Outside (item_text item ++ bytes) ≡ run end e (tokens ++ tokens_of (item ∷ [])) Outside bytes
  item_runs d tokens (blank b) e bytes ok is after =
      run_go end d tokens Outside b bytes d tokens Outside (unless (is_plain_glyph (bare b)) _ _ (blank_ends b ok).0 ∙ when (is_blank b) _ _ ok)
      ∙ ap₂ (λ (k : ℕ) (all : List Token). run end k all Outside bytes) (some_is d e is) (sym (append-nil tokens))
  item_runs d tokens (comment text) e bytes ok is after =
      comment_runs d tokens text bytes ok ∙ comment_ends d tokens bytes after
      ∙ ap₂ (λ (k : ℕ) (all : List Token). run end k all Outside bytes) (some_is d e is) (sym (append-nil tokens))
  item_runs d tokens opening e bytes ok is after =
      ap₂ (λ (k : ℕ) (all : List Token). run end k all Outside bytes) (some_is (suc d) e is) (sym (append-nil tokens))
  item_runs zero tokens closing e bytes ok is after = absurd cc
  item_runs (suc d) tokens closing e bytes ok is after =
      ap₂ (λ (k : ℕ) (all : List Token). run end k all Outside bytes) (some_is d e is) (sym (append-nil tokens))
  item_runs zero tokens feed e bytes ok is after = absurd cc
  item_runs (suc d) tokens feed e bytes ok is after =
      ap₂ (λ (k : ℕ) (all : List Token). run end k all Outside bytes) (some_is (suc d) e is) (sym (append-nil tokens))
  item_runs d tokens (plain glyphs) e bytes ok is after =
      plain_runs d tokens glyphs bytes ok ∙ plain_ends d tokens (map octet_of glyphs) bytes after
      ∙ ap (λ (k : ℕ). run end k (with_token tokens false (map octet_of glyphs)) Outside bytes) (some_is d e is)
  item_runs d tokens (quoted glyphs) e bytes ok is after =
      ap (run end d tokens (InToken true [] Unescaped)) (append_assoc (glyphs_text glyphs) (34 ∷ []) bytes)
      ∙ glyphs_run end true d tokens [] glyphs (34 ∷ bytes) ok
      ∙ ap (λ (k : ℕ). run end k (with_token tokens true (map octet_of glyphs)) Outside bytes) (some_is d e is)

  -- items in place lead from outside to outside
  pub items_run : (d : ℕ) (tokens : List Token) (items : List Item) (e : ℕ) (bytes : List ℕ) → depth_after d items ≡ Some e → Ends items bytes
      → run end d tokens Outside (items_text items ++ bytes) ≡ run end e (tokens ++ tokens_of items) Outside bytes
  items_run d tokens [] e bytes h ends =
      ap₂ (λ (k : ℕ) (all : List Token). run end k all Outside bytes) (some_is d e h) (sym (append-nil tokens))
  items_run d tokens (item ∷ items) e bytes h ends =
      let p = in_place d item items e h in
      ap (run end d tokens Outside) (append_assoc (item_text item) (items_text items) bytes)
      ∙ item_runs d tokens item p.depth (items_text items ++ bytes) p.ok p.first (next_follows items p ends)
      ∙ items_run p.depth (tokens ++ tokens_of (item ∷ [])) items e bytes p.others (ends_later item items bytes ends)
      ∙ ap (λ (all : List Token). run end e all Outside bytes)
      (append_assoc tokens (tokens_of (item ∷ [])) (tokens_of items) ∙ ap (λ (more : List Token). tokens ++ more) (sym (tokens_of-cons item items)))
    where
      next_follows : (items : List Item) → InPlace d item items e → Ends (item ∷ items) bytes → Follows item (items_text items ++ bytes)
      next_follows [] p ends = ends
      next_follows (next ∷ more) p ends =
          subst (Follows item) (sym (append_assoc (item_text next) (items_text more) bytes))
          (follows item next more (items_text more ++ bytes) (in_place p.depth next more e p.others).ok p.before)

  -- from outside at the depth, and from an open plain token there, the bytes lead to the outcome
  abbrev pub Leads : ℕ → List ℕ → Outcome → Type 0
  Leads d bytes outcome =
      ((tokens : List Token) → run end d tokens Outside bytes ≡ outcome)
      × ((tokens : List Token) (units : List Octet) → run end d tokens (InToken false units Unescaped) bytes ≡ outcome)

  -- the outcome behind items that do not end in a comment
  pub front_runs : (d : ℕ) (tokens : List Token) (items : List Item) (e : ℕ) (bytes : List ℕ) (outcome : Outcome) → depth_after d items ≡ Some e → ends_in_comment items ≡ false
      → Leads e bytes outcome → run end d tokens Outside (items_text items ++ bytes) ≡ outcome
  front_runs d tokens [] e bytes outcome h ends_open leads = ap (λ (k : ℕ). run end k tokens Outside bytes) (some_is d e h) ∙ leads.0 tokens
  front_runs d tokens (item ∷ next ∷ items) e bytes outcome h ends_open leads =
      let p = in_place d item (next ∷ items) e h in
      ap (run end d tokens Outside) (append_assoc (item_text item) (items_text (next ∷ items)) bytes)
      ∙ item_runs d tokens item p.depth (items_text (next ∷ items) ++ bytes) p.ok p.first
      (subst (Follows item) (sym (append_assoc (item_text next) (items_text items) bytes)) (follows item next items (items_text items ++ bytes) (in_place p.depth next items e p.others).ok p.before))
      ∙ front_runs p.depth (tokens ++ tokens_of (item ∷ [])) (next ∷ items) e bytes outcome p.others (later item next items ends_open) leads
    where
      later : (item next : Item) (items : List Item) → ends_in_comment (item ∷ next ∷ items) ≡ false → ends_in_comment (next ∷ items) ≡ false
      later (blank b) next items h = h
      later (comment text) next items h = h
      later opening next items h = h
      later closing next items h = h
      later feed next items h = h
      later (plain glyphs) next items h = h
      later (quoted glyphs) next items h = h
  front_runs d tokens (item ∷ []) e bytes outcome h ends_open leads = last item (in_place d item [] e h) ends_open
    where
      at_once : (item : Item) → InPlace d item [] e → Follows item bytes → run end d tokens Outside (items_text (item ∷ []) ++ bytes) ≡ outcome
      at_once item p after =
          ap (λ (t : List ℕ). run end d tokens Outside (t ++ bytes)) (append-nil (item_text item))
          ∙ item_runs d tokens item p.depth bytes p.ok p.first after
          ∙ ap (λ (k : ℕ). run end k (tokens ++ tokens_of (item ∷ [])) Outside bytes) (some_is p.depth e p.others)
          ∙ leads.0 (tokens ++ tokens_of (item ∷ []))

      last : (item : Item) → InPlace d item [] e → ends_in_comment (item ∷ []) ≡ false → run end d tokens Outside (items_text (item ∷ []) ++ bytes) ≡ outcome
      last (blank b) p ends_open = at_once (blank b) p tt
      last (comment text) p ends_open = absurd (true≢false ends_open)
      last opening p ends_open = at_once opening p tt
      last closing p ends_open = at_once closing p tt
      last feed p ends_open = at_once feed p tt
      last (quoted glyphs) p ends_open = at_once (quoted glyphs) p tt
      last (plain glyphs) p ends_open =
          ap (λ (t : List ℕ). run end d tokens Outside (t ++ bytes)) (append-nil (glyphs_text glyphs))
          ∙ plain_runs d tokens glyphs bytes p.ok
          ∙ ap (λ (k : ℕ). run end k tokens (InToken false (map octet_of glyphs) Unescaped) bytes) (some_is d p.depth p.first ∙ some_is p.depth e p.others)
          ∙ leads.1 tokens (map octet_of glyphs)

  -- an open quote leads on from outside
  pub quote_leads : (d : ℕ) (glyphs : List Glyph) (bytes : List ℕ) (outcome : Outcome) → list_all is_quoted_glyph glyphs ≡ true
      → ((tokens : List Token) (units : List Octet) → run end d tokens (InToken true units Unescaped) bytes ≡ outcome)
      → Leads d (34 ∷ (glyphs_text glyphs ++ bytes)) outcome
  quote_leads d glyphs bytes outcome each on = (
    (λ tokens. glyphs_run end true d tokens [] glyphs bytes each ∙ on tokens (map octet_of glyphs)),
    (λ tokens units. glyphs_run end true d (with_token tokens false units) [] glyphs bytes each ∙ on (with_token tokens false units) (map octet_of glyphs)),
  )

  pub outside_runs : (front : List ℕ) (d : ℕ) (bytes : List ℕ) (outcome : Outcome) → IsOutside front d → Leads d bytes outcome → run end 0 [] Outside (front ++ bytes) ≡ outcome
  outside_runs front d bytes outcome o leads =
      ap (λ (t : List ℕ). run end 0 [] Outside (t ++ bytes)) o.spelled
      ∙ front_runs 0 [] o.items d bytes outcome o.in_place o.no_comment leads

  pub quotes_run : (front bytes : List ℕ) (outcome : Outcome) → IsInQuotes front
      → ((d : ℕ) (tokens : List Token) (units : List Octet) → run end d tokens (InToken true units Unescaped) bytes ≡ outcome)
      → run end 0 [] Outside (front ++ bytes) ≡ outcome
  quotes_run front bytes outcome q on =
      ap (λ (t : List ℕ). run end 0 [] Outside (t ++ bytes)) q.spelled
      ∙ ap (run end 0 [] Outside) (append_assoc q.before (34 ∷ glyphs_text q.glyphs) bytes)
      ∙ outside_runs q.before q.depth (34 ∷ (glyphs_text q.glyphs ++ bytes)) outcome q.outside (quote_leads q.depth q.glyphs bytes outcome q.each (on q.depth))

-- ---- entries

-- a spelled text leads the machine to its end, with its tokens
pub spells_run : (text after : List ℕ) (entry : Entry) → Spells text after entry → run at_end 0 [] Outside (text ++ after) ≡ closed entry.tokens after
spells_run text after entry s = by s.spelled
  where
    items : List Item
    items = s.items

    by : ((text ≡ items_text items ++ 10 ∷ []) ⊎ ((text ≡ items_text items) × (text ≢ []) × (after ≡ []))) → run at_end 0 [] Outside (text ++ after) ≡ closed entry.tokens after
    by (inl is) =
        ap (λ (t : List ℕ). run at_end 0 [] Outside (t ++ after)) is
        ∙ ap (run at_end 0 [] Outside) (append_assoc (items_text items) (10 ∷ []) after)
        ∙ items_run at_end good_at_end 0 [] items 0 (10 ∷ after) s.in_place (ends_at_feed items after)
        ∙ ap (λ (all : List Token). closed all after) (sym s.tokens)
    by (inr is) =
        ap₂ (λ (t a : List ℕ). run at_end 0 [] Outside (t ++ a)) is.0 is.2
        ∙ items_run at_end good_at_end 0 [] items 0 [] s.in_place (ends_at_end items)
        ∙ ap₂ (λ (all : List Token) (a : List ℕ). closed all a) (sym s.tokens) (sym is.2)

-- ---- broken entries at the end of the file

slash_fails : (quoted : Bool) (d : ℕ) (tokens : List Token) (units : List Octet) (after : List ℕ) → NoEscape after
    → run at_end d tokens (InToken quoted units Slash) after ≡ broken BadEscape
slash_fails true d tokens units after none = from after none
  where
    third : (x y : ℕ) (rest : List ℕ) → is_ascii_digit x ≡ true → is_ascii_digit y ≡ true → NoEscape (x ∷ y ∷ rest) → run at_end d tokens (InToken true units (TwoDigits x y)) rest ≡ broken BadEscape
    third x y [] dx dy none = refl
    third x y (z ∷ rest) dx dy none = run_fails at_end d tokens (InToken true units (TwoDigits x y)) z rest BadEscape (unless (is_ascii_digit z && is_escape (numbered (value_of x y z))) _ _ (no_number x y z rest none dx dy))

    second_by : (x y : ℕ) (rest : List ℕ) (t : Bool) → is_ascii_digit y ≡ t → is_ascii_digit x ≡ true → NoEscape (x ∷ y ∷ rest) → run at_end d tokens (InToken true units (OneDigit x)) (y ∷ rest) ≡ broken BadEscape
    second_by x y rest false is dx none = run_fails at_end d tokens (InToken true units (OneDigit x)) y rest BadEscape (unless (is_ascii_digit y) _ _ is)
    second_by x y rest true is dx none = run_go at_end d tokens (InToken true units (OneDigit x)) y rest d tokens (InToken true units (TwoDigits x y)) (when (is_ascii_digit y) _ _ is) ∙ third x y rest dx is none

    second : (x : ℕ) (rest : List ℕ) → is_ascii_digit x ≡ true → NoEscape (x ∷ rest) → run at_end d tokens (InToken true units (OneDigit x)) rest ≡ broken BadEscape
    second x [] dx none = refl
    second x (y ∷ rest) dx none = second_by x y rest (is_ascii_digit y) refl dx none

    first_by : (x : ℕ) (rest : List ℕ) (t : Bool) → is_ascii_digit x ≡ t → NoEscape (x ∷ rest) → run at_end d tokens (InToken true units Slash) (x ∷ rest) ≡ broken BadEscape
    first_by x rest false is none = run_fails at_end d tokens (InToken true units Slash) x rest BadEscape (unless (is_escape (marked x)) _ _ (no_mark x rest none) ∙ unless (is_ascii_digit x) _ _ is)
    first_by x rest true is none = run_go at_end d tokens (InToken true units Slash) x rest d tokens (InToken true units (OneDigit x)) (unless (is_escape (marked x)) _ _ (no_mark x rest none) ∙ when (is_ascii_digit x) _ _ is) ∙ second x rest is none

    from : (after : List ℕ) → NoEscape after → run at_end d tokens (InToken true units Slash) after ≡ broken BadEscape
    from [] none = refl
    from (x ∷ rest) none = first_by x rest (is_ascii_digit x) refl none
slash_fails false d tokens units after none = from after none
  where
    third : (x y : ℕ) (rest : List ℕ) → is_ascii_digit x ≡ true → is_ascii_digit y ≡ true → NoEscape (x ∷ y ∷ rest) → run at_end d tokens (InToken false units (TwoDigits x y)) rest ≡ broken BadEscape
    third x y [] dx dy none = refl
    third x y (z ∷ rest) dx dy none = run_fails at_end d tokens (InToken false units (TwoDigits x y)) z rest BadEscape (unless (is_ascii_digit z && is_escape (numbered (value_of x y z))) _ _ (no_number x y z rest none dx dy))

    second_by : (x y : ℕ) (rest : List ℕ) (t : Bool) → is_ascii_digit y ≡ t → is_ascii_digit x ≡ true → NoEscape (x ∷ y ∷ rest) → run at_end d tokens (InToken false units (OneDigit x)) (y ∷ rest) ≡ broken BadEscape
    second_by x y rest false is dx none = run_fails at_end d tokens (InToken false units (OneDigit x)) y rest BadEscape (unless (is_ascii_digit y) _ _ is)
    second_by x y rest true is dx none = run_go at_end d tokens (InToken false units (OneDigit x)) y rest d tokens (InToken false units (TwoDigits x y)) (when (is_ascii_digit y) _ _ is) ∙ third x y rest dx is none

    second : (x : ℕ) (rest : List ℕ) → is_ascii_digit x ≡ true → NoEscape (x ∷ rest) → run at_end d tokens (InToken false units (OneDigit x)) rest ≡ broken BadEscape
    second x [] dx none = refl
    second x (y ∷ rest) dx none = second_by x y rest (is_ascii_digit y) refl dx none

    first_by : (x : ℕ) (rest : List ℕ) (t : Bool) → is_ascii_digit x ≡ t → NoEscape (x ∷ rest) → run at_end d tokens (InToken false units Slash) (x ∷ rest) ≡ broken BadEscape
    first_by x rest false is none = run_fails at_end d tokens (InToken false units Slash) x rest BadEscape (unless (is_escape (marked x)) _ _ (no_mark x rest none) ∙ unless (is_ascii_digit x) _ _ is)
    first_by x rest true is none = run_go at_end d tokens (InToken false units Slash) x rest d tokens (InToken false units (OneDigit x)) (unless (is_escape (marked x)) _ _ (no_mark x rest none) ∙ when (is_ascii_digit x) _ _ is) ∙ second x rest is none

    from : (after : List ℕ) → NoEscape after → run at_end d tokens (InToken false units Slash) after ≡ broken BadEscape
    from [] none = refl
    from (x ∷ rest) none = first_by x rest (is_ascii_digit x) refl none

-- a `\` that begins no escape
slash_leads : (d : ℕ) (after : List ℕ) → NoEscape after → Leads at_end good_at_end d (92 ∷ after) (broken BadEscape)
slash_leads d after none = ((λ tokens. slash_fails false d tokens [] after none), (λ tokens units. slash_fails false d tokens units after none))

line_end_fails : (d : ℕ) (tokens : List Token) (units : List Octet) (bytes : List ℕ) → IsLineEnd bytes → run at_end d tokens (InToken true units Unescaped) bytes ≡ broken OpenQuote
line_end_fails d tokens units [] h = refl
line_end_fails d tokens units (b ∷ bytes) h =
    subst (λ (x : ℕ). run at_end d tokens (InToken true units Unescaped) (x ∷ bytes) ≡ broken OpenQuote) (sym h) refl

-- a broken entry leads the machine to its fault
pub broken_run : (bytes : List ℕ) (kind : LexKind) (place : ℕ) → IsBroken bytes kind place → run at_end 0 [] Outside bytes ≡ broken kind
broken_run bytes BadEscape place h = ap (run at_end 0 [] Outside) h.2 ∙ by h.4
  where
    by : (((depth : ℕ) × IsOutside h.0 depth) ⊎ IsInQuotes h.0) → run at_end 0 [] Outside (h.0 ++ 92 ∷ h.1) ≡ broken BadEscape
    by (inl o) = outside_runs at_end good_at_end h.0 o.0 (92 ∷ h.1) (broken BadEscape) o.1 (slash_leads o.0 h.1 h.5)
    by (inr q) = quotes_run at_end good_at_end h.0 (92 ∷ h.1) (broken BadEscape) q (λ d tokens units. slash_fails true d tokens units h.1 h.5)
broken_run bytes OpenQuote place h =
    ap (run at_end 0 [] Outside) h.2 ∙ quotes_run at_end good_at_end h.0 h.1 (broken OpenQuote) h.4 (λ d tokens units. line_end_fails d tokens units h.1 h.5)
broken_run bytes StrayParen place h =
    ap (run at_end 0 [] Outside) h.2 ∙ outside_runs at_end good_at_end h.0 0 (41 ∷ h.1) (broken StrayParen) h.4 ((λ tokens. refl), (λ tokens units. refl))
broken_run bytes OpenParen place h =
    ap (run at_end 0 [] Outside) (h.3 ∙ sym (append-nil (items_text h.0))) ∙ items_run at_end good_at_end 0 [] h.0 (suc h.1) [] h.2 (ends_at_end h.0)

-- ---- the laws

closed_is : (t u : List Token) (a b : List ℕ) → closed t a ≡ closed u b → (t ≡ u) × (a ≡ b)
closed_is t u a b e = (cc, cc)

broken_is : (k l : LexKind) → broken k ≡ broken l → k ≡ l
broken_is k l e = cc

-- bytes begin with one spelled text at most, up to where it ends and which tokens it has
pub one_reading : (text after text' after' : List ℕ) (entry entry' : Entry) → Spells text after entry → Spells text' after' entry' → text ++ after ≡ text' ++ after'
    → (entry.tokens ≡ entry'.tokens) × (after ≡ after')
one_reading text after text' after' entry entry' s s' e =
    closed_is entry.tokens entry'.tokens after after' (sym (spells_run text after entry s) ∙ ap (run at_end 0 [] Outside) e ∙ spells_run text' after' entry' s')

-- broken bytes begin with no spelled text
pub not_both : (text after bytes : List ℕ) (entry : Entry) (kind : LexKind) (place : ℕ) → Spells text after entry → bytes ≡ text ++ after → IsBroken bytes kind place → ⊥
not_both text after bytes entry kind place s e b =
    let ends_open : closed entry.tokens after ≡ broken kind = sym (spells_run text after entry s) ∙ sym (ap (run at_end 0 [] Outside) e) ∙ broken_run bytes kind place b in
    absurd cc

-- bytes are broken in one way at most
pub one_fault : (bytes : List ℕ) (kind kind' : LexKind) (place place' : ℕ) → IsBroken bytes kind place → IsBroken bytes kind' place' → kind ≡ kind'
one_fault bytes kind kind' place place' b b' = broken_is kind kind' (sym (broken_run bytes kind place b) ∙ broken_run bytes kind' place' b')
