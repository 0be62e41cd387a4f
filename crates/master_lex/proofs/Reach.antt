-- The machine comes to the part that is kept, and to each decided fault.
use Rattle.std.proofs.Common.{◌≡◌, ◌≢◌, ℕ, ◌+◌, ◌<◌, Bool, true, false, cond, ◌&&◌, ◌||◌, ◌==◌, List, [], ◌∷◌, ◌++◌, map, length, drop, refl, sym, ap, ap₂, subst, ◌∙◌, append_assoc, append-nil, inl, inr, ◌⊎◌, arith, nat_lt, true≢false, length-append, lt-ltb, ltb-true, ◌/◌, ◌%◌}
use Rattle.std.proofs.lemmas.Bool.{and_from}
use Rattle.std.proofs.Math.Seq.{drop-append-add}
use Rattle.std.specs.List.{list_all}
use Rattle.std.specs.Char.{is_ascii_digit}
use Rattle.master_lex.specs.declared.entry.Octet.{Octet}
use Rattle.master_lex.specs.declared.entry.Token.{Token}
use Rattle.master_lex.specs.declared.entry.Entry.{Entry}
use Rattle.master_lex.specs.declared.fault.LexKind.{LexKind}
use Rattle.master_lex.specs.declared.fault.LexKind.TheVariants.{OpenQuote, OpenParen, StrayParen, BadEscape}
use Rattle.master_lex.specs.declared.part.Escape.{Escape}
use Rattle.master_lex.specs.declared.part.Escape.TheVariants.{Unescaped, Slash, OneDigit, TwoDigits}
use Rattle.master_lex.specs.declared.part.Part.{Part}
use Rattle.master_lex.specs.declared.part.Part.TheVariants.{Outside, InComment, InToken}
use Rattle.master_lex.specs.declared.part.Step.TheVariants.{Fails}
use Rattle.master_lex.specs.Steps.{step, value_of}
use Rattle.master_lex.specs.Items.{Glyph, bare, marked, numbered, glyphs_text, octet_of, is_escape, is_plain_glyph, Item, blank, comment, opening, closing, feed, plain, quoted, items_text}
use Rattle.master_lex.specs.Entries.{Spells}
use Rattle.master_lex.specs.Broken.{IsBroken, IsDecided, IsInQuotes, IsOutside, IsLineEnd, NoEscape, is_judged, ends_in_comment}
use Rattle.master_lex.specs.Pieces.{ends_in_plain, AreDone, escape_text, HasBegun, ComesTo}
use Rattle.master_lex.proofs.Machine.{Outcome, closed, broken, alive, run, run_go, run_fails, glyphs_run, is_digit, unless, at_slash, at_first, at_second}
use Rattle.master_lex.proofs.Standing.{judged_first, judged_second, judged_third}
use Rattle.master_lex.proofs.Readings.{Good, still, good_still, EndsPlain, Ends, ends_at_feed, ends_at_end, items_run, plain_runs, comment_runs, outside_runs, quotes_run, no_mark, no_number}

-- ---- what may stand behind items

-- a mark behind items that end in no comment
ends_at_mark : (items : List Item) (b : ℕ) (bytes : List ℕ) → ends_in_comment items ≡ false → EndsPlain (b ∷ bytes) → Ends items (b ∷ bytes)
ends_at_mark [] b bytes c m = tt
ends_at_mark (blank x ∷ []) b bytes c m = tt
ends_at_mark (comment text ∷ []) b bytes c m = absurd (true≢false c)
ends_at_mark (opening ∷ []) b bytes c m = tt
ends_at_mark (closing ∷ []) b bytes c m = tt
ends_at_mark (feed ∷ []) b bytes c m = tt
ends_at_mark (plain glyphs ∷ []) b bytes c m = m
ends_at_mark (quoted glyphs ∷ []) b bytes c m = tt
ends_at_mark (blank x ∷ next ∷ items) b bytes c m = ends_at_mark (next ∷ items) b bytes c m
ends_at_mark (comment text ∷ next ∷ items) b bytes c m = ends_at_mark (next ∷ items) b bytes c m
ends_at_mark (opening ∷ next ∷ items) b bytes c m = ends_at_mark (next ∷ items) b bytes c m
ends_at_mark (closing ∷ next ∷ items) b bytes c m = ends_at_mark (next ∷ items) b bytes c m
ends_at_mark (feed ∷ next ∷ items) b bytes c m = ends_at_mark (next ∷ items) b bytes c m
ends_at_mark (plain glyphs ∷ next ∷ items) b bytes c m = ends_at_mark (next ∷ items) b bytes c m
ends_at_mark (quoted glyphs ∷ next ∷ items) b bytes c m = ends_at_mark (next ∷ items) b bytes c m

-- anything behind items that end in no plain token either
ends_apart : (items : List Item) (bytes : List ℕ) → ends_in_comment items ≡ false → ends_in_plain items ≡ false → Ends items bytes
ends_apart [] bytes c p = tt
ends_apart (blank x ∷ []) bytes c p = tt
ends_apart (comment text ∷ []) bytes c p = absurd (true≢false c)
ends_apart (opening ∷ []) bytes c p = tt
ends_apart (closing ∷ []) bytes c p = tt
ends_apart (feed ∷ []) bytes c p = tt
ends_apart (plain glyphs ∷ []) bytes c p = absurd (true≢false p)
ends_apart (quoted glyphs ∷ []) bytes c p = tt
ends_apart (blank x ∷ next ∷ items) bytes c p = ends_apart (next ∷ items) bytes c p
ends_apart (comment text ∷ next ∷ items) bytes c p = ends_apart (next ∷ items) bytes c p
ends_apart (opening ∷ next ∷ items) bytes c p = ends_apart (next ∷ items) bytes c p
ends_apart (closing ∷ next ∷ items) bytes c p = ends_apart (next ∷ items) bytes c p
ends_apart (feed ∷ next ∷ items) bytes c p = ends_apart (next ∷ items) bytes c p
ends_apart (plain glyphs ∷ next ∷ items) bytes c p = ends_apart (next ∷ items) bytes c p
ends_apart (quoted glyphs ∷ next ∷ items) bytes c p = ends_apart (next ∷ items) bytes c p

-- ---- the part that is kept

module _ (end : ℕ → List Token → Part → Outcome) (good : Good end) where
  escape_on : (which : Bool) (d : ℕ) (tokens : List Token) (units : List Octet) (glyphs : List Glyph) (escape : Escape) (more : List ℕ) → HasBegun which glyphs escape
      → run end d tokens (InToken which units Unescaped) (escape_text escape ++ more) ≡ run end d tokens (InToken which units escape) more
  escape_on which d tokens units glyphs Unescaped more h = refl
  escape_on which d tokens units glyphs Slash more h =
      run_go end d tokens (InToken which units Unescaped) 92 more d tokens (InToken which units Slash) (at_slash which d tokens units)
  escape_on which d tokens units glyphs (OneDigit x) more h =
      run_go end d tokens (InToken which units Unescaped) 92 (x ∷ more) d tokens (InToken which units Slash) (at_slash which d tokens units)
      ∙ run_go end d tokens (InToken which units Slash) x more d tokens (InToken which units (OneDigit x)) (at_first which d tokens units x (by which h))
    where
      by : (q : Bool) → HasBegun q glyphs (OneDigit x) → is_ascii_digit x ≡ true
      by true h = h
      by false h = h
  escape_on which d tokens units glyphs (TwoDigits x y) more h =
      let p = by which h in
      run_go end d tokens (InToken which units Unescaped) 92 (x ∷ y ∷ more) d tokens (InToken which units Slash) (at_slash which d tokens units)
      ∙ run_go end d tokens (InToken which units Slash) x (y ∷ more) d tokens (InToken which units (OneDigit x)) (at_first which d tokens units x p.0)
      ∙ run_go end d tokens (InToken which units (OneDigit x)) y more d tokens (InToken which units (TwoDigits x y)) (at_second which d tokens units x y p.1)
    where
      by : (q : Bool) → HasBegun q glyphs (TwoDigits x y) → (is_ascii_digit x ≡ true) × (is_ascii_digit y ≡ true)
      by true h = h
      by false h = h

  -- a plain token that has begun
  plain_on : (d : ℕ) (tokens : List Token) (glyphs : List Glyph) (escape : Escape) (more : List ℕ) → list_all is_plain_glyph glyphs ≡ true → HasBegun false glyphs escape
      → run end d tokens Outside (glyphs_text glyphs ++ (escape_text escape ++ more)) ≡ run end d tokens (InToken false (map octet_of glyphs) escape) more
  plain_on d tokens [] Unescaped more each h = absurd (true≢false (sym h))
  plain_on d tokens [] Slash more each h = refl
  plain_on d tokens [] (OneDigit x) more each h =
      run_go end d tokens (InToken false [] Slash) x more d tokens (InToken false [] (OneDigit x)) (at_first false d tokens [] x h)
  plain_on d tokens [] (TwoDigits x y) more each h =
      run_go end d tokens (InToken false [] Slash) x (y ∷ more) d tokens (InToken false [] (OneDigit x)) (at_first false d tokens [] x h.0)
      ∙ run_go end d tokens (InToken false [] (OneDigit x)) y more d tokens (InToken false [] (TwoDigits x y)) (at_second false d tokens [] x y h.1)
  plain_on d tokens (g ∷ glyphs) escape more each h =
      plain_runs end good d tokens (g ∷ glyphs) (escape_text escape ++ more) (and_from (nat_lt 0 (length (g ∷ glyphs))) (list_all is_plain_glyph (g ∷ glyphs)) (lt-ltb 0 (length (g ∷ glyphs)) (omega arith)) each)
      ∙ escape_on false d tokens (map octet_of (g ∷ glyphs)) (g ∷ glyphs) escape more h

  done_on : (apart : Bool) (items : List Item) (d : ℕ) (tokens : List Token) (bytes : List ℕ) → AreDone apart items d tokens → Ends items bytes → run end 0 [] Outside (items_text items ++ bytes) ≡ run end d tokens Outside bytes
  done_on apart items d tokens bytes a ends =
      items_run end good 0 [] items d bytes a.in_place ends ∙ ap (λ (all : List Token). run end d all Outside bytes) (sym a.all)

  -- the bytes lead to the part
  pub reach : (front : List ℕ) (d : ℕ) (tokens : List Token) (part : Part) (more : List ℕ) → ComesTo front d tokens part → run end 0 [] Outside (front ++ more) ≡ run end d tokens part more
  reach front d tokens Outside more s =
      ap (λ (t : List ℕ). run end 0 [] Outside (t ++ more)) s.2 ∙ done_on true s.0 d tokens more s.1 (ends_apart s.0 more s.1.no_comment s.1.no_plain)
  reach front d tokens InComment more s =
      ap (λ (t : List ℕ). run end 0 [] Outside (t ++ more)) s.4
      ∙ ap (run end 0 [] Outside) (append_assoc (items_text s.0) (59 ∷ s.1) more)
      ∙ done_on false s.0 d tokens (59 ∷ (s.1 ++ more)) s.2 (ends_at_mark s.0 59 (s.1 ++ more) s.2.no_comment (refl, refl))
      ∙ comment_runs end good d tokens s.1 more s.3
  reach front d tokens (InToken true units escape) more s =
      ap (λ (t : List ℕ). run end 0 [] Outside (t ++ more)) s.6
      ∙ ap (run end 0 [] Outside) (append_assoc (items_text s.0) (34 ∷ (glyphs_text s.1 ++ escape_text escape)) more)
      ∙ done_on false s.0 d tokens (34 ∷ ((glyphs_text s.1 ++ escape_text escape) ++ more)) s.2 (ends_at_mark s.0 34 ((glyphs_text s.1 ++ escape_text escape) ++ more) s.2.no_comment (refl, refl))
      ∙ ap (run end d tokens (InToken true [] Unescaped)) (append_assoc (glyphs_text s.1) (escape_text escape) more)
      ∙ glyphs_run end true d tokens [] s.1 (escape_text escape ++ more) s.3
      ∙ escape_on true d tokens (map octet_of s.1) s.1 escape more s.5
      ∙ ap (λ (u : List Octet). run end d tokens (InToken true u escape) more) (sym s.4)
  reach front d tokens (InToken false units escape) more s =
      ap (λ (t : List ℕ). run end 0 [] Outside (t ++ more)) s.6
      ∙ ap (run end 0 [] Outside) (append_assoc (items_text s.0) (glyphs_text s.1 ++ escape_text escape) more)
      ∙ done_on true s.0 d tokens ((glyphs_text s.1 ++ escape_text escape) ++ more) s.2 (ends_apart s.0 ((glyphs_text s.1 ++ escape_text escape) ++ more) s.2.no_comment s.2.no_plain)
      ∙ ap (run end d tokens Outside) (append_assoc (glyphs_text s.1) (escape_text escape) more)
      ∙ plain_on d tokens s.1 escape more s.3 s.5
      ∙ ap (λ (u : List Octet). run end d tokens (InToken false u escape) more) (sym s.4)

-- no fault is decided in them
pub reach_alive : (front : List ℕ) (d : ℕ) (tokens : List Token) (part : Part) → ComesTo front d tokens part → run still 0 [] Outside front ≡ alive
reach_alive front d tokens part s = ap (run still 0 [] Outside) (sym (append-nil front)) ∙ reach still good_still front d tokens part [] s

-- ---- decided faults

slash_no : (which : Bool) (d : ℕ) (tokens : List Token) (units : List Octet) (b : ℕ) → is_escape (marked b) ≡ false → is_ascii_digit b ≡ false → step d tokens (InToken which units Slash) b ≡ Fails BadEscape
slash_no true d tokens units b h k = unless (is_escape (marked b)) _ _ h ∙ unless (is_ascii_digit b) _ _ k
slash_no false d tokens units b h k = unless (is_escape (marked b)) _ _ h ∙ unless (is_ascii_digit b) _ _ k

one_no : (which : Bool) (d : ℕ) (tokens : List Token) (units : List Octet) (x b : ℕ) → is_ascii_digit b ≡ false → step d tokens (InToken which units (OneDigit x)) b ≡ Fails BadEscape
one_no true d tokens units x b k = unless (is_ascii_digit b) _ _ k
one_no false d tokens units x b k = unless (is_ascii_digit b) _ _ k

two_no : (which : Bool) (d : ℕ) (tokens : List Token) (units : List Octet) (x y b : ℕ) → (is_ascii_digit b && is_escape (numbered (value_of x y b))) ≡ false → step d tokens (InToken which units (TwoDigits x y)) b ≡ Fails BadEscape
two_no true d tokens units x y b k = unless (is_ascii_digit b && is_escape (numbered (value_of x y b))) _ _ k
two_no false d tokens units x y b k = unless (is_ascii_digit b && is_escape (numbered (value_of x y b))) _ _ k

unjudged_one : (x : ℕ) → is_ascii_digit x ≡ true → is_judged (x ∷ []) ≡ false
unjudged_one x dx = ap (λ t. let n = cond t (1 + 0) 0 in n == 3 || nat_lt n 1) dx

unjudged_two : (x y : ℕ) → is_ascii_digit x ≡ true → is_ascii_digit y ≡ true → is_judged (x ∷ y ∷ []) ≡ false
unjudged_two x y dx dy = ap₂ (λ s t. let n = cond s (1 + cond t (1 + 0) 0) 0 in n == 3 || nat_lt n 2) dx dy

-- a `\` that is judged
judged_fails : (which : Bool) (d : ℕ) (tokens : List Token) (units : List Octet) (after : List ℕ) → NoEscape after → is_judged after ≡ true → run still d tokens (InToken which units Slash) after ≡ broken BadEscape
judged_fails which d tokens units [] none j = absurd (true≢false (sym j))
judged_fails which d tokens units (x ∷ rest) none j = first (is_ascii_digit x) refl
  where
    third : (y : ℕ) (rest : List ℕ) → is_ascii_digit x ≡ true → is_ascii_digit y ≡ true → NoEscape (x ∷ y ∷ rest) → is_judged (x ∷ y ∷ rest) ≡ true → run still d tokens (InToken which units (TwoDigits x y)) rest ≡ broken BadEscape
    third y [] dx dy none j = absurd (true≢false (sym j ∙ unjudged_two x y dx dy))
    third y (z ∷ rest) dx dy none j = run_fails still d tokens (InToken which units (TwoDigits x y)) z rest BadEscape (two_no which d tokens units x y z (no_number x y z rest none dx dy))

    second : (rest : List ℕ) → is_ascii_digit x ≡ true → NoEscape (x ∷ rest) → is_judged (x ∷ rest) ≡ true → run still d tokens (InToken which units (OneDigit x)) rest ≡ broken BadEscape
    second [] dx none j = absurd (true≢false (sym j ∙ unjudged_one x dx))
    second (y ∷ rest) dx none j = by (is_ascii_digit y) refl
      where
        by : (t : Bool) → is_ascii_digit y ≡ t → run still d tokens (InToken which units (OneDigit x)) (y ∷ rest) ≡ broken BadEscape
        by false is = run_fails still d tokens (InToken which units (OneDigit x)) y rest BadEscape (one_no which d tokens units x y is)
        by true is = run_go still d tokens (InToken which units (OneDigit x)) y rest d tokens (InToken which units (TwoDigits x y)) (at_second which d tokens units x y is) ∙ third y rest dx is none j

    first : (t : Bool) → is_ascii_digit x ≡ t → run still d tokens (InToken which units Slash) (x ∷ rest) ≡ broken BadEscape
    first false is = run_fails still d tokens (InToken which units Slash) x rest BadEscape (slash_no which d tokens units x (no_mark x rest none) is)
    first true is = run_go still d tokens (InToken which units Slash) x rest d tokens (InToken which units (OneDigit x)) (at_first which d tokens units x is) ∙ second rest is none j

-- a fault that is decided stands before the end
pub decided_run : (bytes : List ℕ) (kind : LexKind) (place : ℕ) → IsBroken bytes kind place → IsDecided bytes kind place → run still 0 [] Outside bytes ≡ broken kind
decided_run bytes BadEscape place h j = ap (run still 0 [] Outside) h.2 ∙ by h.4
  where
    judged : is_judged h.1 ≡ true
    judged = sym (ap is_judged (ap₂ (λ (n : ℕ) (l : List ℕ). drop (n + 1) l) h.3 h.2 ∙ drop-append-add h.0 (92 ∷ h.1) 1)) ∙ j

    by : (((depth : ℕ) × IsOutside h.0 depth) ⊎ IsInQuotes h.0) → run still 0 [] Outside (h.0 ++ 92 ∷ h.1) ≡ broken BadEscape
    by (inl o) = outside_runs still good_still h.0 o.0 (92 ∷ h.1) (broken BadEscape) o.1 ((λ tokens. judged_fails false o.0 tokens [] h.1 h.5 judged), (λ tokens units. judged_fails false o.0 tokens units h.1 h.5 judged))
    by (inr q) = quotes_run still good_still h.0 (92 ∷ h.1) (broken BadEscape) q (λ d tokens units. judged_fails true d tokens units h.1 h.5 judged)
decided_run bytes OpenQuote place h j = ap (run still 0 [] Outside) h.2 ∙ by h.1 h.5 (omega (arith, h.3, j, ap length h.2, length-append h.0 h.1))
  where
    by : (after : List ℕ) → IsLineEnd after → 0 < length after → run still 0 [] Outside (h.0 ++ after) ≡ broken OpenQuote
    by [] e some = absurd (omega arith)
    by (b ∷ after) e some =
        quotes_run still good_still h.0 (b ∷ after) (broken OpenQuote) h.4
        (λ d tokens units. subst (λ (x : ℕ). run still d tokens (InToken true units Unescaped) (x ∷ after) ≡ broken OpenQuote) (sym e) refl)
decided_run bytes StrayParen place h j =
    ap (run still 0 [] Outside) h.2 ∙ outside_runs still good_still h.0 0 (41 ∷ h.1) (broken StrayParen) h.4 ((λ tokens. refl), (λ tokens units. refl))
decided_run bytes OpenParen place h j = absurd j

-- ---- spelled texts

-- a spelled text is no fault that is decided, and goes past no part that is kept
pub spelled_run : (text after : List ℕ) (entry : Entry) → Spells text after entry → (run still 0 [] Outside (text ++ after) ≡ closed entry.tokens after) ⊎ ((run still 0 [] Outside (text ++ after) ≡ alive) × (after ≡ []))
spelled_run text after entry s = by s.spelled
  where
    by : ((text ≡ items_text s.items ++ 10 ∷ []) ⊎ ((text ≡ items_text s.items) × (text ≢ []) × (after ≡ []))) → (run still 0 [] Outside (text ++ after) ≡ closed entry.tokens after) ⊎ ((run still 0 [] Outside (text ++ after) ≡ alive) × (after ≡ []))
    by (inl is) = inl
        (ap (λ (t : List ℕ). run still 0 [] Outside (t ++ after)) is
        ∙ ap (run still 0 [] Outside) (append_assoc (items_text s.items) (10 ∷ []) after)
        ∙ items_run still good_still 0 [] s.items 0 (10 ∷ after) s.in_place (ends_at_feed s.items after)
        ∙ ap (λ (all : List Token). closed all after) (sym s.tokens))
    by (inr is) = inr (
      ap₂ (λ (t a : List ℕ). run still 0 [] Outside (t ++ a)) is.0 is.2 ∙ items_run still good_still 0 [] s.items 0 [] s.in_place (ends_at_end s.items),
      is.2,
    )

-- ---- a fault that is decided stays

judged_more : (after more : List ℕ) → is_judged after ≡ true → is_judged (after ++ more) ≡ true
judged_more [] more j = absurd (true≢false (sym j))
judged_more (x ∷ rest) more j = first (is_ascii_digit x) refl
  where
    second : (rest : List ℕ) → is_ascii_digit x ≡ true → is_judged (x ∷ rest) ≡ true → is_judged (x ∷ (rest ++ more)) ≡ true
    second [] dx j = absurd (true≢false (sym j ∙ unjudged_one x dx))
    second (y ∷ rest) dx j = by (is_ascii_digit y) refl
      where
        third : (rest : List ℕ) → is_ascii_digit y ≡ true → is_judged (x ∷ y ∷ rest) ≡ true → is_judged (x ∷ y ∷ (rest ++ more)) ≡ true
        third [] dy j = absurd (true≢false (sym j ∙ unjudged_two x y dx dy))
        third (z ∷ rest) dy j = judged_third x y z (rest ++ more) dx dy

        by : (t : Bool) → is_ascii_digit y ≡ t → is_judged (x ∷ y ∷ (rest ++ more)) ≡ true
        by false is = judged_second x y (rest ++ more) dx is
        by true is = third rest is j

    first : (t : Bool) → is_ascii_digit x ≡ t → is_judged (x ∷ (rest ++ more)) ≡ true
    first false is = judged_first x (rest ++ more) is
    first true is = second rest is j

none_more : (after more : List ℕ) → NoEscape after → is_judged after ≡ true → NoEscape (after ++ more)
none_more [] more none j glyph r t e = absurd (true≢false (sym j))
none_more (x ∷ rest) more none j (bare c) r t e = absurd (true≢false (sym t))
none_more (x ∷ rest) more none j (marked c) r t e = let same : x ≡ c = cc in none (marked c) rest t (ap (λ (y : ℕ). 92 ∷ y ∷ rest) same)
none_more (x ∷ rest) more none j (numbered n) r t e =
    let first : x ≡ 48 + n / 100 = cc in
    let behind : rest ++ more ≡ (48 + n / 10 % 10) ∷ (48 + n % 10) ∷ r = cc in
    second rest none j first behind
  where
    small : n < 256
    small = ltb-true n 256 t

    digit_one : x ≡ 48 + n / 100 → is_ascii_digit x ≡ true
    digit_one is = ap is_ascii_digit is ∙ is_digit (n / 100) (omega (arith, small))

    digit_two : (y : ℕ) → y ≡ 48 + n / 10 % 10 → is_ascii_digit y ≡ true
    digit_two y is = ap is_ascii_digit is ∙ is_digit (n / 10 % 10) (omega arith)

    third : (y : ℕ) (rest : List ℕ) → NoEscape (x ∷ y ∷ rest) → is_judged (x ∷ y ∷ rest) ≡ true → x ≡ 48 + n / 100 → y ≡ 48 + n / 10 % 10 → rest ++ more ≡ (48 + n % 10) ∷ r → ⊥
    third y [] none j ex ey e = true≢false (sym j ∙ unjudged_two x y (digit_one ex) (digit_two y ey))
    third y (z ∷ rest) none j ex ey e = let ez : z ≡ 48 + n % 10 = cc in none (numbered n) rest t (λ i. 92 ∷ ex i ∷ ey i ∷ ez i ∷ rest)

    second : (rest : List ℕ) → NoEscape (x ∷ rest) → is_judged (x ∷ rest) ≡ true → x ≡ 48 + n / 100 → rest ++ more ≡ (48 + n / 10 % 10) ∷ (48 + n % 10) ∷ r → ⊥
    second [] none j ex e = true≢false (sym j ∙ unjudged_one x (digit_one ex))
    second (y ∷ rest) none j ex e =
        let ey : y ≡ 48 + n / 10 % 10 = cc in
        let behind : rest ++ more ≡ (48 + n % 10) ∷ r = cc in
        third y rest none j ex ey behind

-- however the bytes go on
pub broken_more : (bytes : List ℕ) (kind : LexKind) (place : ℕ) (more : List ℕ) → IsBroken bytes kind place → IsDecided bytes kind place → IsBroken (bytes ++ more) kind place × IsDecided (bytes ++ more) kind place
broken_more bytes BadEscape place more h j = ((h.0, h.1 ++ more, longer, h.3, h.4, none_more h.1 more h.5 judged), ap is_judged (ap₂ (λ (n : ℕ) (l : List ℕ). drop (n + 1) l) h.3 longer ∙ drop-append-add h.0 (92 ∷ (h.1 ++ more)) 1) ∙ judged_more h.1 more judged)
  where
    longer : bytes ++ more ≡ h.0 ++ 92 ∷ (h.1 ++ more)
    longer = ap (λ (b : List ℕ). b ++ more) h.2 ∙ append_assoc h.0 (92 ∷ h.1) more

    judged : is_judged h.1 ≡ true
    judged = sym (ap is_judged (ap₂ (λ (n : ℕ) (l : List ℕ). drop (n + 1) l) h.3 h.2 ∙ drop-append-add h.0 (92 ∷ h.1) 1)) ∙ j
broken_more bytes OpenQuote place more h j =
    ((h.0, h.1 ++ more, ap (λ (b : List ℕ). b ++ more) h.2 ∙ append_assoc h.0 h.1 more, h.3, h.4, by h.1 h.5 (omega (arith, h.3, j, ap length h.2, length-append h.0 h.1))), omega (arith, j, length-append bytes more))
  where
    by : (after : List ℕ) → IsLineEnd after → 0 < length after → IsLineEnd (after ++ more)
    by [] e some = absurd (omega arith)
    by (b ∷ after) e some = e
broken_more bytes StrayParen place more h j = ((h.0, h.1 ++ more, ap (λ (b : List ℕ). b ++ more) h.2 ∙ append_assoc h.0 (41 ∷ h.1) more, h.3, h.4), tt)
broken_more bytes OpenParen place more h j = absurd j
