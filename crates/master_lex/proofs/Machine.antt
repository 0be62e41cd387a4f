-- A machine that takes an entry byte by byte. Items lead it from state to state, so that a text has one reading at most.
use Rattle.std.proofs.Common.{◌≡◌, ℕ, zero, suc, ◌+◌, ◌/◌, ◌%◌, ◌<◌, Bool, true, false, cond, not, ◌&&◌, List, [], ◌∷◌, ◌++◌, map, refl, sym, ap, ◌∙◌, append_assoc, append-nil, arith, nat_le, ◌==◌, true≢false, le-leb, ltb-true}
use Rattle.std.proofs.lemmas.Bool.{and_from}
use Rattle.std.specs.List.{list_all}
use Rattle.std.specs.Char.{is_ascii_digit}
use Rattle.master_lex.specs.declared.entry.Octet.{Octet}
use Rattle.master_lex.specs.declared.entry.Token.{Token}
use Rattle.master_lex.specs.declared.fault.LexKind.{LexKind}
use Rattle.master_lex.specs.declared.fault.LexKind.TheVariants.{OpenQuote, OpenParen, BadEscape}
use Rattle.master_lex.specs.declared.part.Escape.TheVariants.{Unescaped, Slash, OneDigit, TwoDigits}
use Rattle.master_lex.specs.declared.part.Part.{Part}
use Rattle.master_lex.specs.declared.part.Part.TheVariants.{Outside, InComment, InToken}
use Rattle.master_lex.specs.declared.part.Step.{Step}
use Rattle.master_lex.specs.declared.part.Step.TheVariants.{Goes, Closes, Fails}
use Rattle.master_lex.specs.Steps.{with_token, value_of, step}
use Rattle.master_lex.specs.Pieces.{may_stand}
use Rattle.master_lex.specs.Items.{Glyph, bare, marked, numbered, glyph_text, glyphs_text, octet_of, is_escape, is_plain_glyph, is_quoted_glyph, is_feed}

-- the entry's tokens and the bytes behind it, or its fault, or neither yet
pub data Outcome : Type 0 where
  closed : List Token → List ℕ → Outcome
  broken : LexKind → Outcome
  alive : Outcome

abbrev pub at_end_of : ℕ → List Token → Outcome
at_end_of zero tokens = closed tokens []
at_end_of (suc d) tokens = broken OpenParen

-- the end of the file
abbrev pub at_end : ℕ → List Token → Part → Outcome
at_end d tokens Outside = at_end_of d tokens
at_end d tokens InComment = at_end_of d tokens
at_end d tokens (InToken false units Unescaped) = at_end_of d (with_token tokens false units)
at_end d tokens (InToken true units Unescaped) = broken OpenQuote
at_end d tokens (InToken quoted units Slash) = broken BadEscape
at_end d tokens (InToken quoted units (OneDigit x)) = broken BadEscape
at_end d tokens (InToken quoted units (TwoDigits x y)) = broken BadEscape

pub when : {A : Type 0} (t : Bool) (x y : A) → t ≡ true → cond t x y ≡ x
when true x y h = refl
when false x y h = absurd (true≢false (sym h))

pub unless : {A : Type 0} (t : Bool) (x y : A) → t ≡ false → cond t x y ≡ y
unless true x y h = absurd (true≢false h)
unless false x y h = refl

-- ---- glyphs

-- the bytes of digits
pub is_digit : (x : ℕ) → x < 10 → is_ascii_digit (48 + x) ≡ true
is_digit x h = and_from (nat_le 48 (48 + x)) (nat_le (48 + x) 57) (le-leb 48 (48 + x) (omega arith)) (le-leb (48 + x) 57 (omega (arith, h)))

plain_bare : (d : ℕ) (tokens : List Token) (units : List Octet) (b : ℕ) → is_plain_glyph (bare b) ≡ true
    → step d tokens (InToken false units Unescaped) b ≡ Goes d tokens (InToken false (units ++ octet_of (bare b) ∷ []) Unescaped)
plain_bare d tokens units b h = when (is_plain_glyph (bare b)) _ _ h

quoted_bare : (d : ℕ) (tokens : List Token) (units : List Octet) (b : ℕ) → is_quoted_glyph (bare b) ≡ true
    → step d tokens (InToken true units Unescaped) b ≡ Goes d tokens (InToken true (units ++ octet_of (bare b) ∷ []) Unescaped)
quoted_bare d tokens units b h = when (is_quoted_glyph (bare b)) _ _ h

pub at_slash : (quoted : Bool) (d : ℕ) (tokens : List Token) (units : List Octet)
    → step d tokens (InToken quoted units Unescaped) 92 ≡ Goes d tokens (InToken quoted units Slash)
at_slash true d tokens units = refl
at_slash false d tokens units = refl

pub at_marked : (quoted : Bool) (d : ℕ) (tokens : List Token) (units : List Octet) (b : ℕ) → is_escape (marked b) ≡ true
    → step d tokens (InToken quoted units Slash) b ≡ Goes d tokens (InToken quoted (units ++ octet_of (marked b) ∷ []) Unescaped)
at_marked true d tokens units b h = when (is_escape (marked b)) _ _ h
at_marked false d tokens units b h = when (is_escape (marked b)) _ _ h

pub no_mark : (b : ℕ) → is_ascii_digit b ≡ true → is_escape (marked b) ≡ false
no_mark b h = ap (λ t. not t && not (is_feed b) && not (b == 13)) h

pub at_first : (quoted : Bool) (d : ℕ) (tokens : List Token) (units : List Octet) (b : ℕ) → is_ascii_digit b ≡ true
    → step d tokens (InToken quoted units Slash) b ≡ Goes d tokens (InToken quoted units (OneDigit b))
at_first true d tokens units b h = unless (is_escape (marked b)) _ _ (no_mark b h) ∙ when (is_ascii_digit b) _ _ h
at_first false d tokens units b h = unless (is_escape (marked b)) _ _ (no_mark b h) ∙ when (is_ascii_digit b) _ _ h

pub at_second : (quoted : Bool) (d : ℕ) (tokens : List Token) (units : List Octet) (x b : ℕ) → is_ascii_digit b ≡ true
    → step d tokens (InToken quoted units (OneDigit x)) b ≡ Goes d tokens (InToken quoted units (TwoDigits x b))
at_second true d tokens units x b h = when (is_ascii_digit b) _ _ h
at_second false d tokens units x b h = when (is_ascii_digit b) _ _ h

pub at_third : (quoted : Bool) (d : ℕ) (tokens : List Token) (units : List Octet) (x y b n : ℕ) → is_ascii_digit b ≡ true → value_of x y b ≡ n → is_escape (numbered n) ≡ true
    → step d tokens (InToken quoted units (TwoDigits x y)) b ≡ Goes d tokens (InToken quoted (units ++ octet_of (numbered n) ∷ []) Unescaped)
at_third true d tokens units x y b n h v small =
    when (is_ascii_digit b && is_escape (numbered (value_of x y b))) _ _ (and_from (is_ascii_digit b) (is_escape (numbered (value_of x y b))) h (ap (λ (k : ℕ). is_escape (numbered k)) v ∙ small))
    ∙ ap (λ (k : ℕ). Goes d tokens (InToken true (units ++ octet_of (numbered k) ∷ []) Unescaped)) v
at_third false d tokens units x y b n h v small =
    when (is_ascii_digit b && is_escape (numbered (value_of x y b))) _ _ (and_from (is_ascii_digit b) (is_escape (numbered (value_of x y b))) h (ap (λ (k : ℕ). is_escape (numbered k)) v ∙ small))
    ∙ ap (λ (k : ℕ). Goes d tokens (InToken false (units ++ octet_of (numbered k) ∷ []) Unescaped)) v

value_back : (b : ℕ) → b < 256 → value_of (48 + b / 100) (48 + b / 10 % 10) (48 + b % 10) ≡ b
value_back b h = omega (arith, h)

pub both_parts : (a b : Bool) → (a && b) ≡ true → (a ≡ true) × (b ≡ true)
both_parts true b h = (refl, h)
both_parts false b h = absurd (true≢false (sym h))

-- ---- the machine, and what it answers at the end of the bytes

module _ (end : ℕ → List Token → Part → Outcome) where
  abbrev pub run : ℕ → List Token → Part → List ℕ → Outcome
  run d tokens part [] = end d tokens part
  run d tokens part (b ∷ bytes) =
      elim (step d tokens part b) [
        | Goes e more next ↦ run e more next bytes
        | Closes all ↦ closed all bytes
        | Fails kind ↦ broken kind
      ]

  after_step : Step → List ℕ → Outcome
  after_step s bytes = elim s [ Goes e more next ↦ run e more next bytes | Closes all ↦ closed all bytes | Fails kind ↦ broken kind ]

  run_step : (d : ℕ) (tokens : List Token) (part : Part) (b : ℕ) (bytes : List ℕ) (s : Step) → step d tokens part b ≡ s → run d tokens part (b ∷ bytes) ≡ after_step s bytes
  unfolding after_step
  run_step d tokens part b bytes s e = ap (λ (t : Step). after_step t bytes) e

  pub run_go : (d : ℕ) (tokens : List Token) (part : Part) (b : ℕ) (bytes : List ℕ) (e : ℕ) (more : List Token) (next : Part)
      → step d tokens part b ≡ Goes e more next → run d tokens part (b ∷ bytes) ≡ run e more next bytes
  unfolding after_step
  run_go d tokens part b bytes e more next is = run_step d tokens part b bytes (Goes e more next) is

  pub run_fails : (d : ℕ) (tokens : List Token) (part : Part) (b : ℕ) (bytes : List ℕ) (kind : LexKind)
      → step d tokens part b ≡ Fails kind → run d tokens part (b ∷ bytes) ≡ broken kind
  unfolding after_step
  run_fails d tokens part b bytes kind is = run_step d tokens part b bytes (Fails kind) is

  escape_runs : (quoted : Bool) (d : ℕ) (tokens : List Token) (units : List Octet) (g : Glyph) (bytes : List ℕ) → is_escape g ≡ true
      → run d tokens (InToken quoted units Unescaped) (glyph_text g ++ bytes) ≡ run d tokens (InToken quoted (units ++ octet_of g ∷ []) Unescaped) bytes
  escape_runs quoted d tokens units (bare b) bytes h = absurd (true≢false (sym h))
  escape_runs quoted d tokens units (marked b) bytes h =
      run_go d tokens (InToken quoted units Unescaped) 92 (b ∷ bytes) d tokens (InToken quoted units Slash) (at_slash quoted d tokens units)
      ∙ run_go d tokens (InToken quoted units Slash) b bytes d tokens (InToken quoted (units ++ octet_of (marked b) ∷ []) Unescaped) (at_marked quoted d tokens units b h)
  escape_runs quoted d tokens units (numbered b) bytes h =
      let small : b < 256 = ltb-true b 256 h in
      let x = 48 + b / 100 in
      let y = 48 + b / 10 % 10 in
      let z = 48 + b % 10 in
      run_go d tokens (InToken quoted units Unescaped) 92 (x ∷ y ∷ z ∷ bytes) d tokens (InToken quoted units Slash) (at_slash quoted d tokens units)
      ∙ run_go d tokens (InToken quoted units Slash) x (y ∷ z ∷ bytes) d tokens (InToken quoted units (OneDigit x)) (at_first quoted d tokens units x (is_digit (b / 100) (omega (arith, small))))
      ∙ run_go d tokens (InToken quoted units (OneDigit x)) y (z ∷ bytes) d tokens (InToken quoted units (TwoDigits x y)) (at_second quoted d tokens units x y (is_digit (b / 10 % 10) (omega arith)))
      ∙ run_go d tokens (InToken quoted units (TwoDigits x y)) z bytes d tokens (InToken quoted (units ++ octet_of (numbered b) ∷ []) Unescaped) (at_third quoted d tokens units x y z b (is_digit (b % 10) (omega arith)) (value_back b small) h)

  -- a glyph that may stand in the token leads to the token with its octet
  pub glyph_runs : (quoted : Bool) (d : ℕ) (tokens : List Token) (units : List Octet) (g : Glyph) (bytes : List ℕ) → may_stand quoted g ≡ true
      → run d tokens (InToken quoted units Unescaped) (glyph_text g ++ bytes) ≡ run d tokens (InToken quoted (units ++ octet_of g ∷ []) Unescaped) bytes
  glyph_runs true d tokens units (bare b) bytes h = run_go d tokens (InToken true units Unescaped) b bytes d tokens (InToken true (units ++ octet_of (bare b) ∷ []) Unescaped) (quoted_bare d tokens units b h)
  glyph_runs false d tokens units (bare b) bytes h = run_go d tokens (InToken false units Unescaped) b bytes d tokens (InToken false (units ++ octet_of (bare b) ∷ []) Unescaped) (plain_bare d tokens units b h)
  glyph_runs true d tokens units (marked b) bytes h = escape_runs true d tokens units (marked b) bytes h
  glyph_runs false d tokens units (marked b) bytes h = escape_runs false d tokens units (marked b) bytes h
  glyph_runs true d tokens units (numbered b) bytes h = escape_runs true d tokens units (numbered b) bytes h
  glyph_runs false d tokens units (numbered b) bytes h = escape_runs false d tokens units (numbered b) bytes h

  -- and so do glyphs one after another
  pub glyphs_run : (quoted : Bool) (d : ℕ) (tokens : List Token) (units : List Octet) (gs : List Glyph) (bytes : List ℕ) → list_all (may_stand quoted) gs ≡ true
      → run d tokens (InToken quoted units Unescaped) (glyphs_text gs ++ bytes) ≡ run d tokens (InToken quoted (units ++ map octet_of gs) Unescaped) bytes
  glyphs_run quoted d tokens units [] bytes h = ap (λ (us : List Octet). run d tokens (InToken quoted us Unescaped) bytes) (sym (append-nil units))
  glyphs_run quoted d tokens units (g ∷ gs) bytes h =
      let parts = both_parts (may_stand quoted g) (list_all (may_stand quoted) gs) h in
      ap (run d tokens (InToken quoted units Unescaped)) (append_assoc (glyph_text g) (glyphs_text gs) bytes)
      ∙ glyph_runs quoted d tokens units g (glyphs_text gs ++ bytes) parts.0
      ∙ glyphs_run quoted d tokens (units ++ octet_of g ∷ []) gs bytes parts.1
      ∙ ap (λ (us : List Octet). run d tokens (InToken quoted us Unescaped) bytes) (append_assoc units (octet_of g ∷ []) (map octet_of gs))
