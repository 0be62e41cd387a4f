-- What is kept, byte by byte.
use Rattle.std.proofs.Common.{◌≡◌, ◌≢◌, ℕ, zero, suc, ◌+◌, ◌-◌, ◌^◌, ◌<◌, ◌≤◌, min, Bool, true, false, cond, not, ◌&&◌, List, [], ◌∷◌, ◌++◌, length, filter, Option, Some, None, Ok, Err, refl, sym, ap, ap₂, subst, ◌∙◌, append_assoc, append-nil, inl, inr, ◌⊎◌, arith, true≢false, length-append}
use Rattle.std.specs.Prelude.{sum_by, unwrap_or, option_to_list, IsTrue, IfSome}
use Rattle.std.proofs.lemmas.List.Sums.{sum_by-append}
use Rattle.std.proofs.lemmas.List.Elements.{filter-append}
use Rattle.master_lex.specs.declared.entry.Token.{Token}
use Rattle.master_lex.specs.declared.entry.Entry.{Entry}
use Rattle.master_lex.specs.declared.fault.LexKind.{LexKind}
use Rattle.master_lex.specs.declared.fault.LexKind.TheVariants.{OpenQuote, OpenParen, BadEscape}
use Rattle.master_lex.specs.declared.part.Escape.TheVariants.{Unescaped, Slash, OneDigit, TwoDigits}
use Rattle.master_lex.specs.declared.part.Part.{Part}
use Rattle.master_lex.specs.declared.part.Part.TheVariants.{Outside, InComment, InToken}
use Rattle.master_lex.specs.declared.part.Step.{Step}
use Rattle.master_lex.specs.declared.part.Step.TheVariants.{Goes, Closes, Fails}
use Rattle.master_lex.specs.Steps.{step, line_behind, given_of, with_token, end_of}
use Rattle.master_lex.specs.Items.{Item, blank, comment, opening, closing, feed, plain, quoted, items_text, tokens_of, depth_after, depth_behind, is_blank, is_feed, item_text, glyphs_text}
use Rattle.master_lex.specs.Entries.{Spells, AreEntries, has_token, lines_in, starts_blank}
use Rattle.master_lex.specs.Broken.{ends_in_comment, IsBroken, IsDecided}
use Rattle.master_lex.specs.Pieces.{ends_in_plain, AreDone, opening_text, escape_text, ComesTo, Kept, lead_of, line_number, StandsFor, IsBrokenAt, IsDecidedAt, Closes as Closed, EndsWith, AreAll}
use Rattle.master_lex.proofs.Machine.{closed, broken, alive, run, at_end}
use Rattle.master_lex.proofs.Readings.{not_both, broken_run, still, good_at_end, some_is, in_place}
use Rattle.master_lex.proofs.Standing.{fits, is_plain_item, AreBefore, Stands, Means, comment_later, plain_precedes, step_means, end_found, Found}
use Rattle.master_lex.proofs.Order.{entries_append, entries_left, spelled_some, compared}
use Rattle.master_lex.proofs.Reach.{reach, reach_alive, decided_run, spelled_run}

-- ---- the part that is kept, in the words of the machine's proofs

plain_later : (x y : Item) (items : List Item) → ends_in_plain (x ∷ y ∷ items) ≡ ends_in_plain (y ∷ items)
plain_later (blank b) y items = refl
plain_later (comment text) y items = refl
plain_later opening y items = refl
plain_later closing y items = refl
plain_later feed y items = refl
plain_later (plain glyphs) y items = refl
plain_later (quoted glyphs) y items = refl

done_fits : (apart : Bool) (items : List Item) (item : Item) → ends_in_comment items ≡ false → (apart && ends_in_plain items) ≡ false → (is_plain_item item && not apart) ≡ false → fits items item ≡ true
done_fits apart [] item c p h = refl
done_fits apart (blank b ∷ []) item c p h = refl
done_fits apart (comment text ∷ []) item c p h = absurd (true≢false c)
done_fits apart (opening ∷ []) item c p h = refl
done_fits apart (closing ∷ []) item c p h = refl
done_fits apart (feed ∷ []) item c p h = refl
done_fits true (plain glyphs ∷ []) item c p h = absurd (true≢false p)
done_fits false (plain glyphs ∷ []) item c p h = plain_precedes glyphs item h
done_fits apart (quoted glyphs ∷ []) item c p h = refl
done_fits apart (x ∷ y ∷ items) item c p h = done_fits apart (y ∷ items) item (sym (comment_later x y items) ∙ c) (ap (λ t. apart && t) (sym (plain_later x y items)) ∙ p) h

apart_fits : (items : List Item) → fits items (plain []) ≡ true → ends_in_plain items ≡ false
apart_fits [] h = refl
apart_fits (blank b ∷ []) h = refl
apart_fits (comment text ∷ []) h = refl
apart_fits (opening ∷ []) h = refl
apart_fits (closing ∷ []) h = refl
apart_fits (feed ∷ []) h = refl
apart_fits (plain glyphs ∷ []) h = absurd (true≢false (sym h))
apart_fits (quoted glyphs ∷ []) h = refl
apart_fits (x ∷ y ∷ items) h = plain_later x y items ∙ apart_fits (y ∷ items) h

before_from_done : (apart : Bool) (items : List Item) (d : ℕ) (tokens : List Token) → AreDone apart items d tokens → AreBefore apart items d tokens
before_from_done apart items d tokens a = record { depth = a.in_place; all = a.all; no_comment = a.no_comment; fit = λ item h. done_fits apart items item a.no_comment a.no_plain h }

done_from_before : (apart : Bool) (items : List Item) (d : ℕ) (tokens : List Token) → AreBefore apart items d tokens → AreDone apart items d tokens
done_from_before apart items d tokens a = record { in_place = a.depth; all = a.all; no_comment = a.no_comment; no_plain = by apart a.fit }
  where
    by : (apart : Bool) → ((item : Item) → (is_plain_item item && not apart) ≡ false → fits items item ≡ true) → (apart && ends_in_plain items) ≡ false
    by true fit = apart_fits items (fit (plain []) refl)
    by false fit = refl

stands_from : (front : List ℕ) (d : ℕ) (tokens : List Token) (part : Part) → ComesTo front d tokens part → Stands front d tokens part
stands_from front d tokens Outside s = (s.0, before_from_done true s.0 d tokens s.1, s.2)
stands_from front d tokens InComment s = (s.0, s.1, before_from_done false s.0 d tokens s.2, s.3, s.4)
stands_from front d tokens (InToken which units escape) s = (s.0, s.1, before_from_done (not which) s.0 d tokens s.2, s.3, s.4, s.5, s.6)

comes_from : (front : List ℕ) (d : ℕ) (tokens : List Token) (part : Part) → Stands front d tokens part → ComesTo front d tokens part
comes_from front d tokens Outside s = (s.0, done_from_before true s.0 d tokens s.1, s.2)
comes_from front d tokens InComment s = (s.0, s.1, done_from_before false s.0 d tokens s.2, s.3, s.4)
comes_from front d tokens (InToken which units escape) s = (s.0, s.1, done_from_before (not which) s.0 d tokens s.2, s.3, s.4, s.5, s.6)

-- ---- no fault is decided yet

alive_not : (tokens : List Token) (after : List ℕ) → alive ≡ closed tokens after → ⊥
alive_not tokens after e = cc

-- a fault that is decided is no spelled text
decided_not_spelled : (bytes : List ℕ) (kind : LexKind) (place : ℕ) (text after : List ℕ) (entry : Entry) → IsBroken bytes kind place → IsDecided bytes kind place → bytes ≡ text ++ after → Spells text after entry → ⊥
decided_not_spelled bytes kind place text after entry b d is s =
    not_both text after bytes entry kind place s is b

decided_not_alive : (bytes : List ℕ) (kind : LexKind) (place : ℕ) → IsBroken bytes kind place → IsDecided bytes kind place → run still 0 [] Outside bytes ≡ alive → ⊥
decided_not_alive bytes kind place b d a = let e : broken kind ≡ alive = sym (decided_run bytes kind place b d) ∙ a in absurd cc

-- an entry is closed in no bytes that come to a part
pub alive_not_spelled : (rest text after : List ℕ) (entry : Entry) → run still 0 [] Outside rest ≡ alive → rest ≡ text ++ after → Spells text after entry → after ≢ [] → ⊥
alive_not_spelled rest text after entry a is s some = by (spelled_run text after entry s)
  where
    by : ((run still 0 [] Outside (text ++ after) ≡ closed entry.tokens after) ⊎ ((run still 0 [] Outside (text ++ after) ≡ alive) × (after ≡ []))) → ⊥
    by (inl c) = alive_not entry.tokens after (sym a ∙ ap (run still 0 [] Outside) is ∙ c)
    by (inr c) = some c.1

pub decided_some : (bytes : List ℕ) (kind : LexKind) (place : ℕ) → IsBroken bytes kind place → IsDecided bytes kind place → bytes ≢ []
decided_some bytes kind place b d e = decided_not_alive bytes kind place b d (ap (run still 0 [] Outside) e)

-- what stands for bytes has decided no fault in them
pub none_decided : (first : ℕ) (kept : Kept) (bytes : List ℕ) (given : List Entry) → StandsFor first kept bytes given → (before : List Entry) (line : ℕ) (kind : LexKind) → ¬ IsDecidedAt first bytes before line kind
none_decided first kept bytes given h before line kind x =
    by (compared first bytes h.entries h.last h.rest x.entries line x.rest here x.in_order)
  where
    here : AreEntries first bytes h.entries h.last h.rest
    here = subst (λ (b : List ℕ). AreEntries first b h.entries h.last h.rest) (append-nil bytes) (subst (λ (r : List ℕ). AreEntries first (bytes ++ []) h.entries h.last r) (append-nil h.rest) (h.closed []))

    live : run still 0 [] Outside h.rest ≡ alive
    live = reach_alive h.rest kept.depth kept.tokens kept.part h.part

    same : (more : List Entry) → AreEntries h.last h.rest more line x.rest → ⊥
    same [] m = decided_not_alive x.rest kind x.place x.fault x.decided (ap (run still 0 [] Outside) (sym m.1) ∙ live)
    same (entry ∷ more) m =
        alive_not_spelled h.rest m.0 m.1 entry live m.2 m.3
        (λ e. decided_some x.rest kind x.place x.fault x.decided
        (left_none x.rest (omega (arith, (entries_left (h.last + lines_in m.0) m.1 more line x.rest m.5).0, ap length e))))
      where
        left_none : (l : List ℕ) → length l ≤ 0 → l ≡ []
        left_none [] h = refl
        left_none (b ∷ l) h = absurd (omega arith)

    other : (more : List Entry) → AreEntries line x.rest more h.last h.rest → ⊥
    other [] m = decided_not_alive x.rest kind x.place x.fault x.decided (ap (run still 0 [] Outside) m.1 ∙ live)
    other (entry ∷ more) m = decided_not_spelled x.rest kind x.place m.0 m.1 entry x.fault x.decided m.2 m.3

    by : (((more : List Entry) × (x.entries ≡ h.entries ++ more) × AreEntries h.last h.rest more line x.rest) ⊎ ((more : List Entry) × (h.entries ≡ x.entries ++ more) × AreEntries line x.rest more h.last h.rest)) → ⊥
    by (inl m) = same m.0 m.2
    by (inr m) = other m.0 m.2

-- ---- a byte more

lines_snoc : (bytes : List ℕ) (b : ℕ) → lines_in (bytes ++ b ∷ []) ≡ lines_in bytes + cond (is_feed b) 1 0
lines_snoc bytes b = sum_by-append (λ x. cond (is_feed x) 1 0) bytes (b ∷ []) ∙ ap (λ (n : ℕ). lines_in bytes + n) (one (cond (is_feed b) 1 0))
  where
    one : (n : ℕ) → sum_by (λ (x : ℕ). n) (b ∷ []) ≡ n
    one n = omega arith

here_more : (here line : ℕ) (rest : List ℕ) (b : ℕ) → here ≡ line_number (line + lines_in rest) → line_behind here b ≡ line_number (line + lines_in (rest ++ b ∷ []))
here_more here line rest b is = by (is_feed b) refl
  where
    count : lines_in (rest ++ b ∷ []) ≡ lines_in rest + cond (is_feed b) 1 0
    count = lines_snoc rest b

    by : (t : Bool) → is_feed b ≡ t → cond t (min (here + 1) (2 ^ 64 - 1)) here ≡ line_number (line + lines_in (rest ++ b ∷ []))
    by true e = let one : lines_in (rest ++ b ∷ []) ≡ lines_in rest + 1 = count ∙ ap (λ t. lines_in rest + cond t 1 0) e in omega (arith, one, is)
    by false e = let none : lines_in (rest ++ b ∷ []) ≡ lines_in rest + 0 = count ∙ ap (λ t. lines_in rest + cond t 1 0) e in omega (arith, none, is)

lead_more : (lead : Option Bool) (rest : List ℕ) (b : ℕ) → lead ≡ lead_of rest → Some (unwrap_or lead (is_blank b)) ≡ lead_of (rest ++ b ∷ [])
lead_more lead [] b is = ap (λ l. Some (unwrap_or l (is_blank b))) is
lead_more lead (x ∷ rest) b is = ap (λ l. Some (unwrap_or l (is_blank b))) is

lead_blank : (lead : Option Bool) (rest : List ℕ) (b : ℕ) → lead ≡ lead_of rest → unwrap_or lead (is_blank b) ≡ starts_blank (rest ++ b ∷ [])
lead_blank lead [] b is = ap (λ l. unwrap_or l (is_blank b)) is
lead_blank lead (x ∷ rest) b is = ap (λ l. unwrap_or l (is_blank b)) is

-- what the byte leaves, by what it does
abbrev pub Leaves : ℕ → Kept → List ℕ → List Entry → ℕ → Step → Type 0
Leaves first kept bytes given b (Goes d tokens part) =
    StandsFor first (record { line = kept.line; here = line_behind kept.here b; lead = Some (unwrap_or kept.lead (is_blank b)); depth = d; tokens = tokens; part = part }) (bytes ++ b ∷ []) given
Leaves first kept bytes given b (Closes tokens) =
    StandsFor first (record { line = line_behind kept.here b; here = line_behind kept.here b; lead = None; depth = 0; tokens = []; part = Outside }) (bytes ++ b ∷ [])
    (given ++ option_to_list (given_of (record { line = kept.line; blank = unwrap_or kept.lead (is_blank b); tokens = tokens })))
    × (IsTrue (has_token (record { line = kept.line; blank = unwrap_or kept.lead (is_blank b); tokens = tokens }))
    → Closed first bytes given b (record { line = kept.line; blank = unwrap_or kept.lead (is_blank b); tokens = tokens }) (line_behind kept.here b))
Leaves first kept bytes given b (Fails kind) = IsDecidedAt first (bytes ++ b ∷ []) given kept.line kind

-- the depth is at most the number of bytes
depth_left : (d : ℕ) (item : Item) (k : ℕ) → depth_behind d item ≡ Some k → k ≤ d + length (item_text item)
depth_left d (blank b) k h = omega (arith, some_is d k h)
depth_left d (comment text) k h = omega (arith, some_is d k h)
depth_left d opening k h = omega (arith, some_is (suc d) k h)
depth_left zero closing k h = absurd cc
depth_left (suc d) closing k h = omega (arith, some_is d k h)
depth_left zero feed k h = absurd cc
depth_left (suc d) feed k h = omega (arith, some_is (suc d) k h)
depth_left d (plain glyphs) k h = omega (arith, some_is d k h)
depth_left d (quoted glyphs) k h = omega (arith, some_is d k h)

depth_most : (d : ℕ) (items : List Item) (e : ℕ) → depth_after d items ≡ Some e → e ≤ d + length (items_text items)
depth_most d [] e h = omega (arith, some_is d e h)
depth_most d (item ∷ items) e h =
    let p = in_place d item items e h in
    omega (arith, depth_left d item p.depth p.first, depth_most p.depth items e p.others, length-append (item_text item) (items_text items))

depth_of : (front : List ℕ) (d : ℕ) (tokens : List Token) (part : Part) → ComesTo front d tokens part → d ≤ length front
depth_of front d tokens Outside s = omega (arith, depth_most 0 s.0 d s.1.in_place, ap length s.2)
depth_of front d tokens InComment s = omega (arith, depth_most 0 s.0 d s.2.in_place, ap length s.4, length-append (items_text s.0) (59 ∷ s.1))
depth_of front d tokens (InToken which units escape) s =
    omega (arith, depth_most 0 s.0 d s.2.in_place, ap length s.6, length-append (items_text s.0) (opening_text which ++ (glyphs_text s.1 ++ escape_text escape)))

module _ (first : ℕ) (kept : Kept) (bytes : List ℕ) (given : List Entry) (h : StandsFor first kept bytes given) (b : ℕ) (few : first + length bytes < 2 ^ 64) where
  -- the line of the open entry does not stop short
  line_is : kept.line ≡ h.last
  line_is = let left = (entries_left first (bytes ++ []) h.entries h.last (h.rest ++ []) (h.closed [])).1 in
      omega (arith, h.line, left, length-append bytes [], length-append h.rest [])

  -- and its depth neither
  pub deep : kept.depth + 1 < 2 ^ 64
  deep = let left = (entries_left first (bytes ++ []) h.entries h.last (h.rest ++ []) (h.closed [])).0 in
      omega (arith, depth_of h.rest kept.depth kept.tokens kept.part h.part, h.counted, left, length-append bytes [], length-append h.rest [])

  still_few : first + length (bytes ++ b ∷ []) ≤ 2 ^ 64
  still_few = omega (arith, length-append bytes (b ∷ []))

  closed_more : (more : List ℕ) → AreEntries first ((bytes ++ b ∷ []) ++ more) h.entries h.last (h.rest ++ b ∷ more)
  closed_more more = subst (λ (l : List ℕ). AreEntries first l h.entries h.last (h.rest ++ b ∷ more)) (sym (append_assoc bytes (b ∷ []) more)) (h.closed (b ∷ more))

  goes : (d : ℕ) (tokens : List Token) (part : Part) → Stands (h.rest ++ b ∷ []) d tokens part → Leaves first kept bytes given b (Goes d tokens part)
  goes d tokens part s = record {
    entries = h.entries;
    rest = h.rest ++ b ∷ [];
    last = h.last;
    closed = λ more. subst (λ (l : List ℕ). AreEntries first ((bytes ++ b ∷ []) ++ more) h.entries h.last l) (sym (append_assoc h.rest (b ∷ []) more)) (closed_more more);
    with_tokens = h.with_tokens;
    counted = h.counted;
    few = still_few;
    line = h.line;
    here = here_more kept.here h.last h.rest b h.here;
    lead = lead_more kept.lead h.rest b h.lead;
    part = comes_from (h.rest ++ b ∷ []) d tokens part s;
  }

  fails : (kind : LexKind) → ((after : List ℕ) → (place : ℕ) × IsBroken (h.rest ++ b ∷ after) kind place × IsDecided (h.rest ++ b ∷ after) kind place) → Leaves first kept bytes given b (Fails kind)
  fails kind m = record {
    entries = h.entries;
    rest = h.rest ++ b ∷ [];
    place = (m []).0;
    in_order = subst (λ (line : ℕ). AreEntries first (bytes ++ b ∷ []) h.entries line (h.rest ++ b ∷ [])) (sym line_is) (h.closed (b ∷ []));
    with_tokens = h.with_tokens;
    fault = (m []).1;
    decided = (m []).2;
  }

  closes : (tokens : List Token) → (b ≡ 10) × ((items : List Item) × (depth_after 0 items ≡ Some 0) × (tokens ≡ tokens_of items) × (h.rest ≡ items_text items)) → Leaves first kept bytes given b (Closes tokens)
  closes tokens m = (
    stands,
    λ token. record {
      before = h.entries;
      last = behind;
      in_order = λ more. entries_append first (bytes ++ b ∷ more) h.entries h.last (h.rest ++ b ∷ more) (entry ∷ []) behind more (h.closed (b ∷ more)) (one more);
      with_tokens = h.with_tokens;
      token = token;
      number = here_more kept.here h.last h.rest b h.here;
    },
  )
    where
      entry : Entry
      entry = record { line = kept.line; blank = unwrap_or kept.lead (is_blank b); tokens = tokens }

      text : List ℕ
      text = h.rest ++ b ∷ []

      behind : ℕ
      behind = h.last + lines_in text

      one_given : (t : Bool) → option_to_list (cond t (Some entry) None) ≡ cond t (entry ∷ []) []
      one_given true = refl
      one_given false = refl

      spells : (more : List ℕ) → Spells text more entry
      spells more = record {
        items = m.1.0;
        in_place = m.1.1;
        spelled = inl (ap₂ (λ (r : List ℕ) (x : ℕ). r ++ x ∷ []) m.1.3 m.0);
        tokens = m.1.2;
        led = lead_blank kept.lead h.rest b h.lead;
      }

      one : (more : List ℕ) → AreEntries h.last (h.rest ++ b ∷ more) (entry ∷ []) behind more
      one more = (text, more, sym (append_assoc h.rest (b ∷ []) more), spells more, line_is, (refl, refl))

      stands : StandsFor first (record { line = line_behind kept.here b; here = line_behind kept.here b; lead = None; depth = 0; tokens = []; part = Outside }) (bytes ++ b ∷ []) (given ++ option_to_list (given_of entry))
      stands = record {
        entries = h.entries ++ entry ∷ [];
        rest = [];
        last = behind;
        closed = λ more. entries_append first ((bytes ++ b ∷ []) ++ more) h.entries h.last (h.rest ++ b ∷ more) (entry ∷ []) behind more (closed_more more) (one more);
        with_tokens = ap (λ (l : List Entry). l ++ option_to_list (given_of entry)) h.with_tokens ∙ ap (λ (l : List Entry). filter has_token h.entries ++ l) (one_given (has_token entry)) ∙ sym (filter-append has_token h.entries (entry ∷ []));
        counted = h.counted;
        few = still_few;
        line = here_more kept.here h.last h.rest b h.here;
        here = here_more kept.here h.last h.rest b h.here ∙ omega arith;
        lead = refl;
        part = ([], record { in_place = refl; all = refl; no_comment = refl; no_plain = refl }, refl);
      }

  -- each byte leaves what the definitions say
  pub leaves : (s : Step) → step kept.depth kept.tokens kept.part b ≡ s → Leaves first kept bytes given b s
  leaves s is = by s (subst (Means h.rest b) is (step_means h.rest kept.depth kept.tokens kept.part b (stands_from h.rest kept.depth kept.tokens kept.part h.part)))
    where
      by : (s : Step) → Means h.rest b s → Leaves first kept bytes given b s
      by (Goes d tokens part) m = goes d tokens part m
      by (Closes tokens) m = closes tokens m
      by (Fails kind) m = fails kind m

-- ---- no bytes

pub fresh_stands : (line : ℕ) → 0 < line → line < 2 ^ 64 → StandsFor line (record { line = line; here = line; lead = None; depth = 0; tokens = []; part = Outside }) [] []
fresh_stands line some small = record {
  entries = [];
  rest = [];
  last = line;
  closed = λ more. (refl, refl);
  with_tokens = refl;
  counted = some;
  few = omega arith;
  line = omega arith;
  here = omega arith;
  lead = refl;
  part = ([], record { in_place = refl; all = refl; no_comment = refl; no_plain = refl }, refl);
}

-- ---- in the names that the code has

pub goes_on : (first : ℕ) (kept : Kept) (bytes : List ℕ) (given : List Entry) (b here : ℕ) (lead : Bool) (d : ℕ) (tokens : List Token) (part : Part) → Leaves first kept bytes given b (Goes d tokens part) → here ≡ line_behind kept.here b → lead ≡ unwrap_or kept.lead (is_blank b)
    → StandsFor first (record { line = kept.line; here = here; lead = Some lead; depth = d; tokens = tokens; part = part }) (bytes ++ b ∷ []) (given ++ [])
goes_on first kept bytes given b here lead d tokens part h e f =
    subst (λ (g : List Entry). StandsFor first (record { line = kept.line; here = here; lead = Some lead; depth = d; tokens = tokens; part = part }) (bytes ++ b ∷ []) g) (sym (append-nil given))
    (subst (λ (n : ℕ). StandsFor first (record { line = kept.line; here = n; lead = Some lead; depth = d; tokens = tokens; part = part }) (bytes ++ b ∷ []) given) (sym e)
    (subst (λ (l : Bool). StandsFor first (record { line = kept.line; here = line_behind kept.here b; lead = Some l; depth = d; tokens = tokens; part = part }) (bytes ++ b ∷ []) given) (sym f) h))

pub closes_to : (first : ℕ) (kept : Kept) (bytes : List ℕ) (given : List Entry) (b here : ℕ) (lead : Bool) (tokens : List Token) (next : Kept) (entry : Option Entry) → Leaves first kept bytes given b (Closes tokens) → here ≡ line_behind kept.here b → lead ≡ unwrap_or kept.lead (is_blank b)
    → next ≡ record { line = here; here = here; lead = None; depth = 0; tokens = []; part = Outside } → entry ≡ given_of (record { line = kept.line; blank = lead; tokens = tokens }) → StandsFor first next (bytes ++ b ∷ []) (given ++ option_to_list entry)
closes_to first kept bytes given b here lead tokens next entry h e f n g =
    subst (λ (k : Kept). StandsFor first k (bytes ++ b ∷ []) (given ++ option_to_list entry)) (sym (n ∙ ap (λ (x : ℕ). record { line = x; here = x; lead = None; depth = 0; tokens = []; part = Outside }) e))
    (subst (λ (o : Option Entry). StandsFor first (record { line = line_behind kept.here b; here = line_behind kept.here b; lead = None; depth = 0; tokens = []; part = Outside }) (bytes ++ b ∷ []) (given ++ option_to_list o))
    (sym (g ∙ ap (λ (l : Bool). given_of (record { line = kept.line; blank = l; tokens = tokens })) f)) h.0)

pub closes_entry : (first : ℕ) (kept : Kept) (bytes : List ℕ) (given : List Entry) (b here : ℕ) (lead : Bool) (tokens : List Token) (next : Kept) (entry : Option Entry) → Leaves first kept bytes given b (Closes tokens) → here ≡ line_behind kept.here b → lead ≡ unwrap_or kept.lead (is_blank b)
    → next ≡ record { line = here; here = here; lead = None; depth = 0; tokens = []; part = Outside } → entry ≡ given_of (record { line = kept.line; blank = lead; tokens = tokens }) → IfSome entry (λ e. Closed first bytes given b e next.line)
closes_entry first kept bytes given b here lead tokens next entry h e f n g =
    subst (λ (o : Option Entry). IfSome o (λ x. Closed first bytes given b x next.line)) (sym (g ∙ ap (λ (l : Bool). given_of (record { line = kept.line; blank = l; tokens = tokens })) f))
    (by (has_token own) refl)
  where
    own : Entry
    own = record { line = kept.line; blank = unwrap_or kept.lead (is_blank b); tokens = tokens }

    by : (t : Bool) → has_token own ≡ t → IfSome (cond t (Some own) None) (λ x. Closed first bytes given b x next.line)
    by false is = tt
    by true is = subst (λ (l : ℕ). Closed first bytes given b own l) (sym (ap (λ (k : Kept). k.line) n ∙ e)) (h.1 is)

-- ---- the end of the bytes

at_end_ok : (d : ℕ) (tokens : List Token) (part : Part) (all : List Token) → Ok all ≡ end_of d tokens part → at_end d tokens part ≡ closed all []
at_end_ok zero tokens Outside all e = let same : all ≡ tokens = cc in ap (λ (t : List Token). closed t []) (sym same)
at_end_ok (suc d) tokens Outside all e = absurd cc
at_end_ok zero tokens InComment all e = let same : all ≡ tokens = cc in ap (λ (t : List Token). closed t []) (sym same)
at_end_ok (suc d) tokens InComment all e = absurd cc
at_end_ok zero tokens (InToken false units Unescaped) all e = let same : all ≡ with_token tokens false units = cc in ap (λ (t : List Token). closed t []) (sym same)
at_end_ok (suc d) tokens (InToken false units Unescaped) all e = absurd cc
at_end_ok d tokens (InToken true units Unescaped) all e = absurd cc
at_end_ok d tokens (InToken true units Slash) all e = absurd cc
at_end_ok d tokens (InToken false units Slash) all e = absurd cc
at_end_ok d tokens (InToken true units (OneDigit x)) all e = absurd cc
at_end_ok d tokens (InToken false units (OneDigit x)) all e = absurd cc
at_end_ok d tokens (InToken true units (TwoDigits x y)) all e = absurd cc
at_end_ok d tokens (InToken false units (TwoDigits x y)) all e = absurd cc

at_end_err : (d : ℕ) (tokens : List Token) (part : Part) (kind : LexKind) → Err kind ≡ end_of d tokens part → at_end d tokens part ≡ broken kind
at_end_err zero tokens Outside kind e = absurd cc
at_end_err (suc d) tokens Outside kind e = let same : kind ≡ OpenParen = cc in ap broken (sym same)
at_end_err zero tokens InComment kind e = absurd cc
at_end_err (suc d) tokens InComment kind e = let same : kind ≡ OpenParen = cc in ap broken (sym same)
at_end_err zero tokens (InToken false units Unescaped) kind e = absurd cc
at_end_err (suc d) tokens (InToken false units Unescaped) kind e = let same : kind ≡ OpenParen = cc in ap broken (sym same)
at_end_err d tokens (InToken true units Unescaped) kind e = let same : kind ≡ OpenQuote = cc in ap broken (sym same)
at_end_err d tokens (InToken true units Slash) kind e = let same : kind ≡ BadEscape = cc in ap broken (sym same)
at_end_err d tokens (InToken false units Slash) kind e = let same : kind ≡ BadEscape = cc in ap broken (sym same)
at_end_err d tokens (InToken true units (OneDigit x)) kind e = let same : kind ≡ BadEscape = cc in ap broken (sym same)
at_end_err d tokens (InToken false units (OneDigit x)) kind e = let same : kind ≡ BadEscape = cc in ap broken (sym same)
at_end_err d tokens (InToken true units (TwoDigits x y)) kind e = let same : kind ≡ BadEscape = cc in ap broken (sym same)
at_end_err d tokens (InToken false units (TwoDigits x y)) kind e = let same : kind ≡ BadEscape = cc in ap broken (sym same)

-- where all entries are whole, none is broken
pub none_broken : (first : ℕ) (bytes : List ℕ) (given : List Entry) → AreAll first bytes given → (before : List Entry) (line : ℕ) (kind : LexKind) → ¬ IsBrokenAt first bytes before line kind
none_broken first bytes given all before line kind x = by (compared first bytes all.entries all.last [] x.entries line x.rest all.in_order x.in_order)
  where
    nothing : x.rest ≡ [] → ⊥
    nothing e = let r : closed [] [] ≡ broken kind = ap (run at_end 0 [] Outside) (sym e) ∙ broken_run x.rest kind x.place x.fault in absurd cc

    same : (more : List Entry) → AreEntries all.last [] more line x.rest → ⊥
    same [] m = nothing (sym m.1)
    same (entry ∷ more) m = spelled_some m.0 m.1 entry m.3 (front_none m.0 m.1 (sym m.2))
      where
        front_none : (a b : List ℕ) → a ++ b ≡ [] → a ≡ []
        front_none [] b e = refl
        front_none (x ∷ a) b e = absurd cc

    other : (more : List Entry) → AreEntries line x.rest more all.last [] → ⊥
    other [] m = nothing m.1
    other (entry ∷ more) m = not_both m.0 m.1 x.rest entry kind x.place m.3 m.2 x.fault

    by : (((more : List Entry) × (x.entries ≡ all.entries ++ more) × AreEntries all.last [] more line x.rest) ⊎ ((more : List Entry) × (all.entries ≡ x.entries ++ more) × AreEntries line x.rest more all.last [])) → ⊥
    by (inl m) = same m.0 m.2
    by (inr m) = other m.0 m.2

module _ (first : ℕ) (kept : Kept) (bytes : List ℕ) (given : List Entry) (h : StandsFor first kept bytes given) where
  found : Found h.rest (at_end kept.depth kept.tokens kept.part)
  found = end_found h.rest kept.depth kept.tokens kept.part (stands_from h.rest kept.depth kept.tokens kept.part h.part)

  in_order : AreEntries first bytes h.entries h.last h.rest
  in_order = subst (λ (b : List ℕ). AreEntries first b h.entries h.last h.rest) (append-nil bytes) (subst (λ (r : List ℕ). AreEntries first (bytes ++ []) h.entries h.last r) (append-nil h.rest) (h.closed []))

  line_of_some : 0 < length h.rest → kept.line ≡ h.last
  line_of_some some = omega (arith, h.line, (entries_left first bytes h.entries h.last h.rest in_order).1, h.few)

  reached : (x : List ℕ) → h.rest ≡ [] → closed [] [] ≡ at_end kept.depth kept.tokens kept.part
  reached x none = ap (λ (r : List ℕ). run at_end 0 [] Outside (r ++ [])) (sym none) ∙ reach at_end good_at_end h.rest kept.depth kept.tokens kept.part [] h.part

  pub ends_broken : (kind : LexKind) → Err kind ≡ end_of kept.depth kept.tokens kept.part → IsBrokenAt first bytes given kept.line kind
  ends_broken kind e =
      let f : Found h.rest (broken kind) = subst (Found h.rest) (at_end_err kept.depth kept.tokens kept.part kind e) found in
      record { entries = h.entries; rest = h.rest; place = f.0; in_order = subst (λ (l : ℕ). AreEntries first bytes h.entries l h.rest) (sym (line_of_some (some h.rest refl))) in_order; with_tokens = h.with_tokens; fault = f.1 }
    where
      some : (r : List ℕ) → h.rest ≡ r → 0 < length h.rest
      some [] is = let c : closed [] [] ≡ broken kind = reached [] is ∙ at_end_err kept.depth kept.tokens kept.part kind e in absurd cc
      some (b ∷ r) is = omega (arith, ap length is)

  -- the entry that the end closes
  module _ (all : List Token) (lead : Bool) (e : Ok all ≡ end_of kept.depth kept.tokens kept.part) (l : lead ≡ unwrap_or kept.lead false) where
    abbrev last_entry : Entry
    last_entry = record { line = kept.line; blank = lead; tokens = all }

    closing_text : Found h.rest (closed all [])
    closing_text = subst (Found h.rest) (at_end_ok kept.depth kept.tokens kept.part all e) found

    spelled : (text : List ℕ) (items : List Item) → h.rest ≢ [] → h.rest ≡ text ++ [] → ((text ≡ items_text items ++ 10 ∷ []) ⊎ ((text ≡ items_text items) × ◌≡◌ {A = List ℕ} [] []))
        → (h.rest ≡ items_text items ++ 10 ∷ []) ⊎ ((h.rest ≡ items_text items) × (h.rest ≢ []) × ◌≡◌ {A = List ℕ} [] [])
    spelled text items some t (inl s) = inl (t ∙ append-nil text ∙ s)
    spelled text items some t (inr s) = inr (t ∙ append-nil text ∙ s.0, some, s.1)

    led : (r : List ℕ) → h.rest ≡ r → h.rest ≢ [] → lead ≡ starts_blank h.rest
    led [] is some = absurd (some is)
    led (b ∷ r) is some = l ∙ ap (λ (o : Option Bool). unwrap_or o false) (h.lead ∙ ap lead_of is) ∙ sym (ap starts_blank is)

    all_in_order : h.rest ≢ [] → 0 < length h.rest → AreEntries first bytes (h.entries ++ last_entry ∷ []) (h.last + lines_in h.rest) []
    all_in_order some long =
        let f = closing_text in
        let spells : Spells h.rest [] last_entry = record { items = f.1; in_place = f.3; spelled = spelled f.0 f.1 some f.2 f.5; tokens = f.4; led = led h.rest refl some } in
        entries_append first bytes h.entries h.last h.rest (last_entry ∷ []) (h.last + lines_in h.rest) [] in_order (h.rest, [], sym (append-nil h.rest), spells, line_of_some long, (refl, refl))

    no_tokens : h.rest ≡ [] → all ≡ []
    no_tokens is = let c : closed [] [] ≡ closed all [] = reached [] is ∙ at_end_ok kept.depth kept.tokens kept.part all e in cc

    nothing_given : h.rest ≡ [] → given_of last_entry ≡ None
    nothing_given is = ap (λ (t : List Token). given_of (record { line = kept.line; blank = lead; tokens = t })) (no_tokens is)

    one_given : (t : Bool) → option_to_list (cond t (Some last_entry) None) ≡ cond t (last_entry ∷ []) []
    one_given true = refl
    one_given false = refl

    some_of : (b : ℕ) (r : List ℕ) → h.rest ≡ b ∷ r → h.rest ≢ []
    some_of b r is none = let x : b ∷ r ≡ [] = sym is ∙ none in absurd cc

    pub ends_whole : AreAll first bytes (given ++ option_to_list (given_of last_entry))
    ends_whole = by h.rest refl
      where
        by : (r : List ℕ) → h.rest ≡ r → AreAll first bytes (given ++ option_to_list (given_of last_entry))
        by [] is = record {
          entries = h.entries;
          last = h.last;
          in_order = subst (λ (r : List ℕ). AreEntries first bytes h.entries h.last r) is in_order;
          with_tokens = ap (λ (o : Option Entry). given ++ option_to_list o) (nothing_given is) ∙ append-nil given ∙ h.with_tokens;
        }
        by (b ∷ r) is = record {
          entries = h.entries ++ last_entry ∷ [];
          last = h.last + lines_in h.rest;
          in_order = all_in_order (some_of b r is) (omega (arith, ap length is));
          with_tokens = ap (λ (l : List Entry). l ++ option_to_list (given_of last_entry)) h.with_tokens ∙ ap (λ (l : List Entry). filter has_token h.entries ++ l) (one_given (has_token last_entry)) ∙ sym (filter-append has_token h.entries (last_entry ∷ []));
        }

    pub ends_entry : IfSome (given_of last_entry) (λ x. EndsWith first bytes given x kept.here)
    ends_entry = by h.rest refl
      where
        some : (t : Bool) → has_token last_entry ≡ t → h.rest ≢ [] → 0 < length h.rest → IfSome (cond t (Some last_entry) None) (λ x. EndsWith first bytes given x kept.here)
        some false is n long = tt
        some true is n long = record { before = h.entries; last = h.last + lines_in h.rest; in_order = all_in_order n long; with_tokens = h.with_tokens; token = is; number = h.here }

        by : (r : List ℕ) → h.rest ≡ r → IfSome (given_of last_entry) (λ x. EndsWith first bytes given x kept.here)
        by [] is = subst (λ (o : Option Entry). IfSome o (λ x. EndsWith first bytes given x kept.here)) (sym (nothing_given is)) tt
        by (b ∷ r) is = some (has_token last_entry) refl (some_of b r is) (omega (arith, ap length is))
