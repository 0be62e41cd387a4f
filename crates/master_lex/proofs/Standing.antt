-- What the machine's states stand for: a state stands for the bytes that led to it, and each byte does what the definitions say.
use Rattle.std.proofs.Common.{◌≡◌, ℕ, zero, suc, ◌+◌, ◌/◌, ◌%◌, ◌<◌, Bool, true, false, cond, not, ◌&&◌, ◌||◌, List, [], ◌∷◌, ◌++◌, map, Some, option_and_then, refl, sym, ap, ap₂, subst, ◌∙◌, append_assoc, append-nil, inl, inr, ◌⊎◌, arith, nat_lt, ◌==◌, length, ◌≢◌, true≢false, eqb-true, lt-ltb, length-append, ltb-true, take, drop}
use Rattle.std.proofs.lemmas.Bool.{and_from, not-false}
use Rattle.std.proofs.Math.Seq.{drop-append-add}
use Rattle.std.specs.List.{list_all, list_any, prefix_len}
use Rattle.std.specs.Char.{is_ascii_digit}
use Rattle.std.specs.Cmp.{nat_eq_equiv}
use Rattle.master_lex.specs.declared.entry.Octet.{Octet}
use Rattle.master_lex.specs.declared.entry.Token.{Token}
use Rattle.master_lex.specs.declared.fault.LexKind.{LexKind}
use Rattle.master_lex.specs.declared.fault.LexKind.TheVariants.{BadEscape}
use Rattle.master_lex.specs.Items.{Glyph, bare, marked, numbered, glyph_text, glyphs_text, octet_of, is_escape, is_plain_glyph, is_quoted_glyph, is_blank, is_feed, ends_plain, Item, blank, comment, opening, closing, feed, plain, quoted, item_text, items_text, tokens_of, is_item, may_precede, depth_behind, depth_after}
use Rattle.master_lex.specs.declared.entry.Entry.{Entry}
use Rattle.master_lex.specs.Entries.{Spells, starts_blank}
use Rattle.master_lex.specs.Broken.{ends_in_comment, IsOutside, IsInQuotes, NoEscape, IsBroken, IsDecided, is_judged}
use Rattle.master_lex.specs.declared.part.Escape.{Escape}
use Rattle.master_lex.specs.declared.part.Escape.TheVariants.{Unescaped, Slash, OneDigit, TwoDigits}
use Rattle.master_lex.specs.declared.part.Part.{Part}
use Rattle.master_lex.specs.declared.part.Part.TheVariants.{Outside, InComment, InToken}
use Rattle.master_lex.specs.declared.part.Step.{Step}
use Rattle.master_lex.specs.declared.part.Step.TheVariants.{Goes, Closes, Fails}
use Rattle.master_lex.specs.Steps.{with_token, at_feed, at_closing, at_mark, step, value_of}
use Rattle.master_lex.specs.Pieces.{may_stand, opening_text, escape_text, HasBegun}
use Rattle.master_lex.proofs.Machine.{Outcome, closed, broken, alive, at_end_of, at_end, run, when, is_digit, no_mark, both_parts}
use Rattle.master_lex.proofs.Readings.{digit_is, some_is, in_place, tokens_of-cons}

-- ---- an item more

-- whether the item may follow the last one
abbrev pub fits : List Item → Item → Bool
fits [] item = true
fits (x ∷ []) item = may_precede x (item ∷ [])
fits (x ∷ y ∷ items) item = fits (y ∷ items) item

precede_head : (x y : Item) (xs ys : List Item) → may_precede x (y ∷ xs) ≡ may_precede x (y ∷ ys)
precede_head (blank b) y xs ys = refl
precede_head opening y xs ys = refl
precede_head closing y xs ys = refl
precede_head feed y xs ys = refl
precede_head (quoted glyphs) y xs ys = refl
precede_head (comment text) (blank b) xs ys = refl
precede_head (comment text) (comment other) xs ys = refl
precede_head (comment text) opening xs ys = refl
precede_head (comment text) closing xs ys = refl
precede_head (comment text) feed xs ys = refl
precede_head (comment text) (plain glyphs) xs ys = refl
precede_head (comment text) (quoted glyphs) xs ys = refl
precede_head (plain glyphs) (blank b) xs ys = refl
precede_head (plain glyphs) (comment other) xs ys = refl
precede_head (plain glyphs) opening xs ys = refl
precede_head (plain glyphs) closing xs ys = refl
precede_head (plain glyphs) feed xs ys = refl
precede_head (plain glyphs) (plain others) xs ys = refl
precede_head (plain glyphs) (quoted others) xs ys = refl

precede_end : (x : Item) → may_precede x [] ≡ true
precede_end (blank b) = refl
precede_end opening = refl
precede_end closing = refl
precede_end feed = refl
precede_end (quoted glyphs) = refl
precede_end (comment text) = refl
precede_end (plain glyphs) = refl

placed : (d : ℕ) (item : Item) (items : List Item) (k e : ℕ) → is_item item ≡ true → may_precede item items ≡ true → depth_behind d item ≡ Some k → depth_after k items ≡ Some e → depth_after d (item ∷ items) ≡ Some e
placed d item items k e ok before first others =
    when (is_item item && may_precede item items) _ _ (and_from (is_item item) (may_precede item items) ok before)
    ∙ ap (option_and_then (λ n. depth_after n items)) first ∙ others

depth_snoc : (d : ℕ) (items : List Item) (m : ℕ) (item : Item) (e : ℕ) → depth_after d items ≡ Some m → is_item item ≡ true → fits items item ≡ true → depth_behind m item ≡ Some e
    → depth_after d (items ++ item ∷ []) ≡ Some e
depth_snoc d [] m item e h ok fit behind =
    placed d item [] e e ok (precede_end item) (subst (λ (k : ℕ). depth_behind k item ≡ Some e) (sym (some_is d m h)) behind) refl
depth_snoc d (x ∷ []) m item e h ok fit behind =
    let p = in_place d x [] m h in
    placed d x (item ∷ []) p.depth e p.ok fit p.first (depth_snoc p.depth [] m item e p.others ok refl behind)
depth_snoc d (x ∷ y ∷ items) m item e h ok fit behind =
    let p = in_place d x (y ∷ items) m h in
    placed d x (y ∷ (items ++ item ∷ [])) p.depth e p.ok (precede_head x y (items ++ item ∷ []) items ∙ p.before) p.first (depth_snoc p.depth (y ∷ items) m item e p.others ok fit behind)

fits_snoc : (items : List Item) (x item : Item) → fits (items ++ x ∷ []) item ≡ may_precede x (item ∷ [])
fits_snoc [] x item = refl
fits_snoc (y ∷ []) x item = refl
fits_snoc (y ∷ z ∷ items) x item = fits_snoc (z ∷ items) x item

pub comment_later : (x y : Item) (items : List Item) → ends_in_comment (x ∷ y ∷ items) ≡ ends_in_comment (y ∷ items)
comment_later (blank b) y items = refl
comment_later (comment text) y items = refl
comment_later opening y items = refl
comment_later closing y items = refl
comment_later feed y items = refl
comment_later (plain glyphs) y items = refl
comment_later (quoted glyphs) y items = refl

comment_snoc : (items : List Item) (x : Item) → ends_in_comment (items ++ x ∷ []) ≡ ends_in_comment (x ∷ [])
comment_snoc [] x = refl
comment_snoc (y ∷ []) x = comment_later y x []
comment_snoc (y ∷ z ∷ items) x = comment_later y z (items ++ x ∷ []) ∙ comment_snoc (z ∷ items) x

text_snoc : (items : List Item) (x : Item) → items_text (items ++ x ∷ []) ≡ items_text items ++ item_text x
text_snoc [] x = append-nil (item_text x)
text_snoc (y ∷ items) x =
    ap (λ (t : List ℕ). item_text y ++ t) (text_snoc items x) ∙ sym (append_assoc (item_text y) (items_text items) (item_text x))

tokens_snoc : (items : List Item) (x : Item) → tokens_of (items ++ x ∷ []) ≡ tokens_of items ++ tokens_of (x ∷ [])
tokens_snoc [] x = refl
tokens_snoc (y ∷ items) x =
    tokens_of-cons y (items ++ x ∷ []) ∙ ap (λ (t : List Token). tokens_of (y ∷ []) ++ t) (tokens_snoc items x)
    ∙ sym (append_assoc (tokens_of (y ∷ [])) (tokens_of items) (tokens_of (x ∷ [])))
    ∙ ap (λ (t : List Token). t ++ tokens_of (x ∷ [])) (sym (tokens_of-cons y items))

glyphs_snoc : (glyphs : List Glyph) (g : Glyph) → glyphs_text (glyphs ++ g ∷ []) ≡ glyphs_text glyphs ++ glyph_text g
glyphs_snoc [] g = append-nil (glyph_text g)
glyphs_snoc (h ∷ glyphs) g =
    ap (λ (t : List ℕ). glyph_text h ++ t) (glyphs_snoc glyphs g) ∙ sym (append_assoc (glyph_text h) (glyphs_text glyphs) (glyph_text g))

octets_snoc : (glyphs : List Glyph) (g : Glyph) → map octet_of (glyphs ++ g ∷ []) ≡ map octet_of glyphs ++ octet_of g ∷ []
octets_snoc [] g = refl
octets_snoc (h ∷ glyphs) g = ap (λ (t : List Octet). octet_of h ∷ t) (octets_snoc glyphs g)

all_snoc : (test : Glyph → Bool) (glyphs : List Glyph) (g : Glyph) → list_all test glyphs ≡ true → test g ≡ true → list_all test (glyphs ++ g ∷ []) ≡ true
all_snoc test [] g h k = and_from (test g) true k refl
all_snoc test (x ∷ glyphs) g h k = let p = both_parts (test x) (list_all test glyphs) h in and_from (test x) (list_all test (glyphs ++ g ∷ [])) p.0 (all_snoc test glyphs g p.1 k)

-- ---- what a state stands for

abbrev pub is_plain_item : Item → Bool
is_plain_item (plain glyphs) = true
is_plain_item (blank b) = false
is_plain_item (comment text) = false
is_plain_item opening = false
is_plain_item closing = false
is_plain_item feed = false
is_plain_item (quoted glyphs) = false

-- items in place, that do not end in a comment, and behind which each item that is not plain may stand; under `free` a plain one too
pub record AreBefore (free : Bool) (items : List Item) (d : ℕ) (tokens : List Token) : Type 0 where
  pub depth : depth_after 0 items ≡ Some d
  pub all : tokens ≡ tokens_of items
  pub no_comment : ends_in_comment items ≡ false
  pub fit : (item : Item) → (is_plain_item item && not free) ≡ false → fits items item ≡ true

-- The bytes led to the state.
abbrev pub Stands : List ℕ → ℕ → List Token → Part → Type 0
Stands front d tokens Outside = (items : List Item) × AreBefore true items d tokens × (front ≡ items_text items)
Stands front d tokens InComment =
    (items : List Item) × (text : List ℕ) × AreBefore false items d tokens × (not (list_any is_feed text) ≡ true)
    × (front ≡ items_text items ++ 59 ∷ text)
Stands front d tokens (InToken is_quoted units escape) =
    (items : List Item) × (glyphs : List Glyph) × AreBefore (not is_quoted) items d tokens × (list_all (may_stand is_quoted) glyphs ≡ true)
    × (units ≡ map octet_of glyphs) × HasBegun is_quoted glyphs escape
    × (front ≡ items_text items ++ (opening_text is_quoted ++ (glyphs_text glyphs ++ escape_text escape)))

-- What a byte does is what the definitions say.
abbrev pub Means : List ℕ → ℕ → Step → Type 0
Means front b (Goes d tokens part) = Stands (front ++ b ∷ []) d tokens part
Means front b (Closes tokens) = (b ≡ 10) × ((items : List Item) × (depth_after 0 items ≡ Some 0) × (tokens ≡ tokens_of items) × (front ≡ items_text items))
Means front b (Fails kind) = (after : List ℕ) → (place : ℕ) × IsBroken (front ++ b ∷ after) kind place × IsDecided (front ++ b ∷ after) kind place

choose : (front : List ℕ) (b : ℕ) (t : Bool) (x y : Step) → (t ≡ true → Means front b x) → (t ≡ false → Means front b y) → Means front b (cond t x y)
choose front b true x y h k = h refl
choose front b false x y h k = k refl

-- behind an item that is neither plain nor a comment each item may stand
is_loose : Item → Bool
is_loose (blank b) = true
is_loose (comment text) = false
is_loose opening = true
is_loose closing = true
is_loose feed = true
is_loose (plain glyphs) = false
is_loose (quoted glyphs) = true

loose_precedes : (x item : Item) → is_loose x ≡ true → may_precede x (item ∷ []) ≡ true
unfolding is_loose
loose_precedes (blank b) item h = refl
loose_precedes (comment text) item h = absurd (true≢false (sym h))
loose_precedes opening item h = refl
loose_precedes closing item h = refl
loose_precedes feed item h = refl
loose_precedes (plain glyphs) item h = absurd (true≢false (sym h))
loose_precedes (quoted glyphs) item h = refl

loose_ends : (x : Item) → is_loose x ≡ true → ends_in_comment (x ∷ []) ≡ false
unfolding is_loose
loose_ends (blank b) h = refl
loose_ends (comment text) h = absurd (true≢false (sym h))
loose_ends opening h = refl
loose_ends closing h = refl
loose_ends feed h = refl
loose_ends (plain glyphs) h = absurd (true≢false (sym h))
loose_ends (quoted glyphs) h = refl

loose_fits : (free : Bool) (x : Item) → is_loose x ≡ true → (is_plain_item x && not free) ≡ false
unfolding is_loose
loose_fits free (blank b) h = refl
loose_fits free (comment text) h = absurd (true≢false (sym h))
loose_fits free opening h = refl
loose_fits free closing h = refl
loose_fits free feed h = refl
loose_fits free (plain glyphs) h = absurd (true≢false (sym h))
loose_fits free (quoted glyphs) h = refl

-- one such item more
more : (free : Bool) (items : List Item) (d : ℕ) (tokens : List Token) (x : Item) (e : ℕ) (all : List Token) → AreBefore free items d tokens → is_loose x ≡ true → is_item x ≡ true → depth_behind d x ≡ Some e
    → all ≡ tokens ++ tokens_of (x ∷ []) → AreBefore true (items ++ x ∷ []) e all
more free items d tokens x e all a loose ok behind is = record {
  depth = depth_snoc 0 items d x e a.depth ok (a.fit x (loose_fits free x loose)) behind;
  all = is ∙ ap (λ (t : List Token). t ++ tokens_of (x ∷ [])) a.all ∙ sym (tokens_snoc items x);
  no_comment = comment_snoc items x ∙ loose_ends x loose;
  fit = λ item h. fits_snoc items x item ∙ loose_precedes x item loose;
}

-- and the bytes with it
shown : (front : List ℕ) (items : List Item) (x : Item) (b : ℕ) → front ≡ items_text items → item_text x ≡ b ∷ [] → front ++ b ∷ [] ≡ items_text (items ++ x ∷ [])
shown front items x b h is = ap₂ (λ (s t : List ℕ). s ++ t) h (sym is) ∙ sym (text_snoc items x)

is_free : (items : List Item) (d : ℕ) (tokens : List Token) → AreBefore true items d tokens → AreBefore false items d tokens
is_free items d tokens a = record { depth = a.depth; all = a.all; no_comment = a.no_comment; fit = λ item h. a.fit item (by (is_plain_item item)) }
  where
    by : (t : Bool) → (t && not true) ≡ false
    by true = refl
    by false = refl

byte : (b c : ℕ) → b ≡ c → b ∷ [] ≡ c ∷ []
byte b c e = ap (λ (x : ℕ). x ∷ []) e

-- ---- a mark

or_false : (s t : Bool) → s ≡ false → t ≡ false → (s || t) ≡ false
or_false true t h k = h
or_false false t h k = k

other_way : (b c : ℕ) → (b == c) ≡ false → (c == b) ≡ false
other_way b c h = nat_eq_equiv.symm c b ∙ h

-- a byte that is no plain one, and none of the other marks, is a `\`
is_slash : (b : ℕ) → is_plain_glyph (bare b) ≡ false → is_blank b ≡ false → is_feed b ≡ false → (b == 59) ≡ false → (b == 40) ≡ false → (b == 41) ≡ false → (b == 34) ≡ false → b ≡ 92
is_slash b h e0 e1 e2 e3 e4 e5 = by (92 == b) refl
  where
    by : (t : Bool) → (92 == b) ≡ t → b ≡ 92
    by true is = sym (eqb-true 92 b is)
    by false is =
        let none : ends_plain b ≡ false = or_false (is_blank b || is_feed b) _ (or_false (is_blank b) (is_feed b) e0 e1)
        (or_false (34 == b) _ (other_way b 34 e5) (or_false (40 == b) _ (other_way b 40 e3) (or_false (41 == b) _ (other_way b 41 e4) (or_false (59 == b) _ (other_way b 59 e2) (or_false (92 == b) false is refl))))) in
        absurd (true≢false (sym (not-false (ends_plain b) h) ∙ none))

mark_means : (free : Bool) (front : List ℕ) (items : List Item) (d : ℕ) (tokens : List Token) (b : ℕ) → AreBefore free items d tokens → front ≡ items_text items → is_plain_glyph (bare b) ≡ false
    → (b ≡ 92 → Means front b (Goes d tokens (InToken false [] Slash))) → Means front b (at_mark d tokens b)
unfolding is_loose
mark_means free front items d tokens b a is mark last =
    choose front b (is_blank b) _ _
    (λ t. (items ++ blank b ∷ [], more free items d tokens (blank b) d tokens a refl t refl (sym (append-nil tokens)), shown front items (blank b) b is refl))
    (λ e0. choose front b (is_feed b) _ _ (λ t. feed_means d a (eqb-true b 10 t))
    (λ e1. choose front b (b == 59) _ _ (λ t. (items, [], false_of free a, refl, ap₂ (λ (s u : List ℕ). s ++ u) is (byte b 59 (eqb-true b 59 t))))
    (λ e2. choose front b (b == 40) _ _
    (λ t. (items ++ opening ∷ [], more free items d tokens opening (suc d) tokens a refl refl refl (sym (append-nil tokens)), shown front items opening b is (sym (byte b 40 (eqb-true b 40 t)))))
    (λ e3. choose front b (b == 41) _ _ (λ t. closing_means d a (eqb-true b 41 t))
    (λ e4. choose front b (b == 34) _ _ (λ t. (items, [], false_of free a, refl, refl, tt, ap₂ (λ (s u : List ℕ). s ++ u) is (byte b 34 (eqb-true b 34 t))))
    (λ e5. last (is_slash b mark e0 e1 e2 e3 e4 e5)))))))
  where
    false_of : (free : Bool) → AreBefore free items d tokens → AreBefore false items d tokens
    false_of true a = is_free items d tokens a
    false_of false a = a

    feed_means : (d : ℕ) → AreBefore free items d tokens → b ≡ 10 → Means front b (at_feed d tokens)
    feed_means zero a e = (e, (items, a.depth, a.all, is))
    feed_means (suc d) a e = (items ++ feed ∷ [], more free items (suc d) tokens feed (suc d) tokens a refl refl refl (sym (append-nil tokens)), shown front items feed b is (sym (byte b 10 e)))

    closing_means : (d : ℕ) → AreBefore free items d tokens → b ≡ 41 → Means front b (at_closing d tokens)
    closing_means zero a e = λ after.
        (length front, (front, after, ap (λ (x : ℕ). front ++ x ∷ after) e, refl, record { items = items; in_place = a.depth; no_comment = a.no_comment; spelled = is }), tt)
    closing_means (suc d) a e = (items ++ closing ∷ [], more free items (suc d) tokens closing d tokens a refl refl refl (sym (append-nil tokens)), shown front items closing b is (sym (byte b 41 e)))

-- ---- outside, and in a comment

outside_means : (front : List ℕ) (d : ℕ) (tokens : List Token) (b : ℕ) → Stands front d tokens Outside → Means front b (step d tokens Outside b)
outside_means front d tokens b s =
    choose front b (is_plain_glyph (bare b)) _ _
    (λ t. (s.0, bare b ∷ [], s.1, and_from (is_plain_glyph (bare b)) true t refl, refl, refl, ap (λ (x : List ℕ). x ++ b ∷ []) s.2))
    (λ mark. mark_means true front s.0 d tokens b s.1 s.2 mark
    (λ e. (s.0, [], s.1, refl, refl, tt, ap₂ (λ (x y : List ℕ). x ++ y) s.2 (byte b 92 e))))

no_feed_snoc : (text : List ℕ) (b : ℕ) → not (list_any is_feed text) ≡ true → is_feed b ≡ false → not (list_any is_feed (text ++ b ∷ [])) ≡ true
no_feed_snoc [] b h k = ap (λ (t : Bool). not (t || false)) k
no_feed_snoc (x ∷ text) b h k = by (is_feed x) refl h (λ g. no_feed_snoc text b g k)
  where
    by : (t : Bool) → is_feed x ≡ t → not (t || list_any is_feed text) ≡ true → (not (list_any is_feed text) ≡ true → not (list_any is_feed (text ++ b ∷ [])) ≡ true)
        → not (is_feed x || list_any is_feed (text ++ b ∷ [])) ≡ true
    by true is h on = absurd (true≢false (sym h))
    by false is h on = ap (λ (t : Bool). not (t || list_any is_feed (text ++ b ∷ []))) is ∙ on h

comment_means : (front : List ℕ) (d : ℕ) (tokens : List Token) (b : ℕ) → Stands front d tokens InComment → Means front b (step d tokens InComment b)
unfolding is_loose
comment_means front d tokens b s =
    choose front b (is_feed b) _ _ (λ t. feed_means d s.2 (eqb-true b 10 t))
    (λ t. (s.0, s.1 ++ b ∷ [], s.2, no_feed_snoc s.1 b s.3 t, ap (λ (x : List ℕ). x ++ b ∷ []) s.4 ∙ append_assoc (items_text s.0) (59 ∷ s.1) (b ∷ [])))
  where
    items : List Item
    items = s.0 ++ comment s.1 ∷ []

    placed_comment : (d : ℕ) → AreBefore false s.0 d tokens → depth_after 0 items ≡ Some d
    placed_comment d a = depth_snoc 0 s.0 d (comment s.1) d a.depth s.3 (a.fit (comment s.1) refl) refl

    tokens_are : (d : ℕ) → AreBefore false s.0 d tokens → tokens ≡ tokens_of items
    tokens_are d a = a.all ∙ sym (append-nil (tokens_of s.0)) ∙ sym (tokens_snoc s.0 (comment s.1))

    text_is : front ≡ items_text items
    text_is = s.4 ∙ sym (text_snoc s.0 (comment s.1))

    feed_means : (d : ℕ) → AreBefore false s.0 d tokens → b ≡ 10 → Means front b (at_feed d tokens)
    feed_means zero a e = (e, (items, placed_comment zero a, tokens_are zero a, text_is))
    feed_means (suc d) a e = (
      items ++ feed ∷ [],
      record {
        depth = depth_snoc 0 items (suc d) feed (suc d) (placed_comment (suc d) a) refl (fits_snoc s.0 (comment s.1) feed) refl;
        all = tokens_are (suc d) a ∙ sym (append-nil (tokens_of items)) ∙ sym (tokens_snoc items feed);
        no_comment = comment_snoc items feed;
        fit = λ item h. fits_snoc items feed item;
      },
      shown front items feed b text_is (sym (byte b 10 e)),
    )

-- ---- in a token

extend : (front i o g e : List ℕ) (b : ℕ) → front ≡ i ++ (o ++ (g ++ e)) → front ++ b ∷ [] ≡ i ++ (o ++ (g ++ (e ++ b ∷ [])))
extend front i o g e b is =
    ap (λ (t : List ℕ). t ++ b ∷ []) is ∙ append_assoc i (o ++ (g ++ e)) (b ∷ [])
    ∙ ap (λ (t : List ℕ). i ++ t) (append_assoc o (g ++ e) (b ∷ []) ∙ ap (λ (t : List ℕ). o ++ t) (append_assoc g e (b ∷ [])))

-- a glyph more
grown : (front i o : List ℕ) (glyphs : List Glyph) (e : List ℕ) (g : Glyph) (b : ℕ) → front ≡ i ++ (o ++ (glyphs_text glyphs ++ e)) → e ++ b ∷ [] ≡ glyph_text g
    → front ++ b ∷ [] ≡ i ++ (o ++ (glyphs_text (glyphs ++ g ∷ []) ++ []))
grown front i o glyphs e g b is ends =
    extend front i o (glyphs_text glyphs) e b is
    ∙ ap (λ (t : List ℕ). i ++ (o ++ t)) (ap (λ (t : List ℕ). glyphs_text glyphs ++ t) ends ∙ sym (glyphs_snoc glyphs g) ∙ sym (append-nil (glyphs_text (glyphs ++ g ∷ []))))

has_begun : (which : Bool) (glyphs : List Glyph) (g : Glyph) → HasBegun which (glyphs ++ g ∷ []) Unescaped
has_begun true glyphs g = tt
has_begun false glyphs g = lt-ltb 0 (length (glyphs ++ g ∷ [])) (omega (arith, length-append glyphs (g ∷ [])))

-- a token with a glyph more
with_glyph : (which : Bool) (front : List ℕ) (d : ℕ) (tokens : List Token) (units : List Octet) (escape : Escape) (g : Glyph) (b : ℕ) → Stands front d tokens (InToken which units escape) → may_stand which g ≡ true
    → escape_text escape ++ b ∷ [] ≡ glyph_text g → Stands (front ++ b ∷ []) d tokens (InToken which (units ++ octet_of g ∷ []) Unescaped)
with_glyph which front d tokens units escape g b s may ends = (
  s.0,
  s.1 ++ g ∷ [],
  s.2,
  all_snoc (may_stand which) s.1 g s.3 may,
  ap (λ (us : List Octet). us ++ octet_of g ∷ []) s.4 ∙ sym (octets_snoc s.1 g),
  has_begun which s.1 g,
  grown front (items_text s.0) (opening_text which) s.1 (escape_text escape) g b s.6 ends,
)

pub plain_precedes : (glyphs : List Glyph) (item : Item) → (is_plain_item item && true) ≡ false → may_precede (plain glyphs) (item ∷ []) ≡ true
plain_precedes glyphs (blank b) h = refl
plain_precedes glyphs (comment text) h = refl
plain_precedes glyphs opening h = refl
plain_precedes glyphs closing h = refl
plain_precedes glyphs feed h = refl
plain_precedes glyphs (plain others) h = absurd (true≢false h)
plain_precedes glyphs (quoted others) h = refl

-- a plain token that ends
plain_ended : (items : List Item) (glyphs : List Glyph) (d : ℕ) (tokens : List Token) (units : List Octet) → AreBefore true items d tokens → is_item (plain glyphs) ≡ true → units ≡ map octet_of glyphs
    → AreBefore false (items ++ plain glyphs ∷ []) d (with_token tokens false units)
plain_ended items glyphs d tokens units a ok us = record {
  depth = depth_snoc 0 items d (plain glyphs) d a.depth ok (a.fit (plain glyphs) refl) refl;
  all = ap₂ (λ (t : List Token) (u : List Octet). with_token t false u) a.all us ∙ sym (tokens_snoc items (plain glyphs));
  no_comment = comment_snoc items (plain glyphs);
  fit = λ item h. fits_snoc items (plain glyphs) item ∙ plain_precedes glyphs item h;
}

plain_means : (front : List ℕ) (d : ℕ) (tokens : List Token) (units : List Octet) (b : ℕ) → Stands front d tokens (InToken false units Unescaped) → Means front b (step d tokens (InToken false units Unescaped) b)
plain_means front d tokens units b s =
    choose front b (is_plain_glyph (bare b)) _ _ (λ t. with_glyph false front d tokens units Unescaped (bare b) b s t refl)
    (λ mark. choose front b (b == 92) _ _
    (λ t. (s.0, s.1, s.2, s.3, s.4, tt, extend front (items_text s.0) [] (glyphs_text s.1) [] b s.6 ∙ ap (λ (t : List ℕ). items_text s.0 ++ (glyphs_text s.1 ++ t)) (byte b 92 (eqb-true b 92 t))))
    (λ f. mark_means false front (s.0 ++ plain s.1 ∷ []) d (with_token tokens false units) b
    (plain_ended s.0 s.1 d tokens units s.2 (and_from (nat_lt 0 (length s.1)) (list_all is_plain_glyph s.1) s.5 s.3) s.4)
    (s.6 ∙ ap (λ (t : List ℕ). items_text s.0 ++ t) (append-nil (glyphs_text s.1)) ∙ sym (text_snoc s.0 (plain s.1))) mark
    (λ e. absurd (true≢false (subst (λ (x : ℕ). (x == 92) ≡ false) e f)))))

in_quotes : (front : List ℕ) (items : List Item) (glyphs : List Glyph) (d : ℕ) (tokens : List Token) → AreBefore false items d tokens → list_all is_quoted_glyph glyphs ≡ true → front ≡ items_text items ++ 34 ∷ glyphs_text glyphs → IsInQuotes front
in_quotes front items glyphs d tokens a each is = record {
  before = items_text items;
  depth = d;
  glyphs = glyphs;
  outside = record { items = items; in_place = a.depth; no_comment = a.no_comment; spelled = refl };
  each = each;
  spelled = is;
}

is_line_feed : (b : ℕ) → is_quoted_glyph (bare b) ≡ false → (b == 34) ≡ false → (b == 92) ≡ false → b ≡ 10
is_line_feed b h e f = eqb-true b 10 (by (b == 34) (b == 92) (is_feed b) e f h)
  where
    by : (s t u : Bool) → s ≡ false → t ≡ false → (not s && not t && not u) ≡ false → u ≡ true
    by true t u e f h = absurd (true≢false e)
    by false true u e f h = absurd (true≢false f)
    by false false true e f h = refl
    by false false false e f h = absurd (true≢false h)

quoted_means : (front : List ℕ) (d : ℕ) (tokens : List Token) (units : List Octet) (b : ℕ) → Stands front d tokens (InToken true units Unescaped) → Means front b (step d tokens (InToken true units Unescaped) b)
unfolding is_loose
quoted_means front d tokens units b s =
    choose front b (is_quoted_glyph (bare b)) _ _ (λ t. with_glyph true front d tokens units Unescaped (bare b) b s t refl)
    (λ mark. choose front b (b == 34) _ _
    (λ t. (
      s.0 ++ quoted s.1 ∷ [],
      more false s.0 d tokens (quoted s.1) d (with_token tokens true units) s.2 refl s.3 refl (ap (with_token tokens true) s.4),
      longer ∙ ap (λ (t : List ℕ). items_text s.0 ++ 34 ∷ (glyphs_text s.1 ++ t)) (byte b 34 (eqb-true b 34 t)) ∙ sym (text_snoc s.0 (quoted s.1)),
    ))
    (λ e. choose front b (b == 92) _ _
    (λ t. (s.0, s.1, s.2, s.3, s.4, tt, longer ∙ ap (λ (t : List ℕ). items_text s.0 ++ 34 ∷ (glyphs_text s.1 ++ t)) (byte b 92 (eqb-true b 92 t))))
    (λ f. λ after. (
      length front,
      (
        front,
        b ∷ after,
        refl,
        refl,
        in_quotes front s.0 s.1 d tokens s.2 s.3 (s.6 ∙ ap (λ (t : List ℕ). items_text s.0 ++ 34 ∷ t) (append-nil (glyphs_text s.1))),
        is_line_feed b mark e f,
      ),
      omega (arith, length-append front (b ∷ after)),
    ))))
  where
    longer : front ++ b ∷ [] ≡ items_text s.0 ++ 34 ∷ (glyphs_text s.1 ++ b ∷ [])
    longer = extend front (items_text s.0) (34 ∷ []) (glyphs_text s.1) [] b s.6

-- ---- escapes

second : List ℕ → ℕ
second (x ∷ y ∷ rest) = y
second _ = 0

third : List ℕ → ℕ
third (x ∷ y ∷ z ∷ rest) = z
third _ = 0

fourth : List ℕ → ℕ
fourth (x ∷ y ∷ z ∷ w ∷ rest) = w
fourth _ = 0

not_marked : (b c : ℕ) (after rest : List ℕ) → 92 ∷ b ∷ after ≡ 92 ∷ c ∷ rest → is_escape (marked b) ≡ false → is_escape (marked c) ≡ true → ⊥
unfolding second
not_marked b c after rest e f t = true≢false (sym t ∙ ap (λ (x : ℕ). is_escape (marked x)) (sym (ap second e)) ∙ f)

none_first : (b : ℕ) (after : List ℕ) → is_escape (marked b) ≡ false → is_ascii_digit b ≡ false → NoEscape (b ∷ after)
unfolding second
none_first b after f g (bare c) rest t e = absurd (true≢false (sym t))
none_first b after f g (marked c) rest t e = not_marked b c after rest e f t
none_first b after f g (numbered n) rest t e =
    let small : n < 256 = ltb-true n 256 t in
    let is : b ≡ 48 + n / 100 = ap second e in
    true≢false (sym (is_digit (n / 100) (omega (arith, small))) ∙ ap is_ascii_digit (sym is) ∙ g)

none_second : (x b : ℕ) (after : List ℕ) → is_ascii_digit x ≡ true → is_ascii_digit b ≡ false → NoEscape (x ∷ b ∷ after)
unfolding third
none_second x b after dx g (bare c) rest t e = absurd (true≢false (sym t))
none_second x b after dx g (marked c) rest t e = not_marked x c (b ∷ after) rest e (no_mark x dx) t
none_second x b after dx g (numbered n) rest t e =
    let is : b ≡ 48 + n / 10 % 10 = ap third e in
    true≢false (sym (is_digit (n / 10 % 10) (omega arith)) ∙ ap is_ascii_digit (sym is) ∙ g)

none_third : (x y b : ℕ) (after : List ℕ) → is_ascii_digit x ≡ true → is_ascii_digit y ≡ true → (is_ascii_digit b && is_escape (numbered (value_of x y b))) ≡ false → NoEscape (x ∷ y ∷ b ∷ after)
unfolding second third fourth
none_third x y b after dx dy g (bare c) rest t e = absurd (true≢false (sym t))
none_third x y b after dx dy g (marked c) rest t e = not_marked x c (y ∷ b ∷ after) rest e (no_mark x dx) t
none_third x y b after dx dy g (numbered n) rest t e =
    let ex : x ≡ 48 + n / 100 = ap second e in
    let ey : y ≡ 48 + n / 10 % 10 = ap third e in
    let eb : b ≡ 48 + n % 10 = ap fourth e in
    let small : n < 256 = ltb-true n 256 t in
    let same : value_of x y b ≡ n = omega (arith, ex, ey, eb, small) in
    let db : is_ascii_digit b ≡ true = ap is_ascii_digit eb ∙ is_digit (n % 10) (omega arith) in
    true≢false (sym (and_from (is_ascii_digit b) (is_escape (numbered (value_of x y b))) db (ap (λ (k : ℕ). is_escape (numbered k)) same ∙ t)) ∙ g)

-- where the `\` of an open escape stands
at_escape : (which : Bool) (items : List Item) (glyphs : List Glyph) (d : ℕ) (tokens : List Token) → AreBefore (not which) items d tokens → list_all (may_stand which) glyphs ≡ true
    → ((depth : ℕ) × IsOutside (items_text items ++ (opening_text which ++ glyphs_text glyphs)) depth) ⊎ IsInQuotes (items_text items ++ (opening_text which ++ glyphs_text glyphs))
at_escape true items glyphs d tokens a each = inr (in_quotes (items_text items ++ 34 ∷ glyphs_text glyphs) items glyphs d tokens a each refl)
at_escape false items [] d tokens a each = inl (d, record { items = items; in_place = a.depth; no_comment = a.no_comment; spelled = append-nil (items_text items) })
at_escape false items (g ∷ glyphs) d tokens a each = inl (
  d,
  record {
    items = items ++ plain (g ∷ glyphs) ∷ [];
    in_place = depth_snoc 0 items d (plain (g ∷ glyphs)) d a.depth (and_from (nat_lt 0 (length (g ∷ glyphs))) (list_all is_plain_glyph (g ∷ glyphs)) (lt-ltb 0 (length (g ∷ glyphs)) (omega arith)) each) (a.fit (plain (g ∷ glyphs)) refl) refl;
    no_comment = comment_snoc items (plain (g ∷ glyphs));
    spelled = sym (text_snoc items (plain (g ∷ glyphs)));
  },
)

-- the bytes before the `\` of an open escape
escape_place : (which : Bool) (front : List ℕ) (d : ℕ) (tokens : List Token) (units : List Octet) (so_far : Escape) (behind bytes : List ℕ) → Stands front d tokens (InToken which units so_far) → escape_text so_far ≡ 92 ∷ behind
    → (before : List ℕ) × (front ++ bytes ≡ before ++ 92 ∷ (behind ++ bytes)) × (((depth : ℕ) × IsOutside before depth) ⊎ IsInQuotes before)
escape_place which front d tokens units so_far behind bytes s is =
    let i = items_text s.0 in
    let o = opening_text which in
    let g = glyphs_text s.1 in
    let before = i ++ (o ++ g) in (
      before,
      ap (λ (t : List ℕ). t ++ bytes) (s.6 ∙ ap (λ (t : List ℕ). i ++ (o ++ (g ++ t))) is ∙ ap (λ (t : List ℕ). i ++ t) (sym (append_assoc o g (92 ∷ behind))) ∙ sym (append_assoc i (o ++ g) (92 ∷ behind)))
          ∙ append_assoc before (92 ∷ behind) bytes,
      at_escape which s.0 s.1 d tokens s.2 s.3,
    )

-- an escape that cannot be is a fault, whatever follows
escape_broken : (which : Bool) (front : List ℕ) (d : ℕ) (tokens : List Token) (units : List Octet) (so_far : Escape) (behind bytes : List ℕ) → Stands front d tokens (InToken which units so_far) → escape_text so_far ≡ 92 ∷ behind
    → NoEscape (behind ++ bytes) → (place : ℕ) × IsBroken (front ++ bytes) BadEscape place
escape_broken which front d tokens units so_far behind bytes s is none =
    let p = escape_place which front d tokens units so_far behind bytes s is in
    (length p.0, (p.0, behind ++ bytes, p.1, refl, p.2, none))

decided_slash : (bytes before after : List ℕ) → bytes ≡ before ++ 92 ∷ after → is_judged after ≡ true → IsDecided bytes BadEscape (length before)
decided_slash bytes before after is judged = ap is_judged (ap (drop (length before + 1)) is ∙ drop-append-add before (92 ∷ after) 1) ∙ judged

-- and it is decided, once it is judged
escape_decided : (which : Bool) (front : List ℕ) (d : ℕ) (tokens : List Token) (units : List Octet) (so_far : Escape) (behind bytes : List ℕ) → Stands front d tokens (InToken which units so_far) → escape_text so_far ≡ 92 ∷ behind
    → NoEscape (behind ++ bytes) → is_judged (behind ++ bytes) ≡ true → (place : ℕ) × IsBroken (front ++ bytes) BadEscape place × IsDecided (front ++ bytes) BadEscape place
escape_decided which front d tokens units so_far behind bytes s is none judged =
    let p = escape_place which front d tokens units so_far behind bytes s is in
    (length p.0, (p.0, behind ++ bytes, p.1, refl, p.2, none), decided_slash (front ++ bytes) p.0 (behind ++ bytes) p.1 judged)

-- a `\` is judged by what stands behind it
pub judged_first : (b : ℕ) (after : List ℕ) → is_ascii_digit b ≡ false → is_judged (b ∷ after) ≡ true
judged_first b after h =
    ap (λ t. let n = cond t (1 + prefix_len is_ascii_digit (take 2 after)) 0 in n == 3 || nat_lt n (length (b ∷ after))) h
    ∙ lt-ltb 0 (length (b ∷ after)) (omega arith)

pub judged_second : (x b : ℕ) (after : List ℕ) → is_ascii_digit x ≡ true → is_ascii_digit b ≡ false → is_judged (x ∷ b ∷ after) ≡ true
judged_second x b after dx h =
    ap₂ (λ s t. let n = cond s (1 + cond t (1 + prefix_len is_ascii_digit (take 1 after)) 0) 0 in n == 3 || nat_lt n (length (x ∷ b ∷ after))) dx h
    ∙ lt-ltb 1 (length (x ∷ b ∷ after)) (omega arith)

pub judged_third : (x y b : ℕ) (after : List ℕ) → is_ascii_digit x ≡ true → is_ascii_digit y ≡ true → is_judged (x ∷ y ∷ b ∷ after) ≡ true
judged_third x y b after dx dy =
    ap₂ (λ s t. let n = cond s (1 + cond t (1 + cond (is_ascii_digit b) (1 + prefix_len is_ascii_digit (take 0 after)) 0) 0) 0 in n == 3 || nat_lt n (length (x ∷ y ∷ b ∷ after))) dx dy
    ∙ by (is_ascii_digit b)
  where
    by : (t : Bool) → (let n = 1 + (1 + cond t (1 + 0) 0) in n == 3 || nat_lt n (length (x ∷ y ∷ b ∷ after))) ≡ true
    by true = refl
    by false = lt-ltb 2 (length (x ∷ y ∷ b ∷ after)) (omega arith)

may_escape : (which : Bool) (g : Glyph) → is_escape g ≡ true → may_stand which g ≡ true
may_escape true (bare b) h = absurd (true≢false (sym h))
may_escape false (bare b) h = absurd (true≢false (sym h))
may_escape true (marked b) h = h
may_escape false (marked b) h = h
may_escape true (numbered b) h = h
may_escape false (numbered b) h = h

slash_means : (which : Bool) (front : List ℕ) (d : ℕ) (tokens : List Token) (units : List Octet) (b : ℕ) → Stands front d tokens (InToken which units Slash) → Means front b (step d tokens (InToken which units Slash) b)
slash_means which front d tokens units b s = subst (Means front b) (sym (same which)) (choose front b (is_escape (marked b)) _ _
    (λ t. with_glyph which front d tokens units Slash (marked b) b s (may_escape which (marked b) t) refl)
    (λ f. choose front b (is_ascii_digit b) _ _
    (λ t. (s.0, s.1, s.2, s.3, s.4, first_begun which t, extend front (items_text s.0) (opening_text which) (glyphs_text s.1) (92 ∷ []) b s.6))
    (λ g. λ after. escape_decided which front d tokens units Slash [] (b ∷ after) s refl (none_first b after f g) (judged_first b after g))))
  where
    same : (q : Bool) → step d tokens (InToken q units Slash) b ≡ cond (is_escape (marked b)) (Goes d tokens (InToken q (units ++ octet_of (marked b) ∷ []) Unescaped))
        (cond (is_ascii_digit b) (Goes d tokens (InToken q units (OneDigit b))) (Fails BadEscape))
    same true = refl
    same false = refl

    first_begun : (q : Bool) → is_ascii_digit b ≡ true → HasBegun q s.1 (OneDigit b)
    first_begun true t = t
    first_begun false t = t

one_means : (which : Bool) (front : List ℕ) (d : ℕ) (tokens : List Token) (units : List Octet) (x b : ℕ) → Stands front d tokens (InToken which units (OneDigit x)) → Means front b (step d tokens (InToken which units (OneDigit x)) b)
one_means which front d tokens units x b s = subst (Means front b) (sym (same which)) (choose front b (is_ascii_digit b) _ _
    (λ t. (s.0, s.1, s.2, s.3, s.4, second_begun which s.5 t, extend front (items_text s.0) (opening_text which) (glyphs_text s.1) (92 ∷ x ∷ []) b s.6))
    (λ g. λ after. escape_decided which front d tokens units (OneDigit x) (x ∷ []) (b ∷ after) s refl (none_second x b after (first_of which s.5) g) (judged_second x b after (first_of which s.5) g)))
  where
    same : (q : Bool) → step d tokens (InToken q units (OneDigit x)) b ≡ cond (is_ascii_digit b) (Goes d tokens (InToken q units (TwoDigits x b))) (Fails BadEscape)
    same true = refl
    same false = refl

    first_of : (q : Bool) → HasBegun q s.1 (OneDigit x) → is_ascii_digit x ≡ true
    first_of true h = h
    first_of false h = h

    second_begun : (q : Bool) → HasBegun q s.1 (OneDigit x) → is_ascii_digit b ≡ true → HasBegun q s.1 (TwoDigits x b)
    second_begun true h t = (h, t)
    second_begun false h t = (h, t)

value_digits : (x y b : ℕ) → is_ascii_digit x ≡ true → is_ascii_digit y ≡ true → is_ascii_digit b ≡ true → value_of x y b < 256 → 92 ∷ x ∷ y ∷ b ∷ [] ≡ glyph_text (numbered (value_of x y b))
value_digits x y b dx dy db small =
    let hx = digit_is x dx in
    let hy = digit_is y dy in
    let hb = digit_is b db in
    let n = value_of x y b in
    let ex : x ≡ 48 + n / 100 = omega (arith, hx.0, hx.1, hy.0, hy.1, hb.0, hb.1) in
    let ey : y ≡ 48 + n / 10 % 10 = omega (arith, hx.0, hx.1, hy.0, hy.1, hb.0, hb.1) in
    let eb : b ≡ 48 + n % 10 = omega (arith, hx.0, hx.1, hy.0, hy.1, hb.0, hb.1) in
    λ i. 92 ∷ ex i ∷ ey i ∷ eb i ∷ []

two_means : (which : Bool) (front : List ℕ) (d : ℕ) (tokens : List Token) (units : List Octet) (x y b : ℕ) → Stands front d tokens (InToken which units (TwoDigits x y)) → Means front b (step d tokens (InToken which units (TwoDigits x y)) b)
two_means which front d tokens units x y b s = subst (Means front b) (sym (same which)) (choose front b (is_ascii_digit b && is_escape (numbered (value_of x y b))) _ _
    (λ t. let p = both_parts (is_ascii_digit b) (is_escape (numbered (value_of x y b))) t in
    let h = digits_of which s.5 in
    with_glyph which front d tokens units (TwoDigits x y) (numbered (value_of x y b)) b s (may_escape which (numbered (value_of x y b)) p.1) (value_digits x y b h.0 h.1 p.0 (ltb-true (value_of x y b) 256 p.1)))
    (λ g. λ after. let h = digits_of which s.5 in escape_decided which front d tokens units (TwoDigits x y) (x ∷ y ∷ []) (b ∷ after) s refl (none_third x y b after h.0 h.1 g) (judged_third x y b after h.0 h.1)))
  where
    same : (q : Bool) → step d tokens (InToken q units (TwoDigits x y)) b ≡ cond (is_ascii_digit b && is_escape (numbered (value_of x y b)))
        (Goes d tokens (InToken q (units ++ octet_of (numbered (value_of x y b)) ∷ []) Unescaped)) (Fails BadEscape)
    same true = refl
    same false = refl

    digits_of : (q : Bool) → HasBegun q s.1 (TwoDigits x y) → (is_ascii_digit x ≡ true) × (is_ascii_digit y ≡ true)
    digits_of true h = h
    digits_of false h = h

-- each byte does what the definitions say
pub step_means : (front : List ℕ) (d : ℕ) (tokens : List Token) (part : Part) (b : ℕ) → Stands front d tokens part → Means front b (step d tokens part b)
step_means front d tokens Outside b s = outside_means front d tokens b s
step_means front d tokens InComment b s = comment_means front d tokens b s
step_means front d tokens (InToken false units Unescaped) b s = plain_means front d tokens units b s
step_means front d tokens (InToken true units Unescaped) b s = quoted_means front d tokens units b s
step_means front d tokens (InToken which units Slash) b s = slash_means which front d tokens units b s
step_means front d tokens (InToken which units (OneDigit x)) b s = one_means which front d tokens units x b s
step_means front d tokens (InToken which units (TwoDigits x y)) b s = two_means which front d tokens units x y b s

-- ---- whole entries

-- what an outcome says of the bytes
abbrev pub Found : List ℕ → Outcome → Type 0
Found bytes (closed tokens rest) =
    (text : List ℕ) × (items : List Item) × (bytes ≡ text ++ rest) × (depth_after 0 items ≡ Some 0) × (tokens ≡ tokens_of items)
    × ((text ≡ items_text items ++ 10 ∷ []) ⊎ ((text ≡ items_text items) × (rest ≡ [])))
Found bytes (broken kind) = (place : ℕ) × IsBroken bytes kind place
Found bytes alive = ⊥

items_end : (front : List ℕ) (items : List Item) (d : ℕ) (tokens : List Token) → depth_after 0 items ≡ Some d → tokens ≡ tokens_of items → front ≡ items_text items → Found front (at_end_of d tokens)
items_end front items zero tokens h t is = (front, items, sym (append-nil front), h, t, inr (is, refl))
items_end front items (suc d) tokens h t is = (length front, (items, d, h, is, refl))

none_at_end : NoEscape []
none_at_end (bare c) rest t e = absurd (true≢false (sym t))
none_at_end (marked c) rest t e = absurd cc
none_at_end (numbered n) rest t e = absurd cc

none_behind : (x : ℕ) → is_ascii_digit x ≡ true → NoEscape (x ∷ [])
none_behind x dx (bare c) rest t e = absurd (true≢false (sym t))
none_behind x dx (marked c) rest t e = not_marked x c [] rest e (no_mark x dx) t
none_behind x dx (numbered n) rest t e = absurd cc

none_behind_two : (x y : ℕ) → is_ascii_digit x ≡ true → NoEscape (x ∷ y ∷ [])
none_behind_two x y dx (bare c) rest t e = absurd (true≢false (sym t))
none_behind_two x y dx (marked c) rest t e = not_marked x c (y ∷ []) rest e (no_mark x dx) t
none_behind_two x y dx (numbered n) rest t e = absurd cc

at_its_end : (front : List ℕ) (kind : LexKind) → (place : ℕ) × IsBroken (front ++ []) kind place → (place : ℕ) × IsBroken front kind place
at_its_end front kind h = subst (λ (t : List ℕ). (place : ℕ) × IsBroken t kind place) (append-nil front) h

escape_end : (which : Bool) (front : List ℕ) (d : ℕ) (tokens : List Token) (units : List Octet) (so_far : Escape) (behind : List ℕ) → Stands front d tokens (InToken which units so_far) → escape_text so_far ≡ 92 ∷ behind → NoEscape behind → (place : ℕ) × IsBroken front BadEscape place
escape_end which front d tokens units so_far behind s is none =
    at_its_end front BadEscape (escape_broken which front d tokens units so_far behind [] s is (subst NoEscape (sym (append-nil behind)) none))

first_digit : (which : Bool) (glyphs : List Glyph) (x y : ℕ) → HasBegun which glyphs (TwoDigits x y) → is_ascii_digit x ≡ true
first_digit true glyphs x y h = h.0
first_digit false glyphs x y h = h.0

one_digit : (which : Bool) (glyphs : List Glyph) (x : ℕ) → HasBegun which glyphs (OneDigit x) → is_ascii_digit x ≡ true
one_digit true glyphs x h = h
one_digit false glyphs x h = h

pub end_found : (front : List ℕ) (d : ℕ) (tokens : List Token) (part : Part) → Stands front d tokens part → Found front (at_end d tokens part)
end_found front d tokens Outside s = items_end front s.0 d tokens s.1.depth s.1.all s.2
end_found front d tokens InComment s =
    items_end front (s.0 ++ comment s.1 ∷ []) d tokens (depth_snoc 0 s.0 d (comment s.1) d s.2.depth s.3 (s.2.fit (comment s.1) refl) refl)
    (s.2.all ∙ sym (append-nil (tokens_of s.0)) ∙ sym (tokens_snoc s.0 (comment s.1))) (s.4 ∙ sym (text_snoc s.0 (comment s.1)))
end_found front d tokens (InToken false units Unescaped) s =
    let a = plain_ended s.0 s.1 d tokens units s.2 (and_from (nat_lt 0 (length s.1)) (list_all is_plain_glyph s.1) s.5 s.3) s.4 in
    items_end front (s.0 ++ plain s.1 ∷ []) d (with_token tokens false units) a.depth a.all
    (s.6 ∙ ap (λ (t : List ℕ). items_text s.0 ++ t) (append-nil (glyphs_text s.1)) ∙ sym (text_snoc s.0 (plain s.1)))
end_found front d tokens (InToken true units Unescaped) s =
    (length front, (front, [], sym (append-nil front), refl, in_quotes front s.0 s.1 d tokens s.2 s.3 (s.6 ∙ ap (λ (t : List ℕ). items_text s.0 ++ 34 ∷ t) (append-nil (glyphs_text s.1))), tt))
end_found front d tokens (InToken true units Slash) s = escape_end true front d tokens units Slash [] s refl none_at_end
end_found front d tokens (InToken false units Slash) s = escape_end false front d tokens units Slash [] s refl none_at_end
end_found front d tokens (InToken true units (OneDigit x)) s = escape_end true front d tokens units (OneDigit x) (x ∷ []) s refl (none_behind x (one_digit true s.1 x s.5))
end_found front d tokens (InToken false units (OneDigit x)) s = escape_end false front d tokens units (OneDigit x) (x ∷ []) s refl (none_behind x (one_digit false s.1 x s.5))
end_found front d tokens (InToken true units (TwoDigits x y)) s = escape_end true front d tokens units (TwoDigits x y) (x ∷ y ∷ []) s refl (none_behind_two x y (first_digit true s.1 x y s.5))
end_found front d tokens (InToken false units (TwoDigits x y)) s = escape_end false front d tokens units (TwoDigits x y) (x ∷ y ∷ []) s refl (none_behind_two x y (first_digit false s.1 x y s.5))

found_step : (front : List ℕ) (b : ℕ) (bytes : List ℕ) (x : Step) → Means front b x
    → ((d : ℕ) (tokens : List Token) (part : Part) → Stands (front ++ b ∷ []) d tokens part → Found ((front ++ b ∷ []) ++ bytes) (run at_end d tokens part bytes))
    → Found (front ++ b ∷ bytes) (elim x [ Goes e more next ↦ run at_end e more next bytes | Closes all ↦ closed all bytes | Fails kind ↦ broken kind ])
found_step front b bytes (Goes e more next) m on =
    subst (λ (t : List ℕ). Found t (run at_end e more next bytes)) (append_assoc front (b ∷ []) bytes) (on e more next m)
found_step front b bytes (Closes all) m on =
    (front ++ b ∷ [], m.1.0, sym (append_assoc front (b ∷ []) bytes), m.1.1, m.1.2, inl (ap₂ (λ (t u : List ℕ). t ++ u) m.1.3 (byte b 10 m.0)))
found_step front b bytes (Fails kind) m on = let h = m bytes in (h.0, h.1)

-- what the machine finds from a state is so of all bytes
pub run_found : (bytes front : List ℕ) (d : ℕ) (tokens : List Token) (part : Part) → Stands front d tokens part → Found (front ++ bytes) (run at_end d tokens part bytes)
run_found [] front d tokens part s = subst (λ (t : List ℕ). Found t (at_end d tokens part)) (sym (append-nil front)) (end_found front d tokens part s)
run_found (b ∷ bytes) front d tokens part s =
    found_step front b bytes (step d tokens part b) (step_means front d tokens part b s) (λ e more next t. run_found bytes (front ++ b ∷ []) e more next t)

-- no bytes lead to the first state
pub first_stands : Stands [] 0 [] Outside
first_stands = ([], record { depth = refl; all = refl; no_comment = refl; fit = λ item h. refl }, refl)

-- bytes begin with an entry, or are broken
pub one_or_other : (bytes : List ℕ) → bytes ≢ []
    → ((text : List ℕ) × (after : List ℕ) × (entry : Entry) × (bytes ≡ text ++ after) × Spells text after entry) ⊎ ((kind : LexKind) × (place : ℕ) × IsBroken bytes kind place)
one_or_other bytes some = by (run at_end 0 [] Outside bytes) (run_found bytes [] 0 [] Outside first_stands)
  where
    by : (o : Outcome) → Found bytes o
        → ((text : List ℕ) × (after : List ℕ) × (entry : Entry) × (bytes ≡ text ++ after) × Spells text after entry) ⊎ ((kind : LexKind) × (place : ℕ) × IsBroken bytes kind place)
    by (broken kind) h = inr (kind, h.0, h.1)
    by alive h = absurd h
    by (closed tokens rest) h =
        inl (
          h.0,
          rest,
          record { line = 0; blank = starts_blank h.0; tokens = tokens },
          h.2,
          record { items = h.1; in_place = h.3; spelled = spelled h.5; tokens = h.4; led = refl },
        )
      where
        spelled : ((h.0 ≡ items_text h.1 ++ 10 ∷ []) ⊎ ((h.0 ≡ items_text h.1) × (rest ≡ []))) → (h.0 ≡ items_text h.1 ++ 10 ∷ []) ⊎ ((h.0 ≡ items_text h.1) × (h.0 ≢ []) × (rest ≡ []))
        spelled (inl e) = inl e
        spelled (inr e) = inr (e.0, (λ none. some (h.2 ∙ ap₂ (λ (t u : List ℕ). t ++ u) none e.1)), e.1)
