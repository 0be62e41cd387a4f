-- The first table line that is not the one which must stand there.
use Rattle.std.proofs.Common.{◌≡◌, ℕ, zero, suc, ◌+◌, ◌<◌, ◌≤◌, nat_lt, cond, List, [], ◌∷◌, map, length, refl, sym, ◌∙◌, ap, ap₂, subst, ◌⊎◌, inl, inr, Option, Some, None, arith, le_refl, lt-ltb, le-ltb, length-append}
use Rattle.std.proofs.lemmas.Bool.{cases_lt, cases_order}
use Rattle.std.proofs.lemmas.List.Sums.{sum_by-cons}
use Rattle.std.proofs.lemmas.Option.{slice_get_within, slice_get-get_or}
use Rattle.std.specs.List.{Contains, slice_get}
use Rattle.addr_bits.specs.Prefix.{Cidr}
use Rattle.addr_bits.specs.declared.address.Family.{Family}
use Rattle.addr_bits.specs.declared.address.Family.TheVariants.{V4, V6}
use Rattle.bound_table.specs.Placed.{PlacedRow, LinesRise, HasRisingLines, line_at}
use Rattle.bound_table.specs.Rounds.{in_order, rows_before, IsFirst, IsMisplaced, IsRowMisplaced}
use Rattle.bound_table.specs.Judging.{prefixes_of, AgreeAt, IsMisplacedAnswer}

-- ---- places in lists

pub some_same : {X : Type 0} {x y : X} → Some x ≡ Some y → x ≡ y
some_same e = cc

pub none_some : {X : Type 0} {x : X} → None ≡ Some x → ⊥
none_some e = cc

-- an element has a place
pub placed : {X : Type 0} (xs : List X) (x : X) → Contains xs x → (k : ℕ) × (k < length xs) × (slice_get xs k ≡ Some x)
placed xs x c = (c.0, c.1, slice_get-get_or xs c.0 x c.1 ∙ ap (λ y. Some y) c.2)

pub found : {X : Type 0} (xs : List X) (k : ℕ) (x : X) → slice_get xs k ≡ Some x → Contains xs x
found [] k x e = absurd (none_some e)
found (y ∷ xs) zero x e = (zero, omega arith, some_same e)
found (y ∷ xs) (suc k) x e = let c = found xs k x e in (suc c.0, omega (arith, c.1), c.2)

-- there is an element within a list
pub at_place : {X : Type 0} (xs : List X) (k : ℕ) → k < length xs → (x : X) × (slice_get xs k ≡ Some x)
at_place [] k h = absurd (omega arith)
at_place (x ∷ xs) zero h = (x, refl)
at_place (x ∷ xs) (suc k) h = at_place xs k (omega arith)

pub none_past : {X : Type 0} (xs : List X) (k : ℕ) → slice_get xs k ≡ None → length xs ≤ k
none_past xs k e = elim (cases_lt k (length xs)) [
  | inl h ↦ let x = at_place xs k h in absurd (none_some (sym e ∙ x.1))
  | inr h ↦ h
]

-- ---- lines

pub line_is : (rows : List PlacedRow) (last k : ℕ) (row : PlacedRow) → slice_get rows k ≡ Some row → line_at rows last k ≡ row.line
line_is [] last k row e = absurd (none_some e)
line_is (x ∷ rows) last zero row e = ap (λ (r : PlacedRow). r.line) (some_same e)
line_is (x ∷ rows) last (suc k) row e = line_is rows last k row e

pub line_past : (rows : List PlacedRow) (last k : ℕ) → length rows ≤ k → line_at rows last k ≡ last
line_past [] last k h = refl
line_past (x ∷ rows) last zero h = absurd (omega arith)
line_past (x ∷ rows) last (suc k) h = line_past rows last k (omega arith)

pub first_least : (rows : List PlacedRow) (last k : ℕ) → LinesRise rows last → line_at rows last 0 ≤ line_at rows last k
first_least [] last k r = le_refl last
first_least (x ∷ rows) last zero r = le_refl x.line
first_least (x ∷ rows) last (suc k) r = let low = first_least rows last k r.1 in omega (arith, r.0, low)

pub later : (rows : List PlacedRow) (last i k : ℕ) → LinesRise rows last → i < k → i < length rows → line_at rows last i < line_at rows last k
later [] last i k r lt h = absurd (omega arith)
later (x ∷ rows) last i zero r lt h = absurd (omega arith)
later (x ∷ rows) last zero (suc k) r lt h = let low = first_least rows last k r.1 in omega (arith, r.0, low)
later (x ∷ rows) last (suc i) (suc k) r lt h = later rows last i k r.1 (omega arith) (omega arith)

pub below_last : (rows : List PlacedRow) (last k : ℕ) → LinesRise rows last → k < length rows → line_at rows last k < last
below_last rows last k r h = omega (arith, later rows last k (length rows) r h h, line_past rows last (length rows) (le_refl (length rows)))

pub at_most_last : (rows : List PlacedRow) (last k : ℕ) → LinesRise rows last → line_at rows last k ≤ last
at_most_last rows last k r = elim (cases_lt k (length rows)) [
  | inl h ↦ omega (arith, below_last rows last k r h)
  | inr h ↦ omega (arith, line_past rows last k h)
]

pub earlier : (rows : List PlacedRow) (last i k : ℕ) → LinesRise rows last → i < length rows → line_at rows last i < line_at rows last k → i < k
earlier rows last i k r h lt = elim (cases_order i k) [
  | inl e ↦ absurd (omega (arith, lt, ap (line_at rows last) e))
  | inr o ↦ elim o [
    | inl l ↦ l
    | inr g ↦ absurd (omega (arith, lt, later rows last k i r g (omega arith)))
  ]
]

-- so many rows stand before a line
pub count_is : (rows : List PlacedRow) (last line a : ℕ) → LinesRise rows last → a ≤ length rows → ((i : ℕ) → i < a → line_at rows last i < line) → line ≤ line_at rows last a → rows_before rows line ≡ a
count_is [] last line a r h below le = let none : rows_before [] line ≡ 0 = refl in omega (arith, none)
count_is (x ∷ rows) last line zero r h below le =
    let others = count_is rows last line zero r.1 (omega arith) (λ i lt. absurd (omega arith)) (omega (arith, r.0, le)) in
    let own : cond (nat_lt x.line line) 1 0 ≡ 0 = ap (λ b. cond b 1 0) (le-ltb x.line line le) in
    sum_by-cons (λ (row : PlacedRow). cond (nat_lt row.line line) 1 0) x rows ∙ ap₂ (λ m n. m + n) own others
count_is (x ∷ rows) last line (suc a) r h below le =
    let others = count_is rows last line a r.1 (omega arith) (λ i lt. below (suc i) (omega arith)) le in
    let own : cond (nat_lt x.line line) 1 0 ≡ 1 = ap (λ b. cond b 1 0) (lt-ltb x.line line (below zero (omega arith))) in
    sum_by-cons (λ (row : PlacedRow). cond (nat_lt row.line line) 1 0) x rows ∙ ap₂ (λ m n. m + n) own others ∙ omega arith

-- ---- the order

abbrev tag : Family → ℕ
tag V4 = 0
tag V6 = 1

abbrev four_some : Cidr → Option (Family × Cidr)
four_some p = Some (V4, p)

abbrev six_some : Cidr → Option (Family × Cidr)
six_some p = Some (V6, p)

abbrev fours : List Cidr → List (Family × Cidr)
fours m4 = map (λ p. (V4, p)) m4

abbrev sixes : List Cidr → List (Family × Cidr)
sixes m6 = map (λ p. (V6, p)) m6

six_only : (m6 : List Cidr) (k : ℕ) (p : Cidr) → slice_get (sixes m6) k ≡ four_some p → ⊥
six_only [] k p e = none_some e
six_only (x ∷ m6) zero p e = absurd (let n : 1 ≡ 0 = ap (λ (q : Family × Cidr). tag q.0) (some_same e) in omega arith)
six_only (x ∷ m6) (suc k) p e = six_only m6 k p e

six_at : (m6 : List Cidr) (k : ℕ) (p : Cidr) → slice_get (sixes m6) k ≡ six_some p → slice_get m6 k ≡ Some p
six_at [] k p e = absurd (none_some e)
six_at (x ∷ m6) zero p e = ap (λ (q : Family × Cidr). Some q.1) (some_same e)
six_at (x ∷ m6) (suc k) p e = six_at m6 k p e

six_get : (m6 : List Cidr) (k : ℕ) (p : Cidr) → slice_get m6 k ≡ Some p → slice_get (sixes m6) k ≡ six_some p
six_get [] k p e = absurd (none_some e)
six_get (x ∷ m6) zero p e = ap (λ q. six_some q) (some_same e)
six_get (x ∷ m6) (suc k) p e = six_get m6 k p e

get_four : (m4 m6 : List Cidr) (k : ℕ) (p : Cidr) → slice_get m4 k ≡ Some p → slice_get (in_order m4 m6) k ≡ four_some p
get_four [] m6 k p e = absurd (none_some e)
get_four (x ∷ m4) m6 zero p e = ap (λ q. four_some q) (some_same e)
get_four (x ∷ m4) m6 (suc k) p e = get_four m4 m6 k p e

get_six : (m4 m6 : List Cidr) (n k : ℕ) (p : Cidr) → n ≡ length m4 + k → slice_get m6 k ≡ Some p → slice_get (in_order m4 m6) n ≡ six_some p
get_six [] m6 n k p h e = ap (slice_get (sixes m6)) (let s : n ≡ k = omega arith in s) ∙ six_get m6 k p e
get_six (x ∷ m4) m6 zero k p h e = absurd (omega arith)
get_six (x ∷ m4) m6 (suc n) k p h e = get_six m4 m6 n k p (omega arith) e

of_four : (m4 m6 : List Cidr) (k : ℕ) (p : Cidr) → slice_get (in_order m4 m6) k ≡ four_some p → slice_get m4 k ≡ Some p
of_four [] m6 k p e = absurd (six_only m6 k p e)
of_four (x ∷ m4) m6 zero p e = ap (λ (q : Family × Cidr). Some q.1) (some_same e)
of_four (x ∷ m4) m6 (suc k) p e = of_four m4 m6 k p e

of_six : (m4 m6 : List Cidr) (n : ℕ) (p : Cidr) → slice_get (in_order m4 m6) n ≡ six_some p → (k : ℕ) × (n ≡ length m4 + k) × (slice_get m6 k ≡ Some p)
of_six [] m6 n p e = (n, omega arith, six_at m6 n p e)
of_six (x ∷ m4) m6 zero p e = absurd (let n : 0 ≡ 1 = ap (λ (q : Family × Cidr). tag q.0) (some_same e) in omega arith)
of_six (x ∷ m4) m6 (suc n) p e = let below = of_six m4 m6 n p e in (below.0, omega (arith, below.1), below.2)

length-fours : (m4 : List Cidr) → length (fours m4) ≡ length m4
length-fours [] = refl
length-fours (x ∷ m4) = ap suc (length-fours m4)

length-sixes : (m6 : List Cidr) → length (sixes m6) ≡ length m6
length-sixes [] = refl
length-sixes (x ∷ m6) = ap suc (length-sixes m6)

length-in_order : (m4 m6 : List Cidr) → length (in_order m4 m6) ≡ length m4 + length m6
length-in_order m4 m6 =
    length-append (fours m4) (sixes m6) ∙ ap₂ (λ m n. m + n) (length-fours m4) (length-sixes m6)

-- ---- the lines that were judged

-- so many rows of each family stand where they must
pub record InPlace (m4 m6 : List Cidr) (r4 r6 : List PlacedRow) (last a b : ℕ) : Type 0 where
  pub in4 : a ≤ length r4
  pub in6 : b ≤ length r6
  pub some4 : a ≤ length m4
  pub some6 : b ≤ length m6
  pub agree4 : (i : ℕ) → i < a → AgreeAt r4 m4 i
  pub agree6 : (i : ℕ) → i < b → AgreeAt r6 m6 i
  pub whole4 : (b ≡ 0) ⊎ (a ≡ length m4)
  pub before4 : (i : ℕ) → i < a → line_at r4 last i < line_at r6 last 0
  pub before6 : (i : ℕ) → i < b → line_at r6 last i < line_at r4 last a

pub none_judged : (m4 m6 : List Cidr) (r4 r6 : List PlacedRow) (last : ℕ) → InPlace m4 m6 r4 r6 last 0 0
none_judged m4 m6 r4 r6 last = record {
  in4 = omega arith;
  in6 = omega arith;
  some4 = omega arith;
  some6 = omega arith;
  agree4 = λ i h. absurd (omega arith);
  agree6 = λ i h. absurd (omega arith);
  whole4 = inl refl;
  before4 = λ i h. absurd (omega arith);
  before6 = λ i h. absurd (omega arith);
}

up_to : (P : ℕ → Type 0) (a : ℕ) → ((i : ℕ) → i < a → P i) → P a → (i : ℕ) → i < a + 1 → P i
up_to P a h p i lt = elim (cases_lt i a) [
  | inl l ↦ h i l
  | inr g ↦ subst P (let e : a ≡ i = omega arith in e) p
]

agree_within : (rows : List PlacedRow) (mixed : List Cidr) (k : ℕ) → AgreeAt rows mixed k → (k < length rows) × (k < length mixed)
agree_within rows mixed k g = (slice_get_within rows k g.0 g.1, slice_get_within mixed k g.0.row.prefix g.2)

pub four_on : (m4 m6 : List Cidr) (r4 r6 : List PlacedRow) (last a b : ℕ) → InPlace m4 m6 r4 r6 last a b → line_at r4 last a < line_at r6 last b → AgreeAt r4 m4 a → InPlace m4 m6 r4 r6 last (a + 1) b
four_on m4 m6 r4 r6 last a b h lt g =
    let within = agree_within r4 m4 a g in
    let none : b ≡ 0 = elim h.whole4 as (λ _. b ≡ 0) [ inl e ↦ e | inr e ↦ absurd (omega (arith, within.1)) ] in
    record {
      in4 = omega (arith, within.0);
      in6 = h.in6;
      some4 = omega (arith, within.1);
      some6 = h.some6;
      agree4 = up_to (AgreeAt r4 m4) a h.agree4 g;
      agree6 = h.agree6;
      whole4 = inl none;
      before4 = up_to (λ i. line_at r4 last i < line_at r6 last 0) a h.before4 (omega (arith, lt, ap (line_at r6 last) none));
      before6 = λ i l. absurd (omega (arith, none));
    }

pub six_on : (m4 m6 : List Cidr) (r4 r6 : List PlacedRow) (last a b : ℕ) → InPlace m4 m6 r4 r6 last a b → line_at r6 last b < line_at r4 last a → length m4 ≤ a → AgreeAt r6 m6 b → InPlace m4 m6 r4 r6 last a (b + 1)
six_on m4 m6 r4 r6 last a b h lt le g =
    let within = agree_within r6 m6 b g in
    record {
      in4 = h.in4;
      in6 = omega (arith, within.0);
      some4 = h.some4;
      some6 = omega (arith, within.1);
      agree4 = h.agree4;
      agree6 = up_to (AgreeAt r6 m6) b h.agree6 g;
      whole4 = inr (omega (arith, h.some4));
      before4 = h.before4;
      before6 = up_to (λ i. line_at r6 last i < line_at r4 last a) b h.before6 lt;
    }

-- no line in front of the next ones is misplaced
same_row : (rows : List PlacedRow) (k : ℕ) (x y : PlacedRow) → slice_get rows k ≡ Some x → slice_get rows k ≡ Some y → x ≡ y
same_row rows k x y e f = some_same (sym e ∙ f)

four_right : (m4 m6 : List Cidr) (r4 r6 : List PlacedRow) (last a b line : ℕ) → HasRisingLines r4 r6 last → InPlace m4 m6 r4 r6 last a b → line < line_at r4 last a → IsRowMisplaced (in_order m4 m6) r4 r6 V4 r4 line → ⊥
four_right m4 m6 r4 r6 last a b line rise h lt w =
    let at = placed r4 w.row w.stands in
    let is : line_at r4 last at.0 ≡ line = line_is r4 last at.0 w.row at.2 ∙ w.at in
    let k : at.0 < a = earlier r4 last at.0 a rise.four at.1 (omega (arith, is, lt)) in
    let g = h.agree4 at.0 k in
    let rb4 : rows_before r4 line ≡ at.0 =
    count_is r4 last line at.0 rise.four (omega (arith, at.1)) (λ i l. omega (arith, is, later r4 last i at.0 rise.four l (omega (arith, at.1, l)))) (omega (arith, is)) in
    let rb6 : rows_before r6 line ≡ 0 = count_is r6 last line 0 rise.six (omega arith) (λ i l. absurd (omega arith)) (omega (arith, is, h.before4 at.0 k)) in
    let sum : rows_before r4 line + rows_before r6 line ≡ at.0 = omega (arith, rb4, rb6) in
    let prefix : g.0.row.prefix ≡ w.row.row.prefix = ap (λ (r : PlacedRow). r.row.prefix) (same_row r4 at.0 g.0 w.row g.1 at.2) in
    w.other (ap (slice_get (in_order m4 m6)) sum ∙ get_four m4 m6 at.0 g.0.row.prefix g.2 ∙ ap four_some prefix)

six_right : (m4 m6 : List Cidr) (r4 r6 : List PlacedRow) (last a b line : ℕ) → HasRisingLines r4 r6 last → InPlace m4 m6 r4 r6 last a b → line < line_at r6 last b → IsRowMisplaced (in_order m4 m6) r4 r6 V6 r6 line → ⊥
six_right m4 m6 r4 r6 last a b line rise h lt w =
    let at = placed r6 w.row w.stands in
    let is : line_at r6 last at.0 ≡ line = line_is r6 last at.0 w.row at.2 ∙ w.at in
    let k : at.0 < b = earlier r6 last at.0 b rise.six at.1 (omega (arith, is, lt)) in
    let g = h.agree6 at.0 k in
    let whole : a ≡ length m4 = elim h.whole4 as (λ _. a ≡ length m4) [ inl e ↦ absurd (omega (arith, k, e)) | inr e ↦ e ] in
    let rb6 : rows_before r6 line ≡ at.0 =
    count_is r6 last line at.0 rise.six (omega (arith, at.1)) (λ i l. omega (arith, is, later r6 last i at.0 rise.six l (omega (arith, at.1, l)))) (omega (arith, is)) in
    let low = first_least r6 last at.0 rise.six in
    let rb4 : rows_before r4 line ≡ a = count_is r4 last line a rise.four h.in4 (λ i l. omega (arith, is, low, h.before4 i l)) (omega (arith, is, h.before6 at.0 k)) in
    let sum : rows_before r4 line + rows_before r6 line ≡ length m4 + at.0 = omega (arith, rb4, rb6, whole) in
    let prefix : g.0.row.prefix ≡ w.row.row.prefix = ap (λ (r : PlacedRow). r.row.prefix) (same_row r6 at.0 g.0 w.row g.1 at.2) in
    w.other (get_six m4 m6 (rows_before r4 line + rows_before r6 line) at.0 g.0.row.prefix sum g.2 ∙ ap six_some prefix)

none_before : (m4 m6 : List Cidr) (r4 r6 : List PlacedRow) (last a b next : ℕ) → HasRisingLines r4 r6 last → InPlace m4 m6 r4 r6 last a b → next ≤ line_at r4 last a → next ≤ line_at r6 last b
    → (other : ℕ) → IsMisplaced (in_order m4 m6) r4 r6 last other → next ≤ other
none_before m4 m6 r4 r6 last a b next rise h l4 l6 other (inl w) = elim (cases_lt other next) [
  | inl lt ↦ absurd (four_right m4 m6 r4 r6 last a b other rise h (omega (arith, lt, l4)) w)
  | inr le ↦ le
]
none_before m4 m6 r4 r6 last a b next rise h l4 l6 other (inr (inl w)) = elim (cases_lt other next) [
  | inl lt ↦ absurd (six_right m4 m6 r4 r6 last a b other rise h (omega (arith, lt, l6)) w)
  | inr le ↦ le
]
none_before m4 m6 r4 r6 last a b next rise h l4 l6 other (inr (inr w)) = let most = at_most_last r4 last a rise.four in omega (arith, w.at, l4, most)

-- ---- what the code finds

-- the next line is one of IPv4
pub next_four : (r4 r6 : List PlacedRow) (last a b : ℕ) → HasRisingLines r4 r6 last → line_at r4 last a < line_at r6 last b → a < length r4
next_four r4 r6 last a b rise lt = elim (cases_lt a (length r4)) [
  | inl h ↦ h
  | inr h ↦ absurd (let most = at_most_last r6 last b rise.six in omega (arith, lt, line_past r4 last a h, most))
]

-- the next line is one of IPv6
pub next_six : (r4 r6 : List PlacedRow) (last a b : ℕ) → HasRisingLines r4 r6 last → (a < length r4) ⊎ (b < length r6) → line_at r6 last b ≤ line_at r4 last a → (b < length r6) × (line_at r6 last b < line_at r4 last a)
next_six r4 r6 last a b rise more le = elim (cases_lt b (length r6)) [
  | inr h ↦ absurd (elim more as (λ _. ⊥) [
    | inl m ↦ absurd (let low = below_last r4 last a rise.four m in omega (arith, le, line_past r6 last b h, low))
    | inr m ↦ absurd (omega arith)
  ])
  | inl h ↦ (
    h,
    elim (cases_lt a (length r4)) [
      | inr g ↦ omega (arith, line_past r4 last a g, below_last r6 last b rise.six h)
      | inl g ↦ elim (cases_order (line_at r6 last b) (line_at r4 last a)) [
        | inl e ↦ absurd (apart g h (sym e))
        | inr o ↦ elim o [ inl lt ↦ lt | inr gt ↦ absurd (omega arith) ]
      ]
    ],
  )
]
  where
    apart : a < length r4 → b < length r6 → line_at r4 last a ≡ line_at r6 last b → ⊥
    apart g h e =
        let x = at_place r4 a g in
        let y = at_place r6 b h in
        rise.apart x.0 y.0 (found r4 a x.0 x.1) (found r6 b y.0 y.1) (sym (line_is r4 last a x.0 x.1) ∙ e ∙ line_is r6 last b y.0 y.1)

pub four_wrong : (m4 m6 : List Cidr) (r4 r6 : List PlacedRow) (last a b : ℕ) → HasRisingLines r4 r6 last → InPlace m4 m6 r4 r6 last a b → line_at r4 last a < line_at r6 last b
    → (AgreeAt r4 m4 a → ⊥) → IsFirst (IsMisplaced (in_order m4 m6) r4 r6 last) (line_at r4 last a)
four_wrong m4 m6 r4 r6 last a b rise h lt differs =
    let within : a < length r4 = next_four r4 r6 last a b rise lt in
    let x = at_place r4 a within in
    let line : ℕ = line_at r4 last a in
    let rb4 : rows_before r4 line ≡ a = count_is r4 last line a rise.four h.in4 (λ i l. later r4 last i a rise.four l (omega (arith, l, within))) (le_refl line) in
    let rb6 : rows_before r6 line ≡ b = count_is r6 last line b rise.six h.in6 h.before6 (omega (arith, lt)) in
    let sum : rows_before r4 line + rows_before r6 line ≡ a + b = omega (arith, rb4, rb6) in
    record {
      wrong = inl (record {
        row = x.0;
        stands = found r4 a x.0 x.1;
        at = sym (line_is r4 last a x.0 x.1);
        other = λ e.
            let got : slice_get m4 (a + b) ≡ Some x.0.row.prefix = of_four m4 m6 (a + b) x.0.row.prefix (ap (slice_get (in_order m4 m6)) (sym sum) ∙ e) in
            elim h.whole4 as (λ _. ⊥) [
              | inl none ↦ differs (x.0, x.1, ap (slice_get m4) (let s : a ≡ a + b = omega arith in s) ∙ got)
              | inr all ↦ absurd (omega (arith, all, slice_get_within m4 (a + b) x.0.row.prefix got))
            ];
      });
      none_before = none_before m4 m6 r4 r6 last a b line rise h (le_refl line) (omega (arith, lt));
    }

pub six_wrong : (m4 m6 : List Cidr) (r4 r6 : List PlacedRow) (last a b : ℕ) → HasRisingLines r4 r6 last → InPlace m4 m6 r4 r6 last a b → b < length r6 → line_at r6 last b < line_at r4 last a
    → (length m4 ≤ a → AgreeAt r6 m6 b → ⊥) → IsFirst (IsMisplaced (in_order m4 m6) r4 r6 last) (line_at r6 last b)
six_wrong m4 m6 r4 r6 last a b rise h within lt differs =
    let x = at_place r6 b within in
    let line : ℕ = line_at r6 last b in
    let low = first_least r6 last b rise.six in
    let rb4 : rows_before r4 line ≡ a = count_is r4 last line a rise.four h.in4 (λ i l. omega (arith, low, h.before4 i l)) (omega (arith, lt)) in
    let rb6 : rows_before r6 line ≡ b = count_is r6 last line b rise.six h.in6 (λ i l. later r6 last i b rise.six l (omega (arith, l, within))) (le_refl line) in
    let sum : rows_before r4 line + rows_before r6 line ≡ a + b = omega (arith, rb4, rb6) in
    record {
      wrong = inr (inl (record {
        row = x.0;
        stands = found r6 b x.0 x.1;
        at = sym (line_is r6 last b x.0 x.1);
        other = λ e.
            let got = of_six m4 m6 (a + b) x.0.row.prefix (ap (slice_get (in_order m4 m6)) (sym sum) ∙ e) in
            let some = h.some4 in
            elim h.whole4 as (λ _. ⊥) [
              | inl none ↦ (let all : a ≡ length m4 = omega (arith, got.1, none, some) in
                  differs (omega (arith, all)) (x.0, x.1, ap (slice_get m6) (let s : b ≡ got.0 = omega (arith, got.1, all) in s) ∙ got.2))
              | inr all ↦ differs (omega (arith, all)) (x.0, x.1, ap (slice_get m6) (let s : b ≡ got.0 = omega (arith, got.1, all) in s) ∙ got.2)
            ];
      }));
      none_before = none_before m4 m6 r4 r6 last a b line rise h (omega (arith, lt)) (le_refl line);
    }

-- all rows stand where they must, and so many
agree_all : (rows : List PlacedRow) (mixed : List Cidr) → length rows ≡ length mixed → ((i : ℕ) → i < length rows → AgreeAt rows mixed i) → prefixes_of rows ≡ mixed
agree_all [] [] e h = refl
agree_all [] (p ∷ mixed) e h = absurd (omega arith)
agree_all (x ∷ rows) [] e h = absurd (omega arith)
agree_all (x ∷ rows) (p ∷ mixed) e h =
    let first = h zero (omega arith) in
    let head : x.row.prefix ≡ p = ap (λ (r : PlacedRow). r.row.prefix) (some_same first.1) ∙ sym (some_same first.2) in
    ap₂ (λ q qs. q ∷ qs) head (agree_all rows mixed (omega arith) (λ i lt. h (suc i) (omega arith)))

pub all_in_order : (m4 m6 : List Cidr) (r4 r6 : List PlacedRow) (last a b : ℕ) → HasRisingLines r4 r6 last → InPlace m4 m6 r4 r6 last a b → length r4 ≤ a → length r6 ≤ b → a ≡ length m4 → b ≡ length m6
    → IsMisplacedAnswer m4 m6 r4 r6 last None
all_in_order m4 m6 r4 r6 last a b rise h e4 e6 f4 f6 =
    let in4 = h.in4 in
    let in6 = h.in6 in (
      record {
        four = agree_all r4 m4 (omega arith) (λ i lt. h.agree4 i (omega arith));
        six = agree_all r6 m6 (omega arith) (λ i lt. h.agree6 i (omega arith));
        before = λ x y cx cy.
            let at = placed r4 x cx in
            let to = placed r6 y cy in
            let low = first_least r6 last to.0 rise.six in
            omega (arith, line_is r4 last at.0 x at.2, line_is r6 last to.0 y to.2, low, h.before4 at.0 (omega (arith, at.1)));
      },
      none,
    )
  where
    at_last : (other : ℕ) → IsMisplaced (in_order m4 m6) r4 r6 last other → last ≤ other
    at_last other w = none_before m4 m6 r4 r6 last a b last rise h (omega (arith, line_past r4 last a e4)) (omega (arith, line_past r6 last b e6)) other w

    none : (other : ℕ) → IsMisplaced (in_order m4 m6) r4 r6 last other → ⊥
    none other (inl w) = let at = placed r4 w.row w.stands in absurd (omega (arith, at_last other (inl w), w.at, line_is r4 last at.0 w.row at.2, below_last r4 last at.0 rise.four at.1))
    none other (inr (inl w)) = let at = placed r6 w.row w.stands in absurd (omega (arith, at_last other (inr (inl w)), w.at, line_is r6 last at.0 w.row at.2, below_last r6 last at.0 rise.six at.1))
    none other (inr (inr w)) = w.other (let in4 = h.in4 in let in6 = h.in6 in omega (arith, length-in_order m4 m6, in4, in6))

pub total_misplaced : (m4 m6 : List Cidr) (r4 r6 : List PlacedRow) (last a b : ℕ) → HasRisingLines r4 r6 last → InPlace m4 m6 r4 r6 last a b → length r4 ≤ a → length r6 ≤ b → (a ≡ length m4 → b ≡ length m6 → ⊥)
    → IsFirst (IsMisplaced (in_order m4 m6) r4 r6 last) last
total_misplaced m4 m6 r4 r6 last a b rise h e4 e6 differs =
    let in4 = h.in4 in
    let in6 = h.in6 in
    let some4 = h.some4 in
    let some6 = h.some6 in
    record {
      wrong = inr (inr (record {
        at = refl;
        other = λ e. let whole = length-in_order m4 m6 in differs (omega (arith, e, whole, in4, in6, some4, some6)) (omega (arith, e, whole, in4, in6, some4, some6));
      }));
      none_before = none_before m4 m6 r4 r6 last a b last rise h (omega (arith, line_past r4 last a e4)) (omega (arith, line_past r6 last b e6));
    }
