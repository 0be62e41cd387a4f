-- The lines of the rows that are read rise.
use Rattle.std.proofs.Common.{◌≡◌, ◌≢◌, ℕ, ◌+◌, ◌≤◌, List, [], ◌∷◌, length, refl, sym, ap, subst, ◌⊎◌, inl, inr, Some, Ok, arith}
use Rattle.std.proofs.lemmas.List.Elements.{Contains-append_cases, Contains-push_cases}
use Rattle.std.specs.List.{Contains}
use Rattle.bound_table.specs.Placed.{PlacedRow, LinesRise, HasRisingLines, line_at}
use Rattle.bound_table.specs.Reading.{HaveRows, AreTable}
use Rattle.bound_table.specs.Answers.{IsStep}
use Rattle.bound_table.proofs.RowLemmas.{AreRead}

-- an element is the first or one of the others
pub first_or_other : {X : Type 0} (x : X) (xs : List X) (y : X) → Contains (x ∷ xs) y → (x ≡ y) ⊎ Contains xs y
first_or_other x xs y c = elim (Contains-append_cases (x ∷ []) xs y c) [
  | inl h ↦ elim (Contains-push_cases [] x y h) [
    | inl n ↦ absurd (omega (arith, n.1))
    | inr e ↦ inl e
  ]
  | inr h ↦ inr h
]

-- rows whose lines rise from a number on have no line below it
pub none_below : (from last : ℕ) (rows : List PlacedRow) (row : PlacedRow) → from ≤ line_at rows last 0 → LinesRise rows last → Contains rows row → from ≤ row.line
none_below from last [] row low rise c = absurd (omega (arith, c.1))
none_below from last (x ∷ rows) row low rise c = elim (first_or_other x rows row c) [
  | inl e ↦ omega (arith, low, ap (λ (r : PlacedRow). r.line) e)
  | inr h ↦ none_below from last rows row (omega (arith, low, rise.0)) rise.1 h
]

-- the rows of both families among lines with numbers from this one on
record Rise (from till : ℕ) (r4 r6 : List PlacedRow) : Type 0 where
  low4 : from ≤ line_at r4 till 0
  low6 : from ≤ line_at r6 till 0
  rise4 : LinesRise r4 till
  rise6 : LinesRise r6 till
  apart : (a b : PlacedRow) → Contains r4 a → Contains r6 b → a.line ≢ b.line

none_rise : (from till : ℕ) → from ≤ till → Rise from till [] []
none_rise from till h = record { low4 = h; low6 = h; rise4 = tt; rise6 = tt; apart = λ a b ha hb. absurd (omega (arith, ha.1)) }

later_rise : (from till : ℕ) (r4 r6 : List PlacedRow) → Rise (from + 1) till r4 r6 → Rise from till r4 r6
later_rise from till r4 r6 r = record { low4 = omega (arith, r.low4); low6 = omega (arith, r.low6); rise4 = r.rise4; rise6 = r.rise6; apart = r.apart }

four_rise : (from till : ℕ) (x : PlacedRow) (more r6 : List PlacedRow) → x.line ≡ from → Rise (from + 1) till more r6 → Rise from till (x ∷ more) r6
four_rise from till x more r6 e r = record {
  low4 = omega (arith, e);
  low6 = omega (arith, r.low6);
  rise4 = (omega (arith, e, r.low4), r.rise4);
  rise6 = r.rise6;
  apart = λ a b ha hb q. elim (first_or_other x more a ha) [
    | inl s ↦ absurd (omega (arith, q, e, ap (λ (t : PlacedRow). t.line) s, none_below (from + 1) till r6 b r.low6 r.rise6 hb))
    | inr h ↦ r.apart a b h hb q
  ];
}

six_rise : (from till : ℕ) (x : PlacedRow) (r4 more : List PlacedRow) → x.line ≡ from → Rise (from + 1) till r4 more → Rise from till r4 (x ∷ more)
six_rise from till x r4 more e r = record {
  low4 = omega (arith, r.low4);
  low6 = omega (arith, e);
  rise4 = r.rise4;
  rise6 = (omega (arith, e, r.low6), r.rise6);
  apart = λ a b ha hb q. elim (first_or_other x more b hb) [
    | inl s ↦ absurd (omega (arith, q, e, ap (λ (t : PlacedRow). t.line) s, none_below (from + 1) till r4 a r.low4 r.rise4 ha))
    | inr h ↦ r.apart a b ha h q
  ];
}

lines_rise : (from till : ℕ) (lines : List (List ℕ)) (r4 r6 : List PlacedRow) → till ≡ from + length lines → HaveRows from lines r4 r6 → Rise from till r4 r6
lines_rise from till [] r4 r6 e h = subst (λ t. Rise from till t r6) (sym h.0) (subst (λ t. Rise from till [] t) (sym h.1) (none_rise from till (omega (arith, e))))
lines_rise from till (x ∷ xs) r4 r6 e (inl h) = later_rise from till r4 r6 (lines_rise (from + 1) till xs r4 r6 (omega (arith, e)) h.1)
lines_rise from till (x ∷ xs) r4 r6 e (inr (inl h)) =
    subst (λ t. Rise from till t r6) (sym h.3) (four_rise from till (record { line = from; row = h.0 }) h.1 r6 refl (lines_rise (from + 1) till xs h.1 r6 (omega (arith, e)) h.4))
lines_rise from till (x ∷ xs) r4 r6 e (inr (inr h)) =
    subst (λ t. Rise from till r4 t) (sym h.3) (six_rise from till (record { line = from; row = h.0 }) r4 h.1 refl (lines_rise (from + 1) till xs r4 h.1 (omega (arith, e)) h.4))

pub table_rises : (lines : List (List ℕ)) (r4 r6 : List PlacedRow) (total last : ℕ) → AreTable lines r4 r6 total last → HasRisingLines r4 r6 last
table_rises lines r4 r6 total last t =
    let r = lines_rise 1 last t.front r4 r6 (omega (arith, t.place)) t.rows in
    record { four = r.rise4; six = r.rise6; apart = r.apart }

pub read_rises : (lines rest : List (List ℕ)) (text : List ℕ) (r4 r6 n4 n6 : List PlacedRow) (line total : ℕ) → AreRead lines rest r4 r6 line → IsStep (line + 1) text r4 r6 n4 n6 (Ok (Some total)) → HasRisingLines n4 n6 (line + 1)
read_rises lines rest text r4 r6 n4 n6 line total h s =
    let r = lines_rise 1 (line + 1) h.front r4 r6 (omega (arith, h.count)) h.rows in
    subst (λ t. HasRisingLines t n6 (line + 1)) (sym s.2) (subst (λ t. HasRisingLines r4 t (line + 1)) (sym s.3) (record { four = r.rise4; six = r.rise6; apart = r.apart }))
