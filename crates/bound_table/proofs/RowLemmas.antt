-- The rows of lines that are read one by one.
use Rattle.std.proofs.Common.{◌≡◌, ℕ, ◌+◌, true, false, List, [], ◌∷◌, ◌++◌, length, refl, sym, ◌∙◌, ap, subst, inl, inr, append_assoc, append-nil, arith, Some, None, Ok, Err}
use Rattle.std.proofs.lemmas.List.{length-append}
use Rattle.std.specs.List.{list_any}
use Rattle.addr_bits.specs.declared.address.Family.TheVariants.{V4, V6}
use Rattle.fewest_terms.specs.Row.{NeedRow}
use Rattle.bound_table.specs.declared.table.TableFault.{TableFault}
use Rattle.bound_table.specs.declared.table.TableFault.TheVariants.{NotTable, Memory}
use Rattle.bound_table.specs.Placed.{PlacedRow}
use Rattle.bound_table.specs.Reading.{is_table_line, HaveRows, AreTable, IsMisspelled, SpellsRow}
use Rattle.bound_table.specs.Answers.{IsStep, IsTableAnswer}

-- rows behind rows
pub and_then : (from : ℕ) (xs ys : List (List ℕ)) (a4 a6 b4 b6 : List PlacedRow) → HaveRows from xs a4 a6 → HaveRows (from + length xs) ys b4 b6 → HaveRows from (xs ++ ys) (a4 ++ b4) (a6 ++ b6)
and_then from [] ys a4 a6 b4 b6 h g =
    let e : from + 0 ≡ from = omega arith in
    subst (λ t. HaveRows from ys (t ++ b4) (a6 ++ b6)) (sym h.0) (subst (λ t. HaveRows from ys b4 (t ++ b6)) (sym h.1) (subst (λ n. HaveRows n ys b4 b6) e g))
and_then from (x ∷ xs) ys a4 a6 b4 b6 (inl h) g =
    let e : from + length (x ∷ xs) ≡ from + 1 + length xs = omega arith in
    inl (h.0, and_then (from + 1) xs ys a4 a6 b4 b6 h.1 (subst (λ n. HaveRows n ys b4 b6) e g))
and_then from (x ∷ xs) ys a4 a6 b4 b6 (inr (inl h)) g =
    let e : from + length (x ∷ xs) ≡ from + 1 + length xs = omega arith in
    inr (inl (h.0, h.1 ++ b4, h.2, ap (λ t. t ++ b4) h.3, and_then (from + 1) xs ys h.1 a6 b4 b6 h.4 (subst (λ n. HaveRows n ys b4 b6) e g)))
and_then from (x ∷ xs) ys a4 a6 b4 b6 (inr (inr h)) g =
    let e : from + length (x ∷ xs) ≡ from + 1 + length xs = omega arith in
    inr (inr (h.0, h.1 ++ b6, h.2, ap (λ t. t ++ b6) h.3, and_then (from + 1) xs ys a4 h.1 b4 b6 h.4 (subst (λ n. HaveRows n ys b4 b6) e g)))

-- ---- one line

pub other_line : (line : ℕ) (text : List ℕ) (r4 r6 : List PlacedRow) → is_table_line text ≡ false → IsStep line text r4 r6 r4 r6 (Ok None)
other_line line text r4 r6 h = ([], [], inl (h, (refl, refl)), sym (append-nil r4), sym (append-nil r6))

pub row4_line : (line : ℕ) (text : List ℕ) (r4 r6 n4 : List PlacedRow) → (row : NeedRow) × SpellsRow V4 text row × (n4 ≡ r4 ++ record { line = line; row = row } ∷ []) → IsStep line text r4 r6 n4 r6 (Ok None)
row4_line line text r4 r6 n4 s = (record { line = line; row = s.0 } ∷ [], [], inr (inl (s.0, [], s.1, refl, (refl, refl))), s.2, sym (append-nil r6))

pub row6_line : (line : ℕ) (text : List ℕ) (r4 r6 n4 n6 : List PlacedRow) → n4 ≡ r4 → (row : NeedRow) × SpellsRow V6 text row × (n6 ≡ r6 ++ record { line = line; row = row } ∷ []) → IsStep line text r4 r6 n4 n6 (Ok None)
row6_line line text r4 r6 n4 n6 e s = ([], record { line = line; row = s.0 } ∷ [], inr (inr (s.0, [], s.1, refl, (refl, refl))), e ∙ sym (append-nil r4), s.2)

-- ---- all lines

-- so many lines are read, and they have these rows
pub record AreRead (lines rest : List (List ℕ)) (r4 r6 : List PlacedRow) (line : ℕ) : Type 0 where
  pub front : List (List ℕ)
  pub whole : lines ≡ front ++ rest
  pub rows : HaveRows 1 front r4 r6
  pub count : line ≡ length front

pub none_read : (lines : List (List ℕ)) → AreRead lines lines [] [] 0
none_read lines = record { front = []; whole = refl; rows = (refl, refl); count = refl }

pub read_on : (lines rest after : List (List ℕ)) (text : List ℕ) (r4 r6 n4 n6 : List PlacedRow) (line : ℕ) → AreRead lines rest r4 r6 line → rest ≡ text ∷ after → IsStep (line + 1) text r4 r6 n4 n6 (Ok None) → AreRead lines after n4 n6 (line + 1)
read_on lines rest after text r4 r6 n4 n6 line h e s =
    let at : line + 1 ≡ 1 + length h.front = omega (arith, h.count) in
    let rows = and_then 1 h.front (text ∷ []) r4 r6 s.0 s.1 h.rows (subst (λ n. HaveRows n (text ∷ []) s.0 s.1) at s.2) in
    record {
      front = h.front ++ text ∷ [];
      whole = h.whole ∙ ap (λ t. h.front ++ t) e ∙ sym (append_assoc h.front (text ∷ []) after);
      rows = subst (λ t. HaveRows 1 (h.front ++ text ∷ []) t n6) (sym s.3) (subst (λ t. HaveRows 1 (h.front ++ text ∷ []) (r4 ++ s.0) t) (sym s.4) rows);
      count = h_count h.front h.count;
    }
  where
    h_count : (front : List (List ℕ)) → line ≡ length front → line + 1 ≡ length (front ++ text ∷ [])
    h_count front c = let l : length (front ++ text ∷ []) ≡ length front + 1 = length-append front (text ∷ []) in omega (arith, l, c)

pub says_nothing : (lines rest after : List (List ℕ)) (text : List ℕ) (r4 r6 n4 n6 : List PlacedRow) (line : ℕ) (fault : TableFault) → AreRead lines rest r4 r6 line → rest ≡ text ∷ after
    → IsStep (line + 1) text r4 r6 n4 n6 (Err fault) → IsTableAnswer lines (Err fault)
says_nothing lines rest after text r4 r6 n4 n6 line (NotTable place) h e s = inl (record {
  front = h.front;
  line = text;
  back = after;
  whole = h.whole ∙ ap (λ t. h.front ++ t) e;
  rows4 = r4;
  rows6 = r6;
  rows = h.rows;
  of_table = s.0;
  faulty = inl s.2;
  at = s.1 ∙ ap (λ n. n + 1) h.count;
})
says_nothing lines rest after text r4 r6 n4 n6 line Memory h e s = tt

pub total_within : (lines rest after : List (List ℕ)) (text : List ℕ) (r4 r6 n4 n6 : List PlacedRow) (line total : ℕ) → AreRead lines rest r4 r6 line → rest ≡ text ∷ after
    → IsStep (line + 1) text r4 r6 n4 n6 (Ok (Some total)) → list_any is_table_line after ≡ true → IsMisspelled lines (line + 1)
total_within lines rest after text r4 r6 n4 n6 line total h e s more = inl (record {
  front = h.front;
  line = text;
  back = after;
  whole = h.whole ∙ ap (λ t. h.front ++ t) e;
  rows4 = r4;
  rows6 = r6;
  rows = h.rows;
  of_table = s.0;
  faulty = inr (total, s.1, more);
  at = ap (λ n. n + 1) h.count;
})

pub total_last : (lines rest after : List (List ℕ)) (text : List ℕ) (r4 r6 n4 n6 : List PlacedRow) (line total : ℕ) → AreRead lines rest r4 r6 line → rest ≡ text ∷ after
    → IsStep (line + 1) text r4 r6 n4 n6 (Ok (Some total)) → list_any is_table_line after ≡ false → AreTable lines n4 n6 total (line + 1)
total_last lines rest after text r4 r6 n4 n6 line total h e s none = record {
  front = h.front;
  line = text;
  back = after;
  whole = h.whole ∙ ap (λ t. h.front ++ t) e;
  rows = subst (λ t. HaveRows 1 h.front t n6) (sym s.2) (subst (λ t. HaveRows 1 h.front r4 t) (sym s.3) h.rows);
  spells = s.1;
  ends = none;
  place = ap (λ n. n + 1) h.count;
}

pub no_end : (lines rest : List (List ℕ)) (r4 r6 : List PlacedRow) (line : ℕ) → AreRead lines rest r4 r6 line → rest ≡ [] → IsMisspelled lines (line + 1)
no_end lines rest r4 r6 line h e =
    let whole : lines ≡ h.front = h.whole ∙ ap (λ t. h.front ++ t) e ∙ append-nil h.front in
    inr (record { rows4 = r4; rows6 = r6; rows = subst (λ t. HaveRows 1 t r4 r6) (sym whole) h.rows; at = ap (λ n. n + 1) h.count ∙ ap (λ t. length t + 1) (sym whole) })
