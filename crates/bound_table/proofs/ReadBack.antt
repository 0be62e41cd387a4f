-- What is written is read back.
use Rattle.std.proofs.Common.{◌≡◌, ℕ, ◌+◌, ◌<◌, ◌^◌, ◌==◌, true, false, List, [], ◌∷◌, ◌++◌, map, length, refl, sym, ◌∙◌, ap, subst, inl, inr, append_assoc, append-nil, arith}
use Rattle.std.proofs.lemmas.Bool.{cases_Bool, or_parts}
use Rattle.std.proofs.lemmas.List.{length-append}
use Rattle.std.proofs.lemmas.List.Elements.{Contains-append_right}
use Rattle.std.specs.List.{list_all, list_any}
use Rattle.std.specs.Prelude.{codes, decimal}
use Rattle.addr_bits.specs.Address.{bits_of, text_in}
use Rattle.addr_bits.specs.Prefix.{IsCidr}
use Rattle.addr_bits.specs.declared.address.Family.{Family}
use Rattle.addr_bits.specs.declared.address.Family.TheVariants.{V4, V6}
use Rattle.spf_grammar.specs.declared.verdict.Verdict.TheVariants.{Fail, SoftFail, Pass, Neutral}
use Rattle.spf_grammar.proofs.OneTail.{all_both}
use Rattle.fewest_terms.specs.Row.{NeedRow}
use Rattle.bound_table.specs.Laws.{AreWritable, EndsLine, OneText, WrittenIsRead}
use Rattle.bound_table.specs.Lines.{row_line, row_lines, table_text}
use Rattle.bound_table.specs.Parts.{is_other, AreSmall}
use Rattle.bound_table.specs.Placed.{placed_from, rows_of}
use Rattle.bound_table.specs.Reading.{in_front, is_table_line, lines_of, AreTable, HaveRows, SpellsRow}
use Rattle.bound_table.proofs.LineLemmas.{address_others, decimal_others, len_small, needs_tail, regroup}
use Rattle.bound_table.proofs.LineSplit.{ended, no_lines}
use Rattle.bound_table.proofs.OneTable.{one_table}
use Rattle.bound_table.proofs.RowLemmas.{and_then}

-- ---- whole lines in front

-- lines up to a line feed, alone and with a text behind it
record Split (t rest : List ℕ) : Type 0 where
  first : List ℕ
  others : List (List ℕ)
  alone : lines_of (t ++ 10 ∷ []) ≡ first ∷ others
  longer : lines_of (t ++ 10 ∷ rest) ≡ first ∷ (others ++ lines_of rest)

split : (t rest : List ℕ) → Split t rest
unfolding lines_of
split [] rest = record { first = []; others = []; alone = refl; longer = refl }
split (x ∷ t) rest =
    let s = split t rest in
    elim (cases_Bool (x == 10)) [
      | inl e ↦ record { first = []; others = s.first ∷ s.others; alone = rw e (ap (λ ls. [] ∷ ls) s.alone); longer = rw e (ap (λ ls. [] ∷ ls) s.longer) }
      | inr e ↦ record { first = x ∷ s.first; others = s.others; alone = rw e (ap (in_front x) s.alone); longer = rw e (ap (in_front x) s.longer) }
    ]

lines_behind : (front rest : List ℕ) → EndsLine front → lines_of (front ++ rest) ≡ lines_of front ++ lines_of rest
lines_behind front rest (inl e) =
    ap (λ f. lines_of (f ++ rest)) e ∙ sym (ap (λ ls. ls ++ lines_of rest) (ap lines_of e ∙ no_lines [] refl))
lines_behind front rest (inr e) =
    let s = split e.0 rest in
    ap (λ f. lines_of (f ++ rest)) e.1 ∙ ap lines_of (append_assoc e.0 (10 ∷ []) rest) ∙ s.longer ∙ sym (ap (λ ls. ls ++ lines_of rest) (ap lines_of e.1 ∙ s.alone))

-- ---- the line of a row

abbrev row_text : Family → NeedRow → List ℕ
row_text f r = codes "; row " ++ ((text_in f r.prefix.start ++ 47 ∷ decimal r.prefix.len) ++ 32 ∷ needs_tail r.needs)

row_line_is : (f : Family) (r : NeedRow) → row_line (text_in f r.prefix.start) r.prefix.len r.needs ≡ row_text f r ++ 10 ∷ []
row_line_is f r =
    ap (λ t. t ++ 10 ∷ []) (regroup (codes "; row ") (text_in f r.prefix.start) (decimal r.prefix.len) (decimal r.needs.fail) (decimal r.needs.softfail) (decimal r.needs.pass) (decimal r.needs.neutral))

row_plain : (f : Family) (r : NeedRow) → IsCidr (bits_of f) r.prefix → AreSmall r.needs → list_all (is_other 10) (row_text f r) ≡ true
row_plain f r h small =
    let other : (n : ℕ) → n < 2 ^ 32 → list_all (is_other 10) (decimal n) ≡ true = λ n lt. decimal_others 10 n refl lt in
    let pass = all_both (is_other 10) (decimal r.needs.pass) (32 ∷ decimal r.needs.neutral) (other r.needs.pass (small Pass)) (other r.needs.neutral (small Neutral)) in
    let softfail = all_both (is_other 10) (decimal r.needs.softfail) (32 ∷ (decimal r.needs.pass ++ 32 ∷ decimal r.needs.neutral)) (other r.needs.softfail (small SoftFail)) pass in
    let needs = all_both (is_other 10) (decimal r.needs.fail) (32 ∷ (decimal r.needs.softfail ++ 32 ∷ (decimal r.needs.pass ++ 32 ∷ decimal r.needs.neutral))) (other r.needs.fail (small Fail)) softfail in
    let prefix = all_both (is_other 10) (text_in f r.prefix.start) (47 ∷ decimal r.prefix.len) (address_others 10 f r.prefix refl h) (other r.prefix.len (len_small f r.prefix.len h.short)) in
    all_both (is_other 10) (codes "; row ") ((text_in f r.prefix.start ++ 47 ∷ decimal r.prefix.len) ++ 32 ∷ needs_tail r.needs) refl
    (all_both (is_other 10) (text_in f r.prefix.start ++ 47 ∷ decimal r.prefix.len) (32 ∷ needs_tail r.needs) prefix needs)

row_spells : (f : Family) (r : NeedRow) → IsCidr (bits_of f) r.prefix → AreSmall r.needs → SpellsRow f (row_text f r) r
row_spells f r h small = record { prefix = h; small = small; written = sym (row_line_is f r) }

-- ---- the lines of rows

first_writable : (f : Family) (r : NeedRow) (rows : List NeedRow) → AreWritable f (r ∷ rows) → IsCidr (bits_of f) r.prefix × AreSmall r.needs
first_writable f r rows w = w r (0, omega arith, refl)

others_writable : (f : Family) (r : NeedRow) (rows : List NeedRow) → AreWritable f (r ∷ rows) → AreWritable f rows
others_writable f r rows w = λ row c. w row (Contains-append_right (r ∷ []) rows row c)

one_line : (a b more rest : List ℕ) → a ≡ b ++ 10 ∷ [] → (a ++ more) ++ rest ≡ b ++ 10 ∷ (more ++ rest)
one_line a b more rest e = ap (λ t. (t ++ more) ++ rest) e ∙ regrouped b more rest
  where
    regrouped : (x y z : List ℕ) → ((x ++ 10 ∷ []) ++ y) ++ z ≡ x ++ 10 ∷ (y ++ z)
    regrouped x y z = simp append_assoc

rows_lines : (f : Family) (rows : List NeedRow) (rest : List ℕ) → AreWritable f rows → lines_of (row_lines f rows ++ rest) ≡ map (row_text f) rows ++ lines_of rest
rows_lines f [] rest w = refl
rows_lines f (r ∷ rows) rest w =
    let own = first_writable f r rows w in
    ap lines_of (one_line (row_line (text_in f r.prefix.start) r.prefix.len r.needs) (row_text f r) (row_lines f rows) rest (row_line_is f r)) ∙ ended (row_text f r) (row_lines f rows ++ rest) (row_plain f r own.0 own.1)
    ∙ ap (λ ls. row_text f r ∷ ls) (rows_lines f rows rest (others_writable f r rows w))

four_rows : (from : ℕ) (rows : List NeedRow) → AreWritable V4 rows → HaveRows from (map (row_text V4) rows) (placed_from from rows) []
four_rows from [] w = (refl, refl)
four_rows from (r ∷ rows) w =
    let own = first_writable V4 r rows w in
    inr (inl (r, placed_from (from + 1) rows, row_spells V4 r own.0 own.1, refl, four_rows (from + 1) rows (others_writable V4 r rows w)))

six_rows : (from : ℕ) (rows : List NeedRow) → AreWritable V6 rows → HaveRows from (map (row_text V6) rows) [] (placed_from from rows)
six_rows from [] w = (refl, refl)
six_rows from (r ∷ rows) w =
    let own = first_writable V6 r rows w in
    inr (inr (r, placed_from (from + 1) rows, row_spells V6 r own.0 own.1, refl, six_rows (from + 1) rows (others_writable V6 r rows w)))

no_rows : (from : ℕ) (lines : List (List ℕ)) → list_any is_table_line lines ≡ false → HaveRows from lines [] []
no_rows from [] h = (refl, refl)
no_rows from (x ∷ xs) h = let p = or_parts (is_table_line x) (list_any is_table_line xs) h in inl (p.0, no_rows (from + 1) xs p.1)

length-texts : (f : Family) (rows : List NeedRow) → length (map (row_text f) rows) ≡ length rows
length-texts f [] = refl
length-texts f (r ∷ rows) = omega (arith, length-texts f rows)

-- ---- the whole

table_parts : (a b c d : List ℕ) → (((a ++ b) ++ c) ++ d) ++ 10 ∷ [] ≡ a ++ (b ++ ((c ++ d) ++ 10 ∷ []))
table_parts a b c d = simp append_assoc

table_lines : (rows4 rows6 : List NeedRow) (total : ℕ) → AreWritable V4 rows4 → AreWritable V6 rows6 → total < 2 ^ 32
    → lines_of (table_text rows4 rows6 total) ≡ map (row_text V4) rows4 ++ (map (row_text V6) rows6 ++ (codes "; fewest " ++ decimal total) ∷ [])
table_lines rows4 rows6 total w4 w6 small =
    let last : List ℕ = (codes "; fewest " ++ decimal total) ++ 10 ∷ [] in
    let plain = all_both (is_other 10) (codes "; fewest ") (decimal total) refl (decimal_others 10 total refl small) in
    ap lines_of (table_parts (row_lines V4 rows4) (row_lines V6 rows6) (codes "; fewest ") (decimal total)) ∙ rows_lines V4 rows4 (row_lines V6 rows6 ++ last) w4
    ∙ ap (λ ls. map (row_text V4) rows4 ++ ls) (rows_lines V6 rows6 last w6 ∙ ap (λ ls. map (row_text V6) rows6 ++ ls) (ended (codes "; fewest " ++ decimal total) [] plain ∙ ap (λ ls. (codes "; fewest " ++ decimal total) ∷ ls) (no_lines [] refl)))

pub written_is_read : WrittenIsRead
written_is_read front rows4 rows6 total ends none w4 w6 small =
    let lines : List (List ℕ) = lines_of front in
    let t4 : List (List ℕ) = map (row_text V4) rows4 in
    let t6 : List (List ℕ) = map (row_text V6) rows6 in
    let line : List ℕ = codes "; fewest " ++ decimal total in
    let first : ℕ = length lines + 1 in
    let one : 1 + length lines ≡ first = omega arith in
    let two : first + length t4 ≡ first + length rows4 = ap (λ n. first + n) (length-texts V4 rows4) in
    let below = and_then first t4 t6 (placed_from first rows4) [] [] (placed_from (first + length rows4) rows6) (four_rows first rows4 w4)
    (subst (λ n. HaveRows n t6 [] (placed_from (first + length rows4) rows6)) (sym two) (six_rows (first + length rows4) rows6 w6)) in
    let rows = and_then 1 lines (t4 ++ t6) [] [] (placed_from first rows4 ++ []) (placed_from (first + length rows4) rows6) (no_rows 1 lines none)
    (subst (λ n. HaveRows n (t4 ++ t6) (placed_from first rows4 ++ []) (placed_from (first + length rows4) rows6)) (sym one) below) in
    record {
      front = lines ++ (t4 ++ t6);
      line = line;
      back = [];
      whole = lines_behind front (table_text rows4 rows6 total) ends ∙ ap (λ ls. lines ++ ls) (table_lines rows4 rows6 total w4 w6 small ∙ sym (append_assoc t4 t6 (line ∷ []))) ∙ sym (append_assoc lines (t4 ++ t6) (line ∷ []));
      rows = subst (λ r. HaveRows 1 (lines ++ (t4 ++ t6)) r (placed_from (first + length rows4) rows6)) (append-nil (placed_from first rows4)) rows;
      spells = (small, refl);
      ends = refl;
      place = omega (arith, length-append lines (t4 ++ t6), length-append t4 t6, length-texts V4 rows4, length-texts V6 rows6);
    }

pub placed-rows : (from : ℕ) (rows : List NeedRow) → rows_of (placed_from from rows) ≡ rows
placed-rows from [] = refl
placed-rows from (r ∷ rows) = ap (λ rs. r ∷ rs) (placed-rows (from + 1) rows)

same_rows : (from at : ℕ) (rows others : List NeedRow) → placed_from from rows ≡ placed_from at others → rows ≡ others
same_rows from at rows others e = sym (placed-rows from rows) ∙ ap rows_of e ∙ placed-rows at others

pub one_text : OneText
one_text rows4 rows6 others4 others6 total other w4 w6 small v4 v6 little e =
    let first : ℕ = length (lines_of []) + 1 in
    let none : list_any is_table_line (lines_of []) ≡ false = ap (list_any is_table_line) (no_lines [] refl) in
    let a = written_is_read [] rows4 rows6 total (inl refl) none w4 w6 small in
    let b = written_is_read [] others4 others6 other (inl refl) none v4 v6 little in
    let same = one_table (lines_of (table_text rows4 rows6 total)) (placed_from first rows4) (placed_from (first + length rows4) rows6) (placed_from first others4) (placed_from (first + length others4) others6)
    total other (first + length rows4 + length rows6) (first + length others4 + length others6) a
    (subst (λ t. AreTable (lines_of t) (placed_from first others4) (placed_from (first + length others4) others6) other (first + length others4 + length others6)) (sym e) b) in
    (same_rows first first rows4 others4 same.0, same_rows (first + length rows4) (first + length others4) rows6 others6 same.1, same.2)
