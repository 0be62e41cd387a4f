-- The first round has one answer.
use Rattle.std.proofs.Common.{◌≡◌, ℕ, suc, ◌+◌, true, false, List, [], ◌∷◌, ◌++◌, length, refl, sym, ◌∙◌, ap, subst, inl, inr, arith}
use Rattle.std.proofs.lemmas.Bool.{both_ways}
use Rattle.std.specs.List.{list_any}
use Rattle.std.specs.Prelude.{codes, decimal}
use Rattle.addr_bits.specs.declared.address.Family.{Family}
use Rattle.addr_bits.specs.declared.address.Family.TheVariants.{V4, V6}
use Rattle.fewest_terms.specs.Row.{NeedRow}
use Rattle.bound_table.specs.Laws.{OneFirstRound}
use Rattle.bound_table.specs.Placed.{PlacedRow}
use Rattle.bound_table.specs.Reading.{is_table_line, AreTable, HaveRows, HasNoEnd, IsFaulty, IsFirstFaulty, IsMisspelled, SpellsRow, SpellsTotal}
use Rattle.bound_table.proofs.LineLemmas.{row_begins, total_whole}

-- a table line that is no row
pub record Stops (line : List ℕ) : Type 0 where
  pub of_table : is_table_line line ≡ true
  pub no_row : (f : Family) (row : NeedRow) → ¬ SpellsRow f line row

-- no line is such a line
abbrev pub AllGo : List (List ℕ) → Type 0
AllGo [] = Unit {0}
AllGo (line ∷ lines) = (¬ Stops line) × AllGo lines

other_goes : (line : List ℕ) → is_table_line line ≡ false → Stops line → ⊥
other_goes line h s = both_ways (is_table_line line) h s.of_table

row_goes : (line : List ℕ) (f : Family) (row : NeedRow) → SpellsRow f line row → Stops line → ⊥
row_goes line f row r s = s.no_row f row r

pub all_go : (from : ℕ) (lines : List (List ℕ)) (r4 r6 : List PlacedRow) → HaveRows from lines r4 r6 → AllGo lines
all_go from [] r4 r6 h = tt
all_go from (x ∷ xs) r4 r6 (inl h) = (other_goes x h.0, all_go (from + 1) xs r4 r6 h.1)
all_go from (x ∷ xs) r4 r6 (inr (inl h)) = (row_goes x V4 h.0 h.2, all_go (from + 1) xs h.1 r6 h.4)
all_go from (x ∷ xs) r4 r6 (inr (inr h)) = (row_goes x V6 h.0 h.2, all_go (from + 1) xs r4 h.1 h.4)

-- the line of a total is one
abbrev third : List ℕ → ℕ
third (a ∷ b ∷ c ∷ rest) = c
third _ = 0

pub total_stops : (line : List ℕ) (total : ℕ) → SpellsTotal line total → Stops line
total_stops line total s =
    let e : line ≡ codes "; fewest " ++ decimal total = total_whole line total s in
    record {
      of_table = subst (λ t. is_table_line t ≡ true) (sym e) refl;
      no_row = λ f row r. no_both e (row_begins f line row r);
    }
  where
    no_both : {text : List ℕ} → text ≡ codes "; fewest " ++ decimal total → (rest : List ℕ) × (text ≡ codes "; row " ++ rest) → ⊥
    no_both e r = absurd (let n : 102 ≡ 114 = ap third (sym e ∙ r.1) in omega arith)

faulty_stops : (line : List ℕ) (back : List (List ℕ)) → is_table_line line ≡ true → IsFaulty line back → Stops line
faulty_stops line back h (inl nothing) = record { of_table = h; no_row = nothing.0 }
faulty_stops line back h (inr more) = total_stops line more.0 more.1

-- the first such line is one
pub first_of : {A : Type 0} {x y : A} {xs ys : List A} → x ∷ xs ≡ y ∷ ys → x ≡ y
first_of e = cc

pub rest_of : {A : Type 0} {x y : A} {xs ys : List A} → x ∷ xs ≡ y ∷ ys → xs ≡ ys
rest_of e = cc

pub same_stop : (f g : List (List ℕ)) (t u : List ℕ) (b d : List (List ℕ)) → AllGo f → AllGo g → Stops t → Stops u → f ++ t ∷ b ≡ g ++ u ∷ d → (length f ≡ length g) × (t ≡ u) × (b ≡ d)
same_stop [] [] t u b d hf hg st su e = (refl, first_of e, rest_of e)
same_stop [] (y ∷ g) t u b d hf hg st su e = absurd (hg.0 (subst Stops (first_of e) st))
same_stop (x ∷ f) [] t u b d hf hg st su e = absurd (hf.0 (subst Stops (sym (first_of e)) su))
same_stop (x ∷ f) (y ∷ g) t u b d hf hg st su e =
    let below = same_stop f g t u b d hf.1 hg.1 st su (rest_of e) in
    (ap suc below.0, below.1, below.2)

never_stops : (f : List (List ℕ)) (t : List ℕ) (b : List (List ℕ)) → AllGo (f ++ t ∷ b) → Stops t → ⊥
never_stops [] t b h s = h.0 s
never_stops (x ∷ f) t b h s = never_stops f t b h.1 s

fault_goes : (lines : List (List ℕ)) (a b : ℕ) → IsFirstFaulty lines a → HasNoEnd lines b → ⊥
fault_goes lines a b x y = never_stops x.front x.line x.back (subst AllGo x.whole (all_go 1 lines y.rows4 y.rows6 y.rows)) (faulty_stops x.line x.back x.of_table x.faulty)

fault_stop : (lines : List (List ℕ)) (a : ℕ) (x : IsFirstFaulty lines a) → Stops x.line
fault_stop lines a x = faulty_stops x.line x.back x.of_table x.faulty

one_fault : (lines : List (List ℕ)) (a b : ℕ) → IsMisspelled lines a → IsMisspelled lines b → a ≡ b
one_fault lines a b (inl x) (inl y) =
    let same = same_stop x.front y.front x.line y.line x.back y.back (all_go 1 x.front x.rows4 x.rows6 x.rows) (all_go 1 y.front y.rows4 y.rows6 y.rows) (fault_stop lines a x) (fault_stop lines b y) (sym x.whole ∙ y.whole) in
    x.at ∙ ap (λ n. n + 1) same.0 ∙ sym y.at
one_fault lines a b (inl x) (inr y) = absurd (fault_goes lines a b x y)
one_fault lines a b (inr x) (inl y) = absurd (fault_goes lines b a y x)
one_fault lines a b (inr x) (inr y) = x.at ∙ sym y.at

not_faulty : (t u : List ℕ) (b d : List (List ℕ)) (total : ℕ) → t ≡ u → b ≡ d → SpellsTotal t total → list_any is_table_line b ≡ false → IsFaulty u d → ⊥
not_faulty t u b d total e g s ends (inl nothing) = nothing.1 total (subst (λ l. SpellsTotal l total) e s)
not_faulty t u b d total e g s ends (inr more) = both_ways (list_any is_table_line b) ends (subst (λ l. list_any is_table_line l ≡ true) (sym g) more.2)

never_both : (lines : List (List ℕ)) (r4 r6 : List PlacedRow) (total last place : ℕ) → AreTable lines r4 r6 total last → IsMisspelled lines place → ⊥
never_both lines r4 r6 total last place t (inl x) =
    let same = same_stop t.front x.front t.line x.line t.back x.back (all_go 1 t.front r4 r6 t.rows) (all_go 1 x.front x.rows4 x.rows6 x.rows) (total_stops t.line total t.spells) (fault_stop lines place x) (sym t.whole ∙ x.whole) in
    not_faulty t.line x.line t.back x.back total same.1 same.2 t.spells t.ends x.faulty
never_both lines r4 r6 total last place t (inr y) = never_stops t.front t.line t.back (subst AllGo t.whole (all_go 1 lines y.rows4 y.rows6 y.rows)) (total_stops t.line total t.spells)

pub one_first_round : OneFirstRound
one_first_round = record { never_both = never_both; one_fault = one_fault }
