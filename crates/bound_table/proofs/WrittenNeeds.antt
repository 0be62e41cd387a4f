-- The rows of the needs are written and read as a good table.
use Rattle.std.proofs.Common.{◌≡◌, ℕ, zero, suc, ◌+◌, ◌*◌, ◌<◌, ◌≤◌, ◌^◌, List, [], ◌∷◌, ◌++◌, length, sym, ap, subst, inl, inr, arith, le_refl, lit≤}
use Rattle.std.proofs.lemmas.Bool.{cases_Bool}
use Rattle.std.proofs.lemmas.List.Elements.{Contains-append_cases, Contains-append_right}
use Rattle.std.specs.List.{Contains}
use Rattle.addr_bits.specs.Blocks.{lowest, prefix_of}
use Rattle.addr_bits.specs.Prefix.{IsCidr}
use Rattle.spf_grammar.specs.declared.verdict.Verdict.{Verdict}
use Rattle.fewest_terms.specs.Needs.{is_mixed}
use Rattle.fewest_terms.specs.Row.{NeedRow}
use Rattle.fewest_terms.specs.Tables.{need_rows, needs_of, IsGoodTable}
use Rattle.fewest_terms.specs.Totals.{total as least_total}
use Rattle.fewest_terms.proofs.Mixed.{one-plain}
use Rattle.fewest_terms.proofs.TableLemmas.{need_rows-mixed, need_rows-plain, need_rows-good}
use Rattle.fewest_terms.proofs.TrieLeaves.{lowest-both, lowest-next, prefix_of-IsCidr}
use Rattle.bound_table.specs.Laws.{WrittenNeedsAreGood}
use Rattle.bound_table.specs.Placed.{placed_from, rows_of, PlacedRow}
use Rattle.bound_table.specs.Reading.{lines_of}
use Rattle.bound_table.proofs.ReadBack.{placed-rows, written_is_read}
use Rattle.bound_table.proofs.Rising.{first_or_other}

-- ---- the prefixes of the rows

none_in : {X : Type 0} (xs : List X) (x : X) → xs ≡ [] → Contains xs x → ⊥
none_in xs x e c = absurd (omega (arith, c.1, ap length e))

rows_valid : (w : ℕ) (v : ℕ → Verdict) (k n : ℕ) → k ≤ w → lowest k (n + 1) ≤ 2 ^ w → (row : NeedRow) → Contains (need_rows w v k n) row → IsCidr w row.prefix
rows_valid w v zero n h below row c = absurd (none_in (need_rows w v zero n) row (need_rows-plain w v zero n (one-plain v n)) c)
rows_valid w v (suc k) n h below row c = elim (cases_Bool (is_mixed v (suc k) n)) [
  | inr m ↦ absurd (none_in (need_rows w v (suc k) n) row (need_rows-plain w v (suc k) n m) c)
  | inl m ↦ elim (first_or_other (record { prefix = prefix_of w (suc k) n; needs = needs_of v (suc k) n }) (need_rows w v k (2 * n) ++ need_rows w v k (2 * n + 1)) row (subst (λ rs. Contains rs row) (need_rows-mixed w v k n m) c)) [
    | inl e ↦ subst (λ (r : NeedRow). IsCidr w r.prefix) e (prefix_of-IsCidr w (suc k) n h below)
    | inr d ↦ elim (Contains-append_cases (need_rows w v k (2 * n)) (need_rows w v k (2 * n + 1)) row d) [
      | inl l ↦ rows_valid w v k (2 * n) (omega arith) (omega (arith, below, lowest-both k n, lowest-next k (2 * n + 1))) row l
      | inr u ↦ rows_valid w v k (2 * n + 1) (omega arith) (omega (arith, below, lowest-both k n)) row u
    ]
  ]
]

-- ---- the lines of the rows

row_in : (from : ℕ) (rows : List NeedRow) (row : PlacedRow) → Contains (placed_from from rows) row → Contains rows row.row
row_in from [] row c = absurd (omega (arith, c.1))
row_in from (r ∷ rows) row c = elim (first_or_other (record { line = from; row = r }) (placed_from (from + 1) rows) row c) [
  | inl e ↦ (0, omega arith, ap (λ (p : PlacedRow). p.row) e)
  | inr d ↦ Contains-append_right (r ∷ []) rows row.row (row_in (from + 1) rows row d)
]

line_in : (from : ℕ) (rows : List NeedRow) (row : PlacedRow) → Contains (placed_from from rows) row → (from ≤ row.line) × (row.line < from + length rows)
line_in from [] row c = absurd (omega (arith, c.1))
line_in from (r ∷ rows) row c = elim (first_or_other (record { line = from; row = r }) (placed_from (from + 1) rows) row c) [
  | inl e ↦ (let s : from ≡ row.line = ap (λ (p : PlacedRow). p.line) e in (omega arith, omega arith))
  | inr d ↦ (let b = line_in (from + 1) rows row d in (omega (arith, b.0), omega (arith, b.1)))
]

needs_good : (v4 v6 : ℕ → Verdict) → IsGoodTable v4 v6 (need_rows 32 v4 32 0) (need_rows 128 v6 128 0) (least_total v4 v6)
unfolding least_total
needs_good v4 v6 = need_rows-good v4 v6

pub written_needs_are_good : WrittenNeedsAreGood
written_needs_are_good front v4 v6 ends none small4 small6 small =
    let rows4 : List NeedRow = need_rows 32 v4 32 0 in
    let rows6 : List NeedRow = need_rows 128 v6 128 0 in
    let first : ℕ = length (lines_of front) + 1 in
    let next : ℕ = first + length rows4 in
    let good = subst (λ rs. IsGoodTable v4 v6 rs (rows_of (placed_from next rows6)) (least_total v4 v6)) (sym (placed-rows first rows4))
    (subst (λ rs. IsGoodTable v4 v6 rows4 rs (least_total v4 v6)) (sym (placed-rows next rows6)) (needs_good v4 v6)) in (
      written_is_read front rows4 rows6 (least_total v4 v6) ends none
          (λ row c. (rows_valid 32 v4 32 0 (le_refl 32) (lit≤ tt) row c, small4 row c)) (λ row c. (rows_valid 128 v6 128 0 (le_refl 128) (lit≤ tt) row c, small6 row c)) small,
      record {
        good = good;
        order = λ a b ca cb. let x = line_in first rows4 a ca in let y = line_in next rows6 b cb in omega (arith, x.1, y.0);
        small4 = λ row c. small4 row.row (row_in first rows4 row c);
        small6 = λ row c. small6 row.row (row_in next rows6 row c);
        small = small;
      },
    )
