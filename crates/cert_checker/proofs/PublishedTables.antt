-- The rows of needs, as they are placed in a fragment, are a good table for the verdicts of the chosen list.
use Rattle.std.proofs.Common.{◌≡◌, ℕ, ◌+◌, ◌<◌, ◌≤◌, ◌^◌, ◌⊎◌, inl, inr, List, [], ◌∷◌, ◌++◌, length, refl, sym, subst, ◌∙◌, arith}
use Rattle.std.specs.List.{Contains}
use Rattle.std.proofs.lemmas.List.Elements.{Contains-append_right}
use Rattle.addr_bits.specs.Address.{bits_of}
use Rattle.addr_bits.specs.Prefix.{IsCidr}
use Rattle.addr_bits.specs.declared.address.Family.{Family}
use Rattle.addr_bits.specs.declared.address.Family.TheVariants as family
use Rattle.spf_grammar.specs.declared.flat.FlatTerm.{FlatTerm}
use Rattle.spf_grammar.specs.declared.verdict.Verdict.{Verdict}
use Rattle.fewest_terms.specs.Chosen.{chosen_list}
use Rattle.fewest_terms.specs.Row.{NeedRow}
use Rattle.fewest_terms.specs.Tables.{IsGoodTable, need_rows}
use Rattle.fewest_terms.specs.Totals.{total}
use Rattle.fewest_terms.proofs.AnswerLemmas.{list-gives4, list-gives6}
use Rattle.fewest_terms.proofs.TableLemmas.{need_rows-good}
use Rattle.fewest_terms.proofs.Whole.{below_all}
use Rattle.bound_table.specs.Laws.{AreWritable}
use Rattle.bound_table.specs.Lines.{table_text}
use Rattle.bound_table.specs.Placed.{PlacedRow, placed_from, rows_of}
use Rattle.bound_table.specs.Reading.{lines_of}
use Rattle.bound_table.proofs.ReadBack.{placed-rows, written_is_read}
use Rattle.policy_verdicts.proofs.SameVerdicts.{Agree, rows_same, total_same}
use Rattle.cert_checker.specs.Reasons.{HasTable, verdicts_in}
use Rattle.cert_checker.proofs.ListVerdicts.{within_is}
use Rattle.cert_checker.proofs.PublishedLines.{AreOther}
use Rattle.cert_checker.proofs.PublishedRows.{AreSmallRows, one_of, rows_prefix}

-- ---- rows and the lines that they stand in

record IsPlaced (from : ℕ) (rows : List NeedRow) (p : PlacedRow) : Type 0 where
  stands : Contains rows p.row
  low : from ≤ p.line
  high : p.line < from + length rows

placed : (from : ℕ) (rows : List NeedRow) (p : PlacedRow) → Contains (placed_from from rows) p → IsPlaced from rows p
placed from [] p (k, within, e) = absurd (omega (arith, within))
placed from (row ∷ rows) p c = by (one_of (record { line = from; row = row }) (placed_from (from + 1) rows) p c) (placed (from + 1) rows p)
  where
    by : (record { line = from; row = row } ≡ p) ⊎ Contains (placed_from (from + 1) rows) p → (Contains (placed_from (from + 1) rows) p → IsPlaced (from + 1) rows p) → IsPlaced from (row ∷ rows) p
    by (inl e) rest = subst (IsPlaced from (row ∷ rows)) e (record { stands = (0, omega arith, refl); low = omega arith; high = omega arith })
    by (inr more) rest =
        let behind = rest more in
        record { stands = Contains-append_right (row ∷ []) rows p.row behind.stands; low = omega (arith, behind.low); high = omega (arith, behind.high) }

-- ---- all of them can be written

writable : (f : Family) (w : ℕ) (v : ℕ → Verdict) → w ≡ bits_of f → AreSmallRows (need_rows w v w 0) → AreWritable f (need_rows w v w 0)
writable f w v e small row c = (subst (λ b. IsCidr b row.prefix) e (rows_prefix w v row c), small row c)

-- ---- the verdicts of the chosen list

module _ (v4 v6 : ℕ → Verdict) where
  abbrev list : List FlatTerm
  list = chosen_list v4 v6

  agree4 : Agree v4 (verdicts_in family.V4 (chosen_list v4 v6)) 32 0
  agree4 = record {
    agree = λ a e. sym (within_is family.V4 list a (below_all 32 a e) ∙ list-gives4 v4 v6 list refl a (below_all 32 a e));
  }

  agree6 : Agree v6 (verdicts_in family.V6 (chosen_list v4 v6)) 128 0
  agree6 = record {
    agree = λ a e. sym (within_is family.V6 list a (below_all 128 a e) ∙ list-gives6 v4 v6 list refl a (below_all 128 a e));
  }

  good_rows : IsGoodTable (verdicts_in family.V4 (chosen_list v4 v6)) (verdicts_in family.V6 (chosen_list v4 v6)) (need_rows 32 v4 32 0) (need_rows 128 v6 128 0) (total v4 v6)
  unfolding total
  good_rows =
      let w4 = verdicts_in family.V4 list in
      let w6 = verdicts_in family.V6 list in
      subst (λ rows. IsGoodTable w4 w6 rows (need_rows 128 v6 128 0) (total v4 v6)) (sym (rows_same 32 v4 w4 32 0 agree4))
      (subst (λ rows. IsGoodTable w4 w6 (need_rows 32 w4 32 0) rows (total v4 v6)) (sym (rows_same 128 v6 w6 128 0 agree6))
      (subst (IsGoodTable w4 w6 (need_rows 32 w4 32 0) (need_rows 128 w6 128 0)) (sym (total_same v4 w4 v6 w6 agree4 agree6)) (need_rows-good w4 w6)))

  pub written_table : (front : List ℕ) → AreOther front → AreSmallRows (need_rows 32 v4 32 0) → AreSmallRows (need_rows 128 v6 128 0) → total v4 v6 < 2 ^ 32
      → HasTable (front ++ table_text (need_rows 32 v4 32 0) (need_rows 128 v6 128 0) (total v4 v6)) (chosen_list v4 v6) (total v4 v6)
  written_table front other small4 small6 small =
      let r4 : List NeedRow = need_rows 32 v4 32 0 in
      let r6 : List NeedRow = need_rows 128 v6 128 0 in
      let w4 = verdicts_in family.V4 list in
      let w6 = verdicts_in family.V6 list in
      let at4 : ℕ = length (lines_of front) + 1 in
      let at6 : ℕ = at4 + length r4 in
      record {
        rows4 = placed_from at4 r4;
        rows6 = placed_from at6 r6;
        last = at4 + length r4 + length r6;
        spelled = written_is_read front r4 r6 (total v4 v6) other.ends other.none (writable family.V4 32 v4 refl small4) (writable family.V6 128 v6 refl small6) small;
        good = record {
          good = subst (λ rows. IsGoodTable w4 w6 rows (rows_of (placed_from at6 r6)) (total v4 v6)) (sym (placed-rows at4 r4))
              (subst (λ rows. IsGoodTable w4 w6 r4 rows (total v4 v6)) (sym (placed-rows at6 r6)) good_rows);
          order = λ a b ca cb. omega (arith, (placed at4 r4 a ca).high, (placed at6 r6 b cb).low);
          small4 = λ row c. small4 row.row (placed at4 r4 row c).stands;
          small6 = λ row c. small6 row.row (placed at6 r6 row c).stands;
          small = small;
        };
      }
