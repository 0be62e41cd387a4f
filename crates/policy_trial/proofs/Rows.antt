-- How many rows a table of needs has.
use Rattle.std.proofs.Common.{ℕ, ◌≡◌, ◌+◌, List, length, sym, ap, ap₂, ◌∙◌}
use Rattle.std.proofs.lemmas.List.{length-map}
use Rattle.spf_grammar.specs.declared.verdict.Verdict.{Verdict}
use Rattle.fewest_terms.specs.Needs.{mixed_count}
use Rattle.fewest_terms.specs.Row.{NeedRow}
use Rattle.fewest_terms.specs.Tables.{AreGoodRows, need_rows}
use Rattle.fewest_terms.proofs.TableLemmas.{length-mixed_prefixes, need_rows-good}

-- good rows are as many as the mixed prefixes
good_rows : (w : ℕ) (v : ℕ → Verdict) (rows : List NeedRow) → AreGoodRows w v rows → length rows ≡ mixed_count v w 0
good_rows w v rows good =
    sym (length-map rows (λ r. r.prefix)) ∙ (ap length good.places ∙ length-mixed_prefixes w v w 0)

pub rows_counted : (v4 v6 : ℕ → Verdict)
    → length (need_rows 32 v4 32 0) + length (need_rows 128 v6 128 0) ≡ mixed_count v4 32 0 + mixed_count v6 128 0
rows_counted v4 v6 =
    let good = need_rows-good v4 v6 in
    ap₂ (λ m n. m + n) (good_rows 32 v4 (need_rows 32 v4 32 0) good.four) (good_rows 128 v6 (need_rows 128 v6 128 0) good.six)
