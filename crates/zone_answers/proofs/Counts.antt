-- How many records zones have.
use Rattle.std.proofs.Common.{◌≡◌, ℕ, ◌+◌, List, [], ◌∷◌, length, sum_by, refl, sym, ap, ap₂, ◌∙◌}
use Rattle.std.specs.List.{AllByRecursion}
use Rattle.std.proofs.lemmas.List.Sums.{sum_by-cons}
use Rattle.zone_answers.specs.Zone.{Zone}
use Rattle.zone_answers.specs.Same.{distinct_records, records_in}

pub records_sum : (zones : List Zone) → AllByRecursion (λ z. distinct_records z.records ≡ z.records) zones → sum_by (λ z. length z.records) zones ≡ records_in zones
records_sum [] h = refl
records_sum (z ∷ zones) h =
    sum_by-cons (λ (x : Zone). length x.records) z zones ∙ ap₂ (λ (m n : ℕ). m + n) (ap length (sym h.0)) (records_sum zones h.1) ∙ sym (sum_by-cons (λ (x : Zone). length (distinct_records x.records)) z zones)
