use Rattle.std.proofs.Common.{length, refl, sym, ◌∙◌, ap, Some, arith}
use Rattle.std.proofs.lemmas.Bool.{false≢true}
use Rattle.std.proofs.lemmas.Option.{slice_get_read, slice_get_within}
use Rattle.fewest_terms.specs.Row.{NeedRow}
use Rattle.bound_table.specs.Placed.{PlacedRow}
use Rattle.bound_table.proofs.PlaceLemmas.{some_same}
use Rattle.bound_table.proofs.places.agree.Goals as goal

pub returns-in-Some-Some : goal.returns-in-Some-Some
returns-in-Some-Some g c =
    let row = c.in-Some-Some.placed.now in
    let prefix = c.in-Some-Some.prefix.now in
    let rows-at = slice_get_read c.args.rows.now (length c.args.rows.now) c.args.at row refl c.in-Some-Some.ensures.lookup.3.0 c.in-Some-Some.ensures.lookup.1 in
    let mixed-at = slice_get_read c.args.mixed.now (length c.args.mixed.now) c.args.at prefix refl c.in-Some-Some.ensures'.lookup.3.0 c.in-Some-Some.ensures'.lookup.1 in
    let view = ap (λ (r : NeedRow). r.prefix) c.row.view_is ∙ ap (λ (r : PlacedRow). r.row.prefix) c.placed.view_is in (
      (λ h. (row, rows-at, mixed-at ∙ ap (λ p. Some p) (sym (c.is_same.ensures.0 h) ∙ view))),
      λ h. c.is_same.ensures.1 (view ∙ ap (λ (r : PlacedRow). r.row.prefix) (some_same (sym rows-at ∙ h.1)) ∙ some_same (sym h.2 ∙ mixed-at)),
    )

pub returns-in_default : goal.returns-in_default
returns-in_default g c = (
  λ h. absurd (false≢true h),
  λ h. absurd (omega (arith, c.in_default.ensures'.lookup.3, slice_get_within c.args.mixed.now c.args.at h.0.row.prefix h.2)),
)

pub returns-in_default-2 : goal.returns-in_default-2
returns-in_default-2 g c = (
  λ h. absurd (false≢true h),
  λ h. absurd (omega (arith, c.in_default.ensures.lookup.3, slice_get_within c.args.rows.now c.args.at h.0 h.1)),
)
