use Rattle.std.proofs.Common.{length, refl, sym, ◌∙◌, ap}
use Rattle.std.proofs.lemmas.Option.{slice_get_read}
use Rattle.bound_table.specs.Placed.{PlacedRow}
use Rattle.bound_table.proofs.PlaceLemmas.{line_is, line_past}
use Rattle.bound_table.proofs.places.line_at.Goals as goal

pub returns-in-Some : goal.returns-in-Some
returns-in-Some g c =
    let read = slice_get_read c.args.rows.now (length c.args.rows.now) c.args.at c.in-Some.row.now refl c.in-Some.ensures.lookup.3.0 c.in-Some.ensures.lookup.1 in
    ap (λ (r : PlacedRow). r.line) c.row.view_is ∙ sym (line_is c.args.rows.now c.args.last c.args.at c.in-Some.row.now read)

pub returns-in-None : goal.returns-in-None
returns-in-None g c = sym (line_past c.args.rows.now c.args.last c.args.at c.in-None.ensures.lookup.3)
