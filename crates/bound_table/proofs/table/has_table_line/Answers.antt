use Rattle.std.proofs.Common.{sym, ap, ◌∙◌}
use Rattle.std.proofs.lemmas.Bool.{eqb-true}
use Rattle.std.specs.List.{list_any}
use Rattle.bound_table.specs.Reading.{is_table_line as belongs}
use Rattle.bound_table.proofs.LineSplit.{no_lines}
use Rattle.bound_table.proofs.table.has_table_line.Goals as goal

pub returns : goal.returns
returns c = sym (c.loop-rest.invariant ∙ ap (list_any belongs) (no_lines c.loop-rest.rest.now (eqb-true _ 0 (sym c.is_empty.ensures ∙ c.loop-rest-test.false))))
