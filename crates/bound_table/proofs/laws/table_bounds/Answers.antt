use Rattle.fewest_terms.proofs.TableLemmas.{table-le, need_rows-good}
use Rattle.bound_table.proofs.laws.table_bounds.Goals as goal

pub returns-clause-bounds : goal.returns-clause-bounds
returns-clause-bounds c = table-le

pub returns-clause-needs : goal.returns-clause-needs
returns-clause-needs c = need_rows-good
