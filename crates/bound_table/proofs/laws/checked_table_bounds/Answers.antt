use Rattle.bound_table.proofs.LaterRounds.{checked_table_bounds}
use Rattle.bound_table.proofs.laws.checked_table_bounds.Goals as goal

pub returns : goal.returns
returns c = checked_table_bounds
