use Rattle.bound_table.proofs.OneTable.{one_table}
use Rattle.bound_table.proofs.ReadBack.{one_text}
use Rattle.bound_table.proofs.laws.one_table.Goals as goal

pub returns-clause-table : goal.returns-clause-table
returns-clause-table c = one_table

pub returns-clause-text : goal.returns-clause-text
returns-clause-text c = one_text
