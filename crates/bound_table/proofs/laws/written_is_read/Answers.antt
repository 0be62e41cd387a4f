use Rattle.bound_table.proofs.ReadBack.{written_is_read}
use Rattle.bound_table.proofs.WrittenNeeds.{written_needs_are_good}
use Rattle.bound_table.proofs.laws.written_is_read.Goals as goal

pub returns-clause-written : goal.returns-clause-written
returns-clause-written c = written_is_read

pub returns-clause-needs : goal.returns-clause-needs
returns-clause-needs c = written_needs_are_good
