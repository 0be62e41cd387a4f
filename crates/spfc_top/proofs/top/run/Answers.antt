use Rattle.std.proofs.Common.{rules}
use Rattle.jobs.proofs.EndedLemmas.{range_of, done_of, best_of, finding_of, usage_of, read_fault_of, write_fault_of}
use Rattle.jobs.proofs.EndedLemmas.{memory_of, complete_of, assured_of}
use Rattle.spfc_top.proofs.top.run.Goals as goal

pub returns-clause-range : goal.returns-clause-range
returns-clause-range g c = search (rules, range_of c.end.ensures)

pub returns-clause-done : goal.returns-clause-done
returns-clause-done g c = search (rules, done_of c.end.ensures)

pub returns-clause-best : goal.returns-clause-best
returns-clause-best g c = search (rules, best_of c.end.ensures)

pub returns-clause-finding : goal.returns-clause-finding
returns-clause-finding g c = search (rules, finding_of c.end.ensures)

pub returns-clause-usage : goal.returns-clause-usage
returns-clause-usage g c = search (rules, usage_of c.end.ensures)

pub returns-clause-read_fault : goal.returns-clause-read_fault
returns-clause-read_fault g c = search (rules, read_fault_of c.end.ensures)

pub returns-clause-write_fault : goal.returns-clause-write_fault
returns-clause-write_fault g c = search (rules, write_fault_of c.end.ensures)

pub returns-clause-memory : goal.returns-clause-memory
returns-clause-memory g c = search (rules, memory_of c.end.ensures)

pub returns-clause-complete : goal.returns-clause-complete
returns-clause-complete g c = search (rules, complete_of c.end.ensures)

pub returns-clause-assured : goal.returns-clause-assured
returns-clause-assured g c = search (rules, assured_of c.end.ensures)
