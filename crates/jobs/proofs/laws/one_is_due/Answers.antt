use Rattle.jobs.specs.Meaning.{program}
use Rattle.jobs.proofs.EndedLemmas.{one_due}
use Rattle.jobs.proofs.laws.one_is_due.Goals as goal

pub returns : goal.returns
returns g c = one_due (program g.J.Job.spells g.J.Job.meaning) (record {
  ready = g.met.J.Job.ready;
  one_spelled = g.met.J.Job.one_spelled;
  lawful = g.met.J.Job.lawful;
})
