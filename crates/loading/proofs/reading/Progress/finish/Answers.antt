use Rattle.master_reader.proofs.Feeding.{decides_faults}
use Rattle.loading.proofs.reading.Progress.finish.Goals as goal

pub returns-in-Faulty-clause-bad : goal.returns-in-Faulty-clause-bad
returns-in-Faulty-clause-bad c = λ origin bytes comes. decides_faults origin bytes _ _ (rw c.in-Faulty.is at comes)
