use Rattle.loading.proofs.ReadingLemmas.{bound, counted}
use Rattle.loading.proofs.reading.Taken.take.Goals as goal

pub returns-clause-taken : goal.returns-clause-taken
returns-clause-taken c = λ origin bytes has.
    (counted bytes _ _ has.0, c.in_ok-progress.ensures origin bytes has.1 (bound bytes _ _ has.0 c.requires))
