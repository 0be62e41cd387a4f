use Rattle.master_reader.proofs.Feeding.{decides_more}
use Rattle.loading.proofs.reading.Progress.take.Goals as goal

pub returns-in-Faulty : goal.returns-in-Faulty
returns-in-Faulty c = λ origin bytes comes few.
    decides_more origin bytes c.args.piece.now _ _ (rw c.in-Faulty.is at comes)
