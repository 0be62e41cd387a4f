use Rattle.deps_watch.proofs.KeptWell.{kept_well}
use Rattle.deps_watch.proofs.laws.keeps_well.Goals as goal

pub returns : goal.returns
returns c = kept_well
