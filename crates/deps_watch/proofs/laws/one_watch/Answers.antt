use Rattle.deps_watch.proofs.KeptWell.{one_watch}
use Rattle.deps_watch.proofs.laws.one_watch.Goals as goal

pub returns : goal.returns
returns c = one_watch
