use Rattle.deps_watch.proofs.KeptWell.{fresh_keeps}
use Rattle.deps_watch.proofs.laws.fresh_keeps.Goals as goal

pub returns : goal.returns
returns c = fresh_keeps
