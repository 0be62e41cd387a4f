use Rattle.kept_lists.proofs.Tell.{texts_tell}
use Rattle.kept_lists.proofs.laws.texts_tell.Goals as goal

pub returns : goal.returns
returns c = texts_tell
