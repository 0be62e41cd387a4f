use Rattle.spfc_words.proofs.Settings.{two_flags}
use Rattle.spfc_words.proofs.options.read_flag.Goals as goal

pub returns-in-None : goal.returns-in-None
returns-in-None c = two_flags _ c.in-None.ensures
