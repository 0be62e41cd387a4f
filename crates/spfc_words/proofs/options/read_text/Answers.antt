use Rattle.spfc_words.specs.Options.{IsText}
use Rattle.spfc_words.proofs.Settings.{several}
use Rattle.spfc_words.proofs.options.read_text.Goals as goal

pub returns-in-None : goal.returns-in-None
returns-in-None c = several IsText c.args.row.now.by_default.now _ c.in-None.ensures
