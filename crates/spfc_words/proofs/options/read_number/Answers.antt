use Rattle.spfc_words.specs.Options.{IsNumber}
use Rattle.spfc_words.proofs.Settings.{several}
use Rattle.spfc_words.proofs.options.read_number.Goals as goal

pub returns-in-None : goal.returns-in-None
returns-in-None c = several (IsNumber c.args.row.now.low c.args.row.now.high) c.args.row.now.by_default _ c.in-None.ensures
