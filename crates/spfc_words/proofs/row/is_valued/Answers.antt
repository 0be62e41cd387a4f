use Rattle.std.proofs.Common.{◌∙◌}
use Rattle.spfc_words.proofs.Settings.{any_mapped}
use Rattle.spfc_words.specs.Rows.{plain, is_valued_of}
use Rattle.spfc_words.proofs.row.is_valued.Goals as goal

pub returns : goal.returns
returns c = c.has_valued.ensures ∙ any_mapped plain (is_valued_of c.args.word.now) c.args.rows.now
