use Rattle.std.proofs.Common.{◌∙◌}
use Rattle.spfc_words.proofs.Settings.{any_mapped}
use Rattle.spfc_words.specs.Rows.{plain, is_flag_of}
use Rattle.spfc_words.proofs.row.is_flag.Goals as goal

pub returns : goal.returns
returns c = c.has_flag.ensures ∙ any_mapped plain (is_flag_of c.args.word.now) c.args.rows.now
