use Rattle.spfc_words.proofs.Settings.{first_of, none_of}
use Rattle.spfc_words.proofs.options.split_first.Goals as goal

pub returns-in_default : goal.returns-in_default
returns-in_default c = none_of c.args.words.now c.in_default.len_below

pub returns : goal.returns
returns c = first_of c.args.words.now c.first-item.result _ c.in-len1-up.len_at_least c.first-item.is c.as_str.ensures.value
