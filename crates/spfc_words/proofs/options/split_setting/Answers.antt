use Rattle.std.proofs.Common.{sym, map}
use Rattle.spfc_words.specs.Rows.{plain}
use Rattle.spfc_words.proofs.Settings.{flag_here, valued_here, lone_here, other_here}
use Rattle.spfc_words.proofs.options.split_setting.Goals as goal

pub returns-then-is_flag : goal.returns-then-is_flag
returns-then-is_flag c = flag_here (map plain c.args.rows.now) c.args.words.now c.name-item.result _ c.in-len1-up.len_at_least c.name-item.is c.as_str-name.ensures.value (sym c.if-is_flag.ensures)

pub returns-in_default-behind : goal.returns-in_default-behind
returns-in_default-behind c = lone_here (map plain c.args.rows.now) c.args.words.now c.name-item.result _ c.in-len1-up.len_at_least c.name-item.is c.as_str-name.ensures.value (sym c.if-is_flag.ensures) c.in_default-behind.len_below

pub returns-then-is_valued : goal.returns-then-is_valued
returns-then-is_valued c =
    valued_here (map plain c.args.rows.now) c.args.words.now c.name-item.result c.value-item.result _ _ c.in-len1-up.len_at_least c.name-item.is c.as_str-name.ensures.value (sym c.if-is_flag.ensures)
    c.in-len1-up-behind.len_at_least c.value-item.is c.as_str.ensures.value (sym c.if-is_valued.ensures)

pub returns : goal.returns
returns c = other_here (map plain c.args.rows.now) c.args.words.now c.name-item.result _ c.in-len1-up.len_at_least c.name-item.is c.as_str-name.ensures.value (sym c.if-is_flag.ensures) (sym c.if-is_valued.ensures) c.in-len1-up-behind.len_at_least
