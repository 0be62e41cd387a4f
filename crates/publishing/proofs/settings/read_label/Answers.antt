use Rattle.std.proofs.Common.{map, sym}
use Rattle.spfc_words.specs.Rows.{plain}
use Rattle.spfc_words.specs.Words.{texts}
use Rattle.publishing.proofs.LegalSettings.{no_label}
use Rattle.publishing.proofs.settings.read_label.Goals as goal

pub returns-in_default : goal.returns-in_default
returns-in_default c any is = c.in_default.ensures is.text is.written

pub returns-then-not-is_label : goal.returns-then-not-is_label
returns-then-not-is_label c any is =
    no_label (map plain c.args.rows.now) (texts c.args.words.now) c.in-Some.text.now any c.in-Some.ensures
    (sym (rw c.as_bytes-text.ensures.value at c.if-not-is_label.ensures)) is
