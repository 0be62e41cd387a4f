use Rattle.std.proofs.Common.{map, sym}
use Rattle.spfc_words.specs.Rows.{plain}
use Rattle.spfc_words.specs.Words.{texts}
use Rattle.publishing.proofs.LegalSettings.{no_room}
use Rattle.publishing.proofs.settings.read_settings.Goals as goal

pub returns-in_default-read_number : goal.returns-in_default-read_number
returns-in_default-read_number c any are = c.in_default-read_number.ensures any.size are.sized

pub returns-in_default-read_number-2 : goal.returns-in_default-read_number-2
returns-in_default-read_number-2 c any are = c.in_default-read_number-2.ensures any.ttl are.lasting

pub returns-in_default-2 : goal.returns-in_default-2
returns-in_default-2 c any are = (rw c.in_default-2.is at c.in_ok-label.ensures) any.label are.labelled

pub returns-then-not-has_room : goal.returns-then-not-has_room
returns-then-not-has_room c any are =
    no_room (map plain c.args.rows.now) c.args.domain.now (texts c.args.words.now) c.in-Some-2.label c.in-Some.domain any
    (rw c.in-Some-2.is at c.in_ok-label.ensures) (rw (c.in-Some.is, c.as_bytes.ensures.value) at c.in_ok-domain.ensures)
    (sym (rw (c.as_slice.ensures, c.as_slice-2.ensures) at c.if-not-has_room.ensures)) are
