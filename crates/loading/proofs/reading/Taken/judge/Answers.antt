use Rattle.std.proofs.Common.{arith, ◌≤◌}
use Rattle.zone_answers.proofs.Reading.{read_lendable}
use Rattle.loading.proofs.ReadingLemmas.{long_contents, short_contents, whole_contents, long_due, bad_due, read_due}
use Rattle.loading.proofs.reading.Taken.judge.Goals as goal

pub returns-then-self-gt-MAX_FILE-clause-stops : goal.returns-then-self-gt-MAX_FILE-clause-stops
returns-then-self-gt-MAX_FILE-clause-stops c = λ origin contents ends.
    let long = long_contents origin contents _ ends (omega (arith, c.if-self-gt-MAX_FILE.true)) in
    rw (c.refused.ensures, c.in_ok-file.ensures) (long_due origin c.args.file.now contents long)

pub returns-in-Ok-clause-done : goal.returns-in-Ok-clause-done
returns-in-Ok-clause-done c = λ origin contents ends.
    let short : c.args.self.count ≤ 8388608 = omega (arith, c.if-self-gt-MAX_FILE.false) in
    read_due origin c.args.file.now contents _ (short_contents origin contents _ ends short)
    (c.in-Ok.ensures.reads origin contents (whole_contents origin contents _ ends short))

pub returns-in-Ok-clause-lendable : goal.returns-in-Ok-clause-lendable
returns-in-Ok-clause-lendable c = λ origin contents ends.
    let short : c.args.self.count ≤ 8388608 = omega (arith, c.if-self-gt-MAX_FILE.false) in
    read_lendable origin contents _
    (c.in-Ok.ensures.reads origin contents (whole_contents origin contents _ ends short))

pub returns-in_ok-file-in-Err-Bad-clause-stops : goal.returns-in_ok-file-in-Err-Bad-clause-stops
returns-in_ok-file-in-Err-Bad-clause-stops c = λ origin contents ends.
    let short : c.args.self.count ≤ 8388608 = omega (arith, c.if-self-gt-MAX_FILE.false) in
    let comes = whole_contents origin contents _ ends short in
    let bad = rw c.in-Err-Bad.field-0-is at (c.in-Err-Bad.ensures.bad origin contents comes) in
    rw (c.refused-in-Err-Bad.ensures, c.in_ok-file-in-Err-Bad.ensures)
    (bad_due origin c.args.file.now contents _ _ (short_contents origin contents _ ends short) bad)
