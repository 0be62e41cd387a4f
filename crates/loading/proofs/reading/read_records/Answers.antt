use Rattle.loading.proofs.ReadingLemmas.{judged_stops, none_due}
use Rattle.loading.proofs.reading.read_records.Goals as goal

pub returns-in-Ok-Some-clause-done : goal.returns-in-Ok-Some-clause-done
returns-in-Ok-Some-clause-done g c =
    let l = rw c.in-Ok-Some.field-0-is at c.in-Ok-Some.ensures.loaded in
    λ told. rw (l.2 told) (c.judge.ensures.done c.args.origin.now l.0 l.1)

pub returns-in-Ok-Some-clause-lendable : goal.returns-in-Ok-Some-clause-lendable
returns-in-Ok-Some-clause-lendable g c =
    let l = rw c.in-Ok-Some.field-0-is at c.in-Ok-Some.ensures.loaded in
    c.judge.ensures.lendable c.args.origin.now l.0 l.1

pub returns-in-Ok-Some-clause-stops : goal.returns-in-Ok-Some-clause-stops
returns-in-Ok-Some-clause-stops g c =
    let l = rw c.in-Ok-Some.field-0-is at c.in-Ok-Some.ensures.loaded in
    judged_stops _ _ c.args.origin.now c.args.file.now _ l.0 c.judge.result l.2
    (c.judge.ensures.stops c.args.origin.now l.0 l.1)

pub returns-in_ok-file-in-Ok-None-clause-stops : goal.returns-in_ok-file-in-Ok-None-clause-stops
returns-in_ok-file-in-Ok-None-clause-stops g c =
    let none = rw c.in-Ok-None.field-0-is at c.in-Ok-None.ensures.loaded in
    rw (c.refused.ensures, c.in_ok-file-in-Ok-None.ensures)
    (λ told. none_due _ c.args.origin.now c.args.file.now (none told))
