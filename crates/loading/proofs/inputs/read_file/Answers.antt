use Rattle.std.proofs.Common.{arith}
use Rattle.loading.proofs.InputsLemmas.{large_file, short_file}
use Rattle.loading.proofs.inputs.read_file.Goals as goal

pub returns-then-len-gt-MAX_FILE-clause-stops : goal.returns-then-len-gt-MAX_FILE-clause-stops
returns-then-len-gt-MAX_FILE-clause-stops g c =
    rw (c.refused.ensures, c.in_ok-file-in-Ok-Some.ensures)
    (λ told. large_file _ _ c.args.file.now c.in-Ok-Some.bytes
    (rw c.in-Ok-Some.field-0-is at (c.in-Ok-Some.ensures.loaded told)) (omega arith))

pub returns-else-len-gt-MAX_FILE-clause-done : goal.returns-else-len-gt-MAX_FILE-clause-done
returns-else-len-gt-MAX_FILE-clause-done g c = λ told.
    short_file _ _ c.args.file.now c.in-Ok-Some.bytes (omega arith)
    (rw c.in-Ok-Some.field-0-is at (c.in-Ok-Some.ensures.loaded told)) (omega arith)
