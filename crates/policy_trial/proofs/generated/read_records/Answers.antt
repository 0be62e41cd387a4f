use Rattle.master_reader.proofs.Once.{reads_not_faults}
use Rattle.policy_trial.proofs.generated.read_records.Goals as goal

pub unreachable-requires : goal.unreachable-requires
unreachable-requires c =
    let faults = rw c.in-Err-Bad.field-0-is at c.in-Err-Bad.ensures.bad in
    reads_not_faults c.args.origin.now c.args.bytes.now c.requires.0 c.in-Err-Bad.field-0-0 c.in-Err-Bad.field-0-1 c.requires.1 faults
