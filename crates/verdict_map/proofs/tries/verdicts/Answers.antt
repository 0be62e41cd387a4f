use Rattle.std.proofs.Common.{rules}
use Rattle.verdict_map.proofs.Outcomes.{has_outcome, refused_six}
use Rattle.verdict_map.proofs.tries.verdicts.Goals as goal

pub returns-in_err-v6-clause-fault : goal.returns-in_err-v6-clause-fault
returns-in_err-v6-clause-fault c =
    let fault = refused_six c.args.v4.now c.args.v6.now c.in_err-v6.field-0.0 (λ a below. has_outcome _ _ (c.in_ok-v4.ensures.found a below)) c.in_err-v6.ensures.fault in
    search (rules, fault)
