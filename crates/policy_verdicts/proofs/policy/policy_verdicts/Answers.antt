use Rattle.std.proofs.Common.{rules}
use Rattle.spf_model.specs.Run.{says}
use Rattle.policy_verdicts.proofs.Evaluations.{kept_of, fault_of}
use Rattle.policy_verdicts.proofs.policy.policy_verdicts.Goals as goal

pub returns-in_err-tries-clause-refused : goal.returns-in_err-tries-clause-refused
returns-in_err-tries-clause-refused c =
    let fault = fault_of c.args.zones.now c.args.limits c.args.domain.now c.in_ok-both.both.v4 c.in_ok-both.both.v6 c.in_ok-both.both.asked c.in_err-tries.field-0.0
    c.in_ok-both.ensures c.in_err-tries.ensures.fault in
    search (rules, fault)

pub returns-clause-kept : goal.returns-clause-kept
returns-clause-kept c =
    kept_of (says c.args.zones.now) c.args.limits c.args.domain.now c.in_ok-both.both.v4 c.in_ok-both.both.v6 c.in_ok-both.both.asked c.in_ok-tries.tries.v4 c.in_ok-tries.tries.v6
    c.in_ok-both.ensures c.in_ok-tries.ensures.four c.in_ok-tries.ensures.six

pub returns-clause-asked : goal.returns-clause-asked
returns-clause-asked c = c.in_ok-both.ensures.questions
