use Rattle.std.proofs.Common.{rules, subst, sym}
use Rattle.loading.proofs.StopLemmas.{error_also}
use Rattle.publishing.proofs.PublicationLemmas.{policy_refused, policy_stopped}
use Rattle.publishing.specs.Policy.{kept}
use Rattle.publishing.proofs.policy.publish_policy.Goals as goal

pub returns-in-Ok-clause-written : goal.returns-in-Ok-clause-written
returns-in-Ok-clause-written c = kept _ _ (rw c.as_slice.ensures at c.in_ok-found.ensures.kept) c.in-Ok.ensures.written

pub returns-in-Err-clause-refused : goal.returns-in-Err-clause-refused
returns-in-Err-clause-refused c =
    error_also _ _ (policy_stopped c.args.settings.now c.args.limits c.args.zones.now c.in_ok-found.found.tries.v4 c.in_ok-found.found.tries.v6
    (rw c.as_slice.ensures at c.in_ok-found.ensures.kept)) c.in-Err.why c.in-Err.ensures.refused

pub returns-in_err-found-clause-refused : goal.returns-in_err-found-clause-refused
returns-in_err-found-clause-refused c =
    let refused = policy_refused c.args.settings.now c.args.limits c.args.zones.now c.in_err-found.field-0.0 (rw c.as_slice.ensures at c.in_err-found.ensures.refused) in
    search (rules, refused, c.from_residual.ensures)
