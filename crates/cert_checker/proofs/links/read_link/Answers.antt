use Rattle.cert_checker.proofs.LinkLemmas.{none_one, one_answer}
use Rattle.cert_checker.proofs.links.read_link.Goals as goal

pub returns-in_default : goal.returns-in_default
returns-in_default c = none_one c.args.body.now _ (rw c.in_default.is at c.in_ok-policy.ensures)

pub returns : goal.returns
returns c =
    one_answer c.args.body.now c.in-Some.policy c.in_ok-rest.rest.now _ c.args.list.now c.push_flat.new.list c.len-from.result c.goes_on.result (rw c.in-Some.is at c.in_ok-policy.ensures) c.len-from.ensures
    (rw c.as_slice.ensures at c.in_ok-rest.ensures) (rw c.terms_from.ensures at c.goes_on.ensures)
