use Rattle.cert_checker.proofs.LikeLemmas.{alike_so, if_none_by, if_some_by, least_so}
use Rattle.cert_checker.proofs.verdicts.least_unlike.Goals as goal

pub returns-clause-found : goal.returns-clause-found
returns-clause-found g c =
    if_some_by _ c.least_true.result c.least_true.ensures.found
    (λ a h. least_so g.W.AddressFamily.family g.W.Width.BITS c.args.due.now c.in_ok-given.given c.in_ok-found.found c.args.list.now c.in_ok-found.ensures.differs c.in_ok-given.ensures (g.W.Width.number a) h)

pub returns-clause-none : goal.returns-clause-none
returns-clause-none g c =
    if_none_by _ c.least_true.result c.least_true.ensures.none
    (λ none. alike_so g.W.AddressFamily.family g.W.Width.BITS c.args.due.now c.in_ok-given.given c.in_ok-found.found c.args.list.now c.in_ok-found.ensures.differs c.in_ok-given.ensures none)
