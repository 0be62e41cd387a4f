use Rattle.cert_checker.proofs.Published.{published_has_no_reason, published_is_certified}
use Rattle.cert_checker.proofs.laws.published_is_certified.Goals as goal

pub returns-clause-certified : goal.returns-clause-certified
returns-clause-certified c = published_is_certified

pub returns-clause-reason : goal.returns-clause-reason
returns-clause-reason c = published_has_no_reason
