use Rattle.publishing.proofs.OnePublication.{one_publication}
use Rattle.publishing.proofs.laws.one_publication.Goals as goal

pub returns : goal.returns
returns c = one_publication
