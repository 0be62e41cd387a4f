use Rattle.published_records.proofs.Publishing.{fragment_stands}
use Rattle.published_records.proofs.laws.fragment_stands.Goals as goal

pub returns : goal.returns
returns c = fragment_stands
