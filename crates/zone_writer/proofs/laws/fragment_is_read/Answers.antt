use Rattle.zone_writer.proofs.Fragments.{fragment_is_read}
use Rattle.zone_writer.proofs.laws.fragment_is_read.Goals as goal

pub returns : goal.returns
returns c = fragment_is_read
