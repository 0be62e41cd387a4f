use Rattle.spf_gen.proofs.Reading.{zone_is_read}
use Rattle.spf_gen.proofs.laws.zone_is_read.Goals as goal

pub returns : goal.returns
returns c = zone_is_read
