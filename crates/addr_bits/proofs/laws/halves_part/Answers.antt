use Rattle.addr_bits.proofs.Cidrs.{halves_part}
use Rattle.addr_bits.proofs.laws.halves_part.Goals as goal

pub returns : goal.returns
returns c = halves_part
