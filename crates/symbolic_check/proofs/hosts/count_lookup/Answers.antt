use Rattle.addr_bits.specs.Address.{address_of}
use Rattle.symbolic_check.specs.Walk.{says_at}
use Rattle.symbolic_check.proofs.Combining.{if_ok_by}
use Rattle.symbolic_check.proofs.Matching.{lookup_walks}
use Rattle.symbolic_check.proofs.hosts.count_lookup.Goals as goal

pub returns : goal.returns
returns g c = if_ok_by _ c.count_lookups.result c.count_lookups.ensures
    (λ new steps asked. lookup_walks g.W.Width.BITS (says_at (address_of g.W.AddressFamily.family) c.args.context.now.zones.now) c.args.context.now c.args.term c.place.result c.args.states.now new asked c.place.ensures steps)
