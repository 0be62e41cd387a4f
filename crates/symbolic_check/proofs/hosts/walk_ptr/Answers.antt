use Rattle.addr_bits.specs.Address.{address_of}
use Rattle.symbolic_check.specs.Walk.{says_at}
use Rattle.symbolic_check.proofs.Combining.{if_ok_by}
use Rattle.symbolic_check.proofs.Matching.{ptr_walk}
use Rattle.symbolic_check.proofs.hosts.walk_ptr.Goals as goal

pub returns : goal.returns
returns g c = if_ok_by _ c.fail.result c.fail.ensures
    (λ new steps asked depth verdict spec.
    ptr_walk g.W.Width.BITS (says_at (address_of g.W.AddressFamily.family) c.args.context.now.zones.now) c.args.context.now (address_of g.W.AddressFamily.family) depth c.args.term verdict spec c.place.result c.args.states c.in_ok-counted.counted new asked
    (c.in_ok-counted.ensures asked) c.place.ensures steps)
