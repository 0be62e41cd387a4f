use Rattle.addr_bits.specs.Address.{address_of}
use Rattle.symbolic_check.specs.Walk.{says_at}
use Rattle.symbolic_check.proofs.Combining.{if_ok_by}
use Rattle.symbolic_check.proofs.Matching.{gathered_walk}
use Rattle.symbolic_check.proofs.hosts.match_gathered.Goals as goal

pub returns : goal.returns
returns g c = if_ok_by _ c.match_set.result c.match_set.ensures
    (λ new steps asked.
    gathered_walk g.W.Width.BITS (says_at (address_of g.W.AddressFamily.family) c.args.context.now.zones.now) c.args.context.now (address_of g.W.AddressFamily.family) c.args.term c.args.verdict c.args.mechanism.now c.args.gathered
    c.place-place.result c.some_void-void.result c.in_ok-set.set c.args.states.now c.in_ok-counted.counted new asked
    c.place-place.ensures c.some_void-void.ensures c.in_ok-counted.ensures c.in_ok-set.ensures steps)
