use Rattle.addr_bits.specs.Address.{address_of}
use Rattle.symbolic_check.specs.Walk.{says_at}
use Rattle.symbolic_check.specs.Stretches.{terms_stretch}
use Rattle.symbolic_check.proofs.Settling.{walks_idle}
use Rattle.symbolic_check.proofs.Rows.{row_stepped}
use Rattle.symbolic_check.proofs.walk.walk_row.Goals as goal

pub returns-then-not-is_some_live : goal.returns-then-not-is_some_live
returns-then-not-is_some_live g c = λ depth t asked.
    walks_idle g.W.Width.BITS (says_at (address_of g.W.AddressFamily.family) c.args.context.now.zones.now) (terms_stretch (address_of g.W.AddressFamily.family) c.args.context.now depth t c.args.row.now) c.args.states asked
    (rw c.if-not-is_some_live.true at c.is_some_live.ensures)

pub returns : goal.returns
returns g c =
    row_stepped g.W.Width.BITS (says_at (address_of g.W.AddressFamily.family) c.args.context.now.zones.now) (address_of g.W.AddressFamily.family) c.args.context.now c.args.row.now c.in_ok-found.found c.args.states c.match_networks.result
    c.requires c.in_ok-found.ensures c.match_networks.ensures
