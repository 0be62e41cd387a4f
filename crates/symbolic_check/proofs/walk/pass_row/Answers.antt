use Rattle.std.proofs.Common.{arith}
use Rattle.symbolic_check.specs.Walk.{says_at}
use Rattle.std.proofs.Common.{drop, ◌-◌}
use Rattle.addr_bits.specs.Address.{address_of}
use Rattle.symbolic_check.proofs.Rows.{no_row_passed, row_passed}
use Rattle.symbolic_check.proofs.walk.pass_row.Goals as goal

pub returns-then-start-end : goal.returns-then-start-end
returns-then-start-end g c =
    no_row_passed g.W.Width.BITS (says_at (address_of g.W.AddressFamily.family) c.args.context.now.zones.now) (address_of g.W.AddressFamily.family) c.args.context.now (c.args.end - c.args.start) (drop c.args.start c.args.terms.now) c.args.states
    (omega (arith, c.if-start-end.true))

pub returns : goal.returns
returns g c =
    row_passed g.W.Width.BITS (says_at (address_of g.W.AddressFamily.family) c.args.context.now.zones.now) (address_of g.W.AddressFamily.family) c.args.context.now (c.args.end - c.args.start) c.args.start c.args.terms.now c.args.states c.walk_row.result
    (omega (arith, c.requires.ordered, c.requires.within)) c.walk_row.ensures
