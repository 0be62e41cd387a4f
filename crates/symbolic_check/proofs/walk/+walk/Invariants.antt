use Rattle.std.proofs.Common.{◌+◌, ◌*◌, ◌≤◌, length}
use Rattle.addr_bits.specs.Address.{address_of}
use Rattle.symbolic_check.specs.Walk.{says_at}
use Rattle.symbolic_check.proofs.Rows.{WalkedSoFar}
use Rattle.symbolic_check.proofs.walk.+walk.Given as goal

abbrev pub decreases-walk_record : goal.decreases-walk_record
decreases-walk_record g l = 6 * l.depth

abbrev pub decreases-reach_target : goal.decreases-reach_target
decreases-reach_target g l = 6 * l.depth + 1

abbrev pub decreases-walk_target : goal.decreases-walk_target
decreases-walk_target g l = 6 * l.depth + 2

abbrev pub decreases-walk_term : goal.decreases-walk_term
decreases-walk_term g l = 6 * l.depth + 3

abbrev pub decreases-walk_terms : goal.decreases-walk_terms
decreases-walk_terms g l = 6 * l.depth + 4

abbrev pub decreases-walk_default : goal.decreases-walk_default
decreases-walk_default g l = 6 * l.depth + 4

abbrev pub invariant-walk_terms-loop-index : goal.invariant-walk_terms-loop-index
invariant-walk_terms-loop-index g l = (l.index ≤ length l.terms)
    × WalkedSoFar g.W.Width.BITS (says_at (address_of g.W.AddressFamily.family) l.context.zones.now) (address_of g.W.AddressFamily.family) l.context l.depth l.terms l.initial.walked l.initial.asked l.start l.index l.number l.walked l.asked
