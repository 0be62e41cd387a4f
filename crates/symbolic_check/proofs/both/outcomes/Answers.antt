use Rattle.std.proofs.lemmas.Result.{IfOk-weaker}
use Rattle.addr_bits.specs.Address.{address_of}
use Rattle.symbolic_check.specs.Walk.{says_at}
use Rattle.symbolic_check.proofs.Families.{family_ends}
use Rattle.symbolic_check.proofs.both.outcomes.Goals as goal

pub returns : goal.returns
returns g c =
    IfOk-weaker c.outcomes.result _ _
    (λ ends made. family_ends g.W.Width.BITS (says_at (address_of g.W.AddressFamily.family) c.args.context.now.zones.now) (address_of g.W.AddressFamily.family) c.args.context.now
    c.in_ok-begin.begin c.in_ok-end.end ends c.args.asked.now c.walk_record.new.asked c.in_ok-begin.ensures.value c.in_ok-end.ensures made)
    c.outcomes.ensures
