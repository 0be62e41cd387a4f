use Rattle.policy_compare.proofs.Leaves.{few_matched, counted_some, counted_all}
use Rattle.policy_compare.proofs.comparing.count_of.Goals as goal

pub addresses-requires : goal.addresses-requires
addresses-requires g c = record {
  few = few_matched g.W.Width.BITS c.args.pair c.args.both.now c.args.leaves.now (g.W.Width.number c.in-Some.field-0) g.met.W.Width.few_bits c.requires.same c.in-Some.ensures.cover c.in-Some.ensures.within c.in-Some.ensures.found;
}

pub returns-in-Some : goal.returns-in-Some
returns-in-Some g c = counted_some g.W.Width.BITS c.args.pair c.args.both.now c.args.leaves.now (g.W.Width.number c.in-Some.field-0) c.addresses.result c.requires.same c.in-Some.ensures.cover c.in-Some.ensures.within c.in-Some.ensures.found c.addresses.ensures

pub returns-in-None : goal.returns-in-None
returns-in-None g c = counted_all g.W.Width.BITS c.args.pair c.args.both.now c.in-None.ensures.none
