use Rattle.std.proofs.Common.{arith}
use Rattle.zone_answers.proofs.Texts.{joined_fits, joined_all, joined_small}
use Rattle.zone_answers.proofs.text.joined_len.Goals as goal

pub overflow_add-octets : goal.overflow_add-octets
overflow_add-octets c = omega (arith, c.len.ensures, joined_fits c.args.strings.now c.as_slice-string-items.result.now c.loop-string.string-index c.string-item.result c.loop-string.octets c.as_slice-string-items.ensures (omega arith) c.string-item.is c.requires c.loop-string.invariant)

pub returns-clause-joined : goal.returns-clause-joined
returns-clause-joined c = joined_all c.args.strings.now c.as_slice-string-items.result.now c.loop-string.string-index c.loop-string.octets c.as_slice-string-items.ensures (omega arith) c.loop-string.invariant

pub returns-clause-small : goal.returns-clause-small
returns-clause-small c = joined_small c.args.strings.now c.loop-string.octets (joined_all c.args.strings.now c.as_slice-string-items.result.now c.loop-string.string-index c.loop-string.octets c.as_slice-string-items.ensures (omega arith) c.loop-string.invariant) c.requires
