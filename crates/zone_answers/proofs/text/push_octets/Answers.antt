use Rattle.std.proofs.Common.{arith, sym}
use borrow.Author.Tests.{eqb-true}
use Rattle.zone_answers.proofs.Texts.{push_full, push_whole}
use Rattle.zone_answers.proofs.text.push_octets.Goals as goal

pub returns-then-is_full : goal.returns-then-is_full
returns-then-is_full c = push_full c.args.octets.now.items c.args.string.now c.loop-octet.octets.items c.loop-octet.octet-index c.loop-octet.invariant.0 (eqb-true _ _ (sym c.if-is_full.ensures.value))

pub returns : goal.returns
returns c = push_whole c.args.octets.now.items c.args.string.now c.loop-octet.octets.items c.loop-octet.octet-index c.loop-octet.invariant.0 (omega arith) c.loop-octet.invariant.1
