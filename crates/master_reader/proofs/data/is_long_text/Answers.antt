use Rattle.std.proofs.Common.{inl, inr, ◌+◌, arith, ◌<◌, ◌⊎◌, length}
use Rattle.master_reader.proofs.Bodies.{long_here}
use Rattle.master_reader.proofs.data.is_long_text.Goals.{then-len-gt-MAX_STRING-via-then-len-gt-MAX_STRING, then-len-gt-MAX_STRING-via-else-len-gt-MAX_STRING+then-octets-len-gt-MAX_TEXT}
use Rattle.master_reader.proofs.data.is_long_text.Goals as goal

pub returns-then-len-gt-MAX_STRING : goal.returns-then-len-gt-MAX_STRING
returns-then-len-gt-MAX_STRING c =
    let long : (255 < length c.token-item.result.units) ⊎ (65535 < c.loop-token.octets + length c.token-item.result.units + 1) =
    elim c.then-len-gt-MAX_STRING.branch [
      | then-len-gt-MAX_STRING-via-then-len-gt-MAX_STRING w ↦ inl (omega (arith, w.if-len-gt-MAX_STRING.true, c.len-len.ensures))
      | then-len-gt-MAX_STRING-via-else-len-gt-MAX_STRING+then-octets-len-gt-MAX_TEXT w ↦ inr (omega (arith, w.if-octets-len-gt-MAX_TEXT.true, c.len-len.ensures))
    ]
    in
    long_here c.args.content.now c.loop-token.token-index c.token-item.result c.loop-token.octets c.loop-token-test.true c.token-item.is c.loop-token.invariant.sum long
