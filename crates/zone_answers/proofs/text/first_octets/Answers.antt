use Rattle.std.proofs.Common.{arith, ap, ◌∙◌, take, ◌++◌, ℕ, List}
use Rattle.zone_answers.proofs.Texts.{first_more}
use Rattle.zone_answers.proofs.text.first_octets.Goals as goal

pub loop-string-preserved : goal.loop-string-preserved
loop-string-preserved c = first_more c.as_slice-string-items.result.now c.loop-string.string-index c.string-item.result c.loop-string.octets.items c.push_octets.new.octets.items (omega arith) c.string-item.is c.loop-string.invariant
    (c.push_octets.ensures ∙ ap (λ (l : List ℕ). take 7 (c.loop-string.octets.items ++ l)) c.as_slice.ensures)
