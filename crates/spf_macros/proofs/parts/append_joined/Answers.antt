use Rattle.spf_macros.proofs.PartTexts.{all_joined}
use Rattle.spf_macros.proofs.parts.append_joined.Goals as goal

pub returns : goal.returns
returns c =
    all_joined c.args.parts.now c.in-Some.rest.now c.in-Some.first.now c.args.out.now c.extend_from_slice.new.self c.loop-part.out c.loop-part.part-index c.in-Some.ensures.cases.0 c.in_ok-extend_from_slice.ensures.ok c.loop-part-test.false c.loop-part.invariant
