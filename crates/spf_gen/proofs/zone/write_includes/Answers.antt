use Rattle.std.proofs.Common.{◌∙◌}
use Rattle.std.specs.Prelude.{codes}
use Rattle.spf_gen.specs.Generated.{include_text}
use Rattle.spf_gen.proofs.Lines.{line_more, all_included}
use Rattle.spf_gen.proofs.zone.write_includes.Goals as goal

pub loop-place-preserved : goal.loop-place-preserved
loop-place-preserved c = c.in_ok-push_include.ensures ∙ line_more include_text (codes "v=spf1") c.loop-place.text c.loop-place.place c.loop-place.invariant

pub returns : goal.returns
returns c =
    c.in_ok-extend_from_slice-2.ensures.ok
    ∙ all_included c.loop-place.text c.loop-place.place c.loop-place-test.false c.loop-place.auto.place-end c.loop-place.invariant
