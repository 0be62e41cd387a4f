use Rattle.std.proofs.Common.{◌∙◌}
use Rattle.spf_gen.specs.Generated.{record_line}
use Rattle.spf_gen.proofs.Lines.{head_line, line_more, all_written}
use Rattle.spf_gen.proofs.zone.generate.Goals as goal

pub loop-place-preserved : goal.loop-place-preserved
loop-place-preserved c =
    c.in_ok-push_record.ensures ∙ line_more (record_line c.args.start c.args.networks) head_line c.loop-place.zone c.loop-place.place c.loop-place.invariant

pub returns : goal.returns
returns c =
    all_written c.args.start c.args.networks c.loop-place.zone c.loop-place.place c.loop-place-test.false c.loop-place.auto.place-end c.loop-place.invariant
