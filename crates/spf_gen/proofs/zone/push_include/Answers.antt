use Rattle.std.proofs.Common.{◌∙◌}
use Rattle.std.proofs.lemmas.Result.{on_ok_weaker}
use Rattle.spf_gen.proofs.Lines.{include_written}
use Rattle.spf_gen.proofs.zone.push_include.Goals as goal

pub returns : goal.returns
returns c =
    on_ok_weaker c.extend_from_slice-3.result
    (λ w. include_written c.args.text.now c.extend_from_slice.new.self c.extend_from_slice-2.new.self c.extend_from_slice-3.new.self c.as_bytes.result.now c.args.place
    (c.as_bytes.ensures.value ∙ c.format.ensures.text) c.in_ok-extend_from_slice.ensures.ok c.in_ok-extend_from_slice-2.ensures.ok w)
    c.extend_from_slice-3.ensures.ok
