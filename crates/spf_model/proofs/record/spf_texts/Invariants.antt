use Rattle.std.proofs.Common.{◌≡◌, take}
use Rattle.std.specs.Prelude.{filter_map}
use Rattle.spf_model.specs.Check.{spf_text_of}
use Rattle.spf_model.proofs.record.spf_texts.Given as goal

abbrev pub invariant-loop-body : goal.invariant-loop-body
invariant-loop-body l = l.texts ≡ filter_map spf_text_of (take l.body-index l.bodies)
