use Rattle.std.proofs.Common.{sym, ◌∙◌}
use Rattle.spf_macros.specs.Expansion.{after_dots}
use Rattle.spf_macros.proofs.TargetTexts.{short_stays}
use Rattle.spf_macros.proofs.targets.cut_to_fit.Goals as goal

pub returns : goal.returns
returns c = sym (short_stays c.loop-rest.rest.now (after_dots c.loop-rest.rest.now) c.loop-rest-test.false) ∙ c.loop-rest.invariant
