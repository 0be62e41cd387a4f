use Rattle.std.proofs.Common.{ap, ◌∙◌}
use Rattle.std.specs.Option.{option_copied}
use Rattle.zone_answers.proofs.Clashes.{lesser_none, lesser_new, lesser_old, text_less, text_not_less}
use Rattle.zone_answers.proofs.clash.lesser.Goals as goal

pub returns-in_default : goal.returns-in_default
returns-in_default c = lesser_none (option_copied c.args.least) c.args.name.now (ap option_copied c.in_default.is)

pub returns-then-lt : goal.returns-then-lt
returns-then-lt c = lesser_new (option_copied c.args.least) c.args.name.now c.in-Some.other.now (ap option_copied c.in-Some.is)
    (text_less c.args.name.now c.in-Some.other.now c.as_slice.result.now c.as_slice-2.result.now c.if-lt.ensures (c.as_slice.ensures.value ∙ c.in_ok-text.ensures) (c.as_slice-2.ensures.value ∙ c.in_ok-other_text.ensures))

pub returns : goal.returns
returns c = lesser_old (option_copied c.args.least) c.args.name.now c.in-Some.other.now (ap option_copied c.in-Some.is)
    (text_not_less c.args.name.now c.in-Some.other.now c.as_slice.result.now c.as_slice-2.result.now c.if-lt.ensures (c.as_slice.ensures.value ∙ c.in_ok-text.ensures) (c.as_slice-2.ensures.value ∙ c.in_ok-other_text.ensures))
