use Rattle.std.proofs.Common.{ap, ◌∙◌}
use Rattle.spf_macros.proofs.PartTexts.{texts_of, reversed_texts}
use Rattle.spf_macros.proofs.parts.turn.Goals as goal

pub returns-then-reverse : goal.returns-then-reverse
returns-then-reverse c = let turned = c.if-reverse.true in rw turned (ap texts_of c.reverse.ensures.after ∙ reversed_texts c.args.parts.now)
