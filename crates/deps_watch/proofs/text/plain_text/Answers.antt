use Rattle.std.proofs.Common.{sym, ◌∙◌}
use Rattle.zone_answers.proofs.Fit.{found_fit}
use Rattle.deps_watch.proofs.text.plain_text.Goals as goal

pub write_answer-requires : goal.write_answer-requires
write_answer-requires c = λ bodies e. found_fit c.args.zones.now c.args.name.now c.args.kind bodies c.answer.ensures.zones (sym c.in_ok-answer.ensures.answer ∙ e)
