use Rattle.std.proofs.Common.{List, sym, subst}
use Rattle.std.specs.List.{AllByRecursion}
use Rattle.zone_answers.specs.declared.answer.Question.{Question}
use Rattle.deps_watch.specs.Lists.{HasRoom}
use Rattle.deps_watch.proofs.Asked.{asked_rooms, kept_named}
use Rattle.deps_watch.proofs.keeping.keep.Goals as goal

pub evaluate-requires-clause-named : goal.evaluate-requires-clause-named
evaluate-requires-clause-named c = kept_named c.args.domain.now c.requires.named

pub push_lines-requires : goal.push_lines-requires
push_lines-requires c =
    subst (AllByRecursion (λ (question : Question). HasRoom question.kind question.name)) (sym c.as_slice.ensures)
    (asked_rooms c.args.zones.now c.args.limits c.args.domain.now c.in_ok-both.both.v4 c.in_ok-both.both.v6 c.in_ok-both.both.asked c.in_ok-both.ensures)
