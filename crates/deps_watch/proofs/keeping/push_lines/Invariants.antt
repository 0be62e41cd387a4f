use Rattle.std.proofs.Common.{take}
use Rattle.deps_watch.specs.Keeping.{AppendsLines}
use Rattle.deps_watch.proofs.keeping.push_lines.Given as goal

abbrev pub invariant-loop-question : goal.invariant-loop-question
invariant-loop-question l = AppendsLines l.zones (take l.question-index l.questions) l.initial.list l.list
