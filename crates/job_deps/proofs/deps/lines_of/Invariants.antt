use Rattle.std.proofs.Common.{◌≡◌, take}
use Rattle.job_deps.specs.Meaning.{question_lines}
use Rattle.job_deps.proofs.deps.lines_of.Given as goal

abbrev pub invariant-loop-question : goal.invariant-loop-question
invariant-loop-question l = l.lines ≡ question_lines (take l.question-index l.questions)
