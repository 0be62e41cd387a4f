use Rattle.std.proofs.Common.{◌≡◌}
use Rattle.std.specs.List.{flat_map}
use Rattle.zone_answers.specs.Answers.{answer_bodies}
use Rattle.symbolic_check.proofs.hosts.one_answer.Given as goal

abbrev pub invariant-loop-answer : goal.invariant-loop-answer
invariant-loop-answer l = l.bodies ≡ flat_map answer_bodies l.yielded
