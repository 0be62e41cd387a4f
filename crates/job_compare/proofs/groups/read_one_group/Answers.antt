use Rattle.std.proofs.Common.{rules}
use Rattle.job_compare.proofs.groups.read_one_group.Goals as goal

pub returns-then-not-branch : goal.returns-then-not-branch
returns-then-not-branch c = λ any is. c.in_ok-push_zone_words.ensures.none (search rules) any.inputs is.zones
