use Rattle.std.proofs.Common.{rules}
use Rattle.job_compare.proofs.groups.read_two_groups.Goals as goal

pub returns-then-not-branch : goal.returns-then-not-branch
returns-then-not-branch c = λ any is. c.in_ok-push_zone_words.ensures.none (search rules) is.first is.zones

pub returns-then-not-branch-2 : goal.returns-then-not-branch-2
returns-then-not-branch-2 c = λ any is. c.in_ok-push_zone_words-2.ensures.none (search rules) is.others is.other_zones
