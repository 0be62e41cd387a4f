use Rattle.std.proofs.Common.{rules}
use Rattle.job_stale.proofs.stale.read_behind.Goals as goal

pub returns-then-not-branch : goal.returns-then-not-branch
returns-then-not-branch c = record { spelled = tt; none = λ job is. c.in_ok-push_zone_words.ensures.none (search rules) is.zones is.named }
