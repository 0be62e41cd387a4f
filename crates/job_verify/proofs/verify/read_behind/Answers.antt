use Rattle.std.proofs.Common.{rules}
use Rattle.job_verify.proofs.verify.read_behind.Goals as goal

pub returns-in_default-read_number : goal.returns-in_default-read_number
returns-in_default-read_number c = record { spelled = tt; none = λ job is. c.in_default-read_number.ensures job.size is.sized }

pub returns-in_default-read_limits : goal.returns-in_default-read_limits
returns-in_default-read_limits c = record { spelled = tt; none = λ job is. c.in_default-read_limits.ensures job.limits is.reading }

pub returns-then-not-branch : goal.returns-then-not-branch
returns-then-not-branch c =
    let none = rw c.behind_options.ensures at c.in_ok-push_zone_words.ensures.none in
    record { spelled = tt; none = λ job is. none (search rules) is.inputs.zones is.inputs.named }
