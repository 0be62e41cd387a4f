use Rattle.job_compare.proofs.compare.read_behind.Goals as goal

pub returns-in_default-read_limits : goal.returns-in_default-read_limits
returns-in_default-read_limits c = record { spelled = tt; none = λ job is. c.in_default-read_limits.ensures job.limits is.reading }
