use Rattle.std.proofs.Common.{take}
use Rattle.job_join.specs.Verdicts.{KeepAll}
use Rattle.job_join.proofs.verdicts.verdicts_of_all.Given as goal

-- the verdicts of the first domains
abbrev pub invariant-loop-domain : goal.invariant-loop-domain
invariant-loop-domain l = KeepAll l.limits l.zones (take l.domain-index l.domains) l.all
