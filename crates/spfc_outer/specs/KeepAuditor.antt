-- What is seen of a listener that keeps what it hears: the project's own form.
use Rattle.std.specs.Prelude.{ℕ, [], Some, None}
use Rattle.std.specs.declared.option.Option.{Option}
use Rattle.spfc_outer.specs.Auditors.{Stop, At, Never, AuditorSeen}
use Rattle.spfc_outer.specs.declared.keep_auditor.KeepAuditor.{KeepAuditor}
use Rattle.spfc_outer.specs.declared.tight_auditor.TightAuditor.{TightAuditor}

-- it is done at its limit, or never
abbrev pub stop_of : Option ℕ → Stop
stop_of None = Never
stop_of (Some limit) = At limit

-- it tells what it heard
abbrev pub keep_seen : KeepAuditor → AuditorSeen
keep_seen k = record { stop = stop_of k.limit; count = k.count; heard = Some k.heard }

-- so does one that refuses at a count
abbrev pub tight_seen : TightAuditor → AuditorSeen
tight_seen t = keep_seen t.keep

-- one that heard nothing
abbrev pub new_seen : (limit : Option ℕ) → AuditorSeen
new_seen limit = record { stop = stop_of limit; count = 0; heard = Some [] }

-- the count at which it refuses
abbrev pub refused_at : TightAuditor → ℕ
refused_at t = t.refuse
