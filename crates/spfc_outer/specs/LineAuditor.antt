-- What is seen of a listener that writes what it hears: the project's own form.
use Rattle.std.specs.Prelude.{ℕ, None}
use Rattle.spfc_outer.specs.declared.line_auditor.LineAuditor.{LineAuditor}
use Rattle.spfc_outer.specs.Auditors.{Untold, AuditorSeen}

-- it tells neither what it heard nor when it is done
abbrev pub line_seen : {S : Type 0} → LineAuditor S → AuditorSeen
line_seen a = record { stop = Untold; count = a.count; heard = None }

-- the sink that it writes to
abbrev pub line_sink : {S : Type 0} → LineAuditor S → S
line_sink a = a.sink
