use Rattle.std.proofs.Common.{◌++◌}
use Rattle.record_pack.specs.Records.{pieces_from}
use Rattle.zone_writer.specs.Fragment.{record_lines}
use Rattle.zone_writer.proofs.Records.{Lacks}
use Rattle.zone_writer.proofs.zone.push_records.Given as goal

-- the records of the ends that are left are what is missing
abbrev pub invariant-loop-index : goal.invariant-loop-index
invariant-loop-index l =
    Lacks l.domain l.label l.list l.ends (l.initial.zone ++ record_lines l.domain l.label 0 (pieces_from l.list 0 l.ends)) l.from l.index l.zone
