use Rattle.std.proofs.Common.{take}
use Rattle.zone_answers.specs.Index.{IsIndex}
use Rattle.zone_answers.proofs.node.index_records.Given as goal

abbrev pub invariant-loop-place : goal.invariant-loop-place
invariant-loop-place l = IsIndex (take l.place l.records) l.nodes.entries
