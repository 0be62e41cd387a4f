use Rattle.std.proofs.Common.{◌≡◌, take, flat_map}
use Rattle.job_compare.specs.Lines.{change_line}
use Rattle.job_compare.proofs.lines.change_lines.Given as goal

abbrev pub invariant-loop-change : goal.invariant-loop-change
invariant-loop-change l = l.bytes ≡ flat_map change_line (take l.change-index l.changes)
