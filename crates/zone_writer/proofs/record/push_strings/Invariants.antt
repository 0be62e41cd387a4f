use Rattle.std.proofs.Common.{◌++◌, length, flat_map}
use Rattle.zone_writer.specs.Fragment.{quoted, strings_of}
use Rattle.zone_writer.proofs.Strings.{Lacks}
use Rattle.zone_writer.proofs.record.push_strings.Given as goal

-- the strings of the rest are what is missing, and some number bounds how many full ones stand in it
abbrev pub invariant-loop-rest : goal.invariant-loop-rest
invariant-loop-rest l = Lacks l.zone (l.initial.zone ++ flat_map quoted (strings_of l.fn.text)) l.rest

abbrev pub decreases-loop-rest : goal.decreases-loop-rest
decreases-loop-rest l = length l.rest
