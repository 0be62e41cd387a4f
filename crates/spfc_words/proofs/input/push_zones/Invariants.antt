use Rattle.std.proofs.Common.{◌≡◌, ◌++◌, map}
use Rattle.spfc_words.specs.Inputs.{place_zone}
use Rattle.spfc_words.proofs.input.push_zones.Given as goal

-- the zones so far stand behind what was there
abbrev pub invariant-loop-zone : goal.invariant-loop-zone
invariant-loop-zone l = l.inputs ≡ l.fn.inputs ++ map (place_zone l.group) l.yielded
