use Rattle.std.proofs.Common.{◌≡◌, ◌≤◌, ◌+◌, ◌*◌, ◌∷◌, ◌++◌, flat_map, length}
use Rattle.dns_name.specs.Wire.{labels_in}
use Rattle.dns_name.specs.Name.{IsWire}
use Rattle.dns_name.specs.Printed.{printed_byte, printed_name}
use Rattle.dns_name.proofs.name.Name.printed.Given as goal

abbrev pub invariant-loop-label : goal.invariant-loop-label
invariant-loop-label l = record {
  wire : IsWire l.rest;
  spelled : l.text.items ++ flat_map (λ label. 46 ∷ flat_map printed_byte label) (labels_in l.rest) ≡ printed_name l.self;
  room : length l.text.items + 4 * length l.rest ≤ 1020;
}

abbrev pub decreases-loop-label : goal.decreases-loop-label
decreases-loop-label l = length l.rest
