use Rattle.std.proofs.Common.{◌≡◌, length}
use Rattle.dns_name.specs.Wire.{labels_in, wire_form}
use Rattle.dns_name.specs.Name.{IsWire, is_under}
use Rattle.dns_name.proofs.name.Name.under.Given as goal

abbrev pub invariant-loop-top : goal.invariant-loop-top
invariant-loop-top l = record {
  wire : IsWire l.rest;
  top : l.top ≡ wire_form l.other;
  same : is_under l.self l.other ≡ is_under (labels_in l.rest) l.other;
}

abbrev pub decreases-loop-top : goal.decreases-loop-top
decreases-loop-top l = length l.rest
