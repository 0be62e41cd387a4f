use Rattle.std.proofs.Common.{◌≡◌, ◌+◌, length}
use Rattle.dns_name.specs.Wire.{labels_in}
use Rattle.dns_name.specs.Name.{IsWire}
use Rattle.dns_name.proofs.name.Name.label_count.Given as goal

abbrev pub invariant-loop-behind : goal.invariant-loop-behind
invariant-loop-behind l = record {
  wire : IsWire l.rest;
  counted : l.count + length (labels_in l.rest) ≡ length l.self;
}

abbrev pub decreases-loop-behind : goal.decreases-loop-behind
decreases-loop-behind l = length l.rest
