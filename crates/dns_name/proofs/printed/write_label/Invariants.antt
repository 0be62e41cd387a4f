use Rattle.std.proofs.Common.{◌≡◌, ◌≤◌, ◌+◌, ◌*◌, ◌++◌, take, flat_map, length}
use Rattle.dns_name.specs.Printed.{printed_byte}
use Rattle.dns_name.proofs.printed.write_label.Given as goal

abbrev pub invariant-loop-octet : goal.invariant-loop-octet
invariant-loop-octet l = record {
  printed : l.text.items ≡ l.initial.text.items ++ flat_map printed_byte (take l.octet-index l.label);
  bound : length l.text.items ≤ length l.initial.text.items + 4 * l.octet-index;
}
