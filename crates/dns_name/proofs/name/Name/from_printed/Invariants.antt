use Rattle.std.proofs.Common.{◌≡◌, map, reverse}
use Rattle.dns_name.specs.Name.{IsName}
use Rattle.dns_name.proofs.Printing.{pieces}
use Rattle.dns_name.proofs.name.Name.from_printed.Given as goal

abbrev pub invariant-loop-part : goal.invariant-loop-part
invariant-loop-part l = record {
  read : reverse (map (λ x. x.now) l.yielded) ≡ pieces l.name;
  legal : IsName l.name;
}
