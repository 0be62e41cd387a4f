use Rattle.std.proofs.Common.{◌≡◌, map, reverse}
use Rattle.dns_name.specs.Name.{IsName, lowercase_label}
use Rattle.dns_name.proofs.name.Name.from_labels.Given as goal

abbrev pub invariant-loop-label : goal.invariant-loop-label
invariant-loop-label l = record {
  made : l.name ≡ map lowercase_label (reverse (map (λ x. x.now) l.yielded));
  legal : IsName l.name;
}
