use Rattle.std.proofs.Common.{◌≡◌, None, map}
use Rattle.dns_name.specs.Name.{first_fault}
use Rattle.dns_name.proofs.label.check_labels.Given as goal

abbrev pub invariant-loop-label : goal.invariant-loop-label
invariant-loop-label l = first_fault (map (λ x. x.now) l.yielded) ≡ None
