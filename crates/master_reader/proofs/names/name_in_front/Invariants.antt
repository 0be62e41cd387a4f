use Rattle.std.proofs.Common.{◌≡◌, map}
use Rattle.dns_name.specs.Name.{lowercase_label}
use Rattle.master_reader.specs.Tokens.{bytes_in}
use Rattle.master_reader.proofs.names.name_in_front.Given as goal

abbrev pub invariant-loop-part : goal.invariant-loop-part
invariant-loop-part l = l.name ≡ map lowercase_label (map bytes_in (map (λ x. x.now) l.yielded))
