use Rattle.std.proofs.Common.{◌≡◌, ◌++◌, take, map}
use Rattle.std.specs.Char.{to_ascii_lowercase}
use Rattle.dns_name.proofs.label.append_lowercase.Given as goal

abbrev pub invariant-loop-octet : goal.invariant-loop-octet
invariant-loop-octet l = l.wire.items ≡ l.initial.wire.items ++ map to_ascii_lowercase (take l.octet-index l.octets)
