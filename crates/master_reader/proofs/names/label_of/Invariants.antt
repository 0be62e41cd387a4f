use Rattle.std.proofs.Common.{◌≡◌, take}
use Rattle.master_reader.specs.Tokens.{bytes_in}
use Rattle.master_reader.proofs.names.label_of.Given as goal

abbrev pub invariant-loop-octet : goal.invariant-loop-octet
invariant-loop-octet l = l.label.items ≡ bytes_in (take l.octet-index l.units)
