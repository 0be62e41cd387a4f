use Rattle.std.proofs.Common.{◌≡◌, take}
use Rattle.master_reader.specs.Tokens.{bytes_in}
use Rattle.master_reader.proofs.words.bytes_of.Given as goal

abbrev pub invariant-loop-octet : goal.invariant-loop-octet
invariant-loop-octet l = l.bytes ≡ bytes_in (take l.octet-index l.octet-items)
