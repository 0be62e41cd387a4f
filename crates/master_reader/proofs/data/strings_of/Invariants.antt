use Rattle.std.proofs.Common.{◌≡◌, take, map}
use Rattle.master_reader.specs.Tokens.{bytes_of}
use Rattle.master_reader.proofs.data.strings_of.Given as goal

abbrev pub invariant-loop-token : goal.invariant-loop-token
invariant-loop-token l = l.text ≡ map bytes_of (take l.token-index l.content)
