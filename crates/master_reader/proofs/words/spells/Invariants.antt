use Rattle.std.proofs.Common.{◌≡◌, take}
use Rattle.std.specs.Str.{str_to_ascii_lowercase}
use Rattle.master_reader.specs.Tokens.{bytes_in}
use Rattle.master_reader.proofs.words.spells.Given as goal

abbrev pub invariant-loop-place : goal.invariant-loop-place
invariant-loop-place l = take l.place (str_to_ascii_lowercase (bytes_in l.units)) ≡ take l.place l.word
