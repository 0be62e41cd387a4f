use Rattle.std.proofs.Common.{ℕ, ◌<◌, ◌^◌, ◌++◌, List, length, take}
use Rattle.master_reader.specs.Progress.{kept_with}
use Rattle.master_reader.specs.Readers.{StandsFor}
use Rattle.master_reader.proofs.reader.Reader.feed.Given as goal

abbrev pub invariant-loop-byte : goal.invariant-loop-byte
invariant-loop-byte l =
    (zone : List (List ℕ)) (bytes : List ℕ) → StandsFor zone l.fn.self bytes → length (bytes ++ l.piece) < 2 ^ 64 → StandsFor zone (kept_with l.cutter l.progress) (bytes ++ take l.byte-index l.piece)
