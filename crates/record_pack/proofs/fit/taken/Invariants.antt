use Rattle.std.proofs.Common.{◌≡◌, ◌+◌, length, take}
use Rattle.record_pack.specs.Records.{spaced}
use Rattle.record_pack.proofs.fit.taken.Given as goal

-- the terms so far take what is missing of the room
abbrev pub invariant-loop-place : goal.invariant-loop-place
invariant-loop-place l = l.left + length (spaced (take l.place l.terms)) ≡ l.fn.room
