use Rattle.std.proofs.Common.{◌≡◌, ◌++◌, flat_map}
use Rattle.std.specs.List.{range_with_len}
use Rattle.spf_gen.specs.Generated.{record_line}
use Rattle.spf_gen.proofs.Lines.{head_line}
use Rattle.spf_gen.proofs.zone.generate.Given as goal

-- the lines so far stand there
abbrev pub invariant-loop-place : goal.invariant-loop-place
invariant-loop-place l = l.zone ≡ head_line ++ flat_map (record_line l.start l.networks) (range_with_len 0 l.place)
