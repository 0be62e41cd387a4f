use Rattle.std.proofs.Common.{◌≡◌, ◌++◌, flat_map}
use Rattle.std.specs.Prelude.{codes}
use Rattle.std.specs.List.{range_with_len}
use Rattle.spf_gen.specs.Generated.{include_text}
use Rattle.spf_gen.proofs.zone.write_includes.Given as goal

-- the includes so far stand there
abbrev pub invariant-loop-place : goal.invariant-loop-place
invariant-loop-place l =
    l.text ≡ codes "v=spf1" ++ flat_map include_text (range_with_len 0 l.place)
