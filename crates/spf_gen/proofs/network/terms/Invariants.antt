use Rattle.std.proofs.Common.{◌≡◌}
use Rattle.spf_gen.specs.Draws.{draw}
use Rattle.spf_gen.specs.Networks.{networks_in}
use Rattle.spf_gen.proofs.network.terms.Given as goal

-- the networks so far stand there, and the last draw is the one of the last of them
abbrev pub invariant-loop-index : goal.invariant-loop-index
invariant-loop-index l = record {
  drawn : l.drawn ≡ draw l.fn.start l.index;
  terms : l.terms ≡ networks_in l.fn.start l.index l.place;
}
