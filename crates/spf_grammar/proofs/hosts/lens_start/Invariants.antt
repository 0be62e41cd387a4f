use Rattle.std.proofs.Common.{take}
use Rattle.spf_grammar.proofs.HostCuts.{StartsAt}
use Rattle.spf_grammar.proofs.hosts.lens_start.Given as goal

abbrev pub invariant-loop-i : goal.invariant-loop-i
invariant-loop-i l = StartsAt (take l.i l.text) l.start
