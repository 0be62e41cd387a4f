use Rattle.std.proofs.Common.{ℕ, List, subst, arith, take_all}
use Rattle.spf_grammar.proofs.HostCuts.{StartsAt, next_place, starts_at_nothing}
use Rattle.spf_grammar.proofs.hosts.lens_start.Goals as goal

pub loop-i-init : goal.loop-i-init
loop-i-init c = starts_at_nothing

pub loop-i-preserved : goal.loop-i-preserved
loop-i-preserved c = next_place c.args.text.now c.loop-i.i c.loop-i.start c.next_start-start.result c.loop-i-test.true c.loop-i.invariant c.next_start-start.ensures

pub returns : goal.returns
unfolding StartsAt
returns c = subst (λ (t : List ℕ). StartsAt t c.loop-i.start) (take_all c.loop-i.i c.args.text.now (omega arith)) c.loop-i.invariant
