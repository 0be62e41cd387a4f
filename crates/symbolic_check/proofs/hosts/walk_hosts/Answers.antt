use Rattle.addr_bits.specs.Address.{address_of}
use Rattle.std.proofs.Common.{subst, sym}
use Rattle.spf_grammar.specs.declared.policy.Mechanism.{Mechanism}
use Rattle.spf_model.specs.declared.gathered.Hosts.TheVariants.{Common, Reversed}
use Rattle.symbolic_check.specs.Stretches.{own_stretch}
use Rattle.symbolic_check.specs.Walk.{Walks, says_at}
use Rattle.symbolic_check.proofs.Combining.{if_ok_by}
use Rattle.symbolic_check.proofs.Matching.{hosts_idle, hosts_stopped, hosts_walked}
use Rattle.symbolic_check.proofs.hosts.walk_hosts.Goals as goal

pub returns-then-not-is_some_live : goal.returns-then-not-is_some_live
returns-then-not-is_some_live g c =
    hosts_idle g.W.Width.BITS (says_at (address_of g.W.AddressFamily.family) c.args.context.now.zones.now) c.args.context.now (address_of g.W.AddressFamily.family) c.args.term c.args.verdict c.args.mechanism.now
    c.args.states c.in_ok-counted.counted c.args.asked.now (c.in_ok-counted.ensures c.args.asked.now) c.if-not-is_some_live.ensures

pub returns-in-Ok-Common : goal.returns-in-Ok-Common
returns-in-Ok-Common g c = if_ok_by _ c.match_gathered.result c.match_gathered.ensures
    (λ new judged.
    hosts_walked g.W.Width.BITS (says_at (address_of g.W.AddressFamily.family) c.args.context.now.zones.now) c.args.context.now (address_of g.W.AddressFamily.family) c.args.term c.args.verdict c.args.mechanism.now (Common c.in-Ok-Common.gathered)
    c.args.states c.in_ok-counted.counted new c.args.asked.now c.gather.new.asked c.gather.new.asked (c.in_ok-counted.ensures c.args.asked.now) c.if-not-is_some_live.ensures
    (λ a. rw c.in-Ok-Common.field-0-is at c.in-Ok-Common.ensures.gathered (address_of g.W.AddressFamily.family a)) (judged c.gather.new.asked))

pub returns-in-Err-Ended : goal.returns-in-Err-Ended
returns-in-Err-Ended g c = if_ok_by _ c.fail.result c.fail.ensures
    (λ new steps.
    let failed = rw c.in-Err-Ended.field-0-is at steps in
    hosts_stopped g.W.Width.BITS (says_at (address_of g.W.AddressFamily.family) c.args.context.now.zones.now) c.args.context.now (address_of g.W.AddressFamily.family) c.args.term c.args.verdict c.args.mechanism.now c.in-Err-Ended.outcome
    c.args.states c.in_ok-counted.counted new c.args.asked.now c.gather.new.asked (c.in_ok-counted.ensures c.args.asked.now) c.if-not-is_some_live.ensures
    (λ a. rw c.in-Err-Ended.field-0-is at c.in-Err-Ended.ensures.gathered (address_of g.W.AddressFamily.family a)) failed)

pub returns-in-Ok-Reversed : goal.returns-in-Ok-Reversed
returns-in-Ok-Reversed g c =
    let fit = rw c.in-Ok-Reversed.field-0-is at c.in-Ok-Reversed.ensures.fit in
    if_ok_by _ c.match_reversed.result c.match_reversed.ensures
    (λ new walked.
    hosts_walked g.W.Width.BITS (says_at (address_of g.W.AddressFamily.family) c.args.context.now.zones.now) c.args.context.now (address_of g.W.AddressFamily.family) c.args.term c.args.verdict c.args.mechanism.now (Reversed c.in-Ok-Reversed.suffix)
    c.args.states c.in_ok-counted.counted new c.args.asked.now c.gather.new.asked c.match_reversed.new.asked (c.in_ok-counted.ensures c.args.asked.now) c.if-not-is_some_live.ensures
    (λ a. rw c.in-Ok-Reversed.field-0-is at c.in-Ok-Reversed.ensures.gathered (address_of g.W.AddressFamily.family a))
    (subst (λ (m : Mechanism). Walks g.W.Width.BITS (says_at (address_of g.W.AddressFamily.family) c.args.context.now.zones.now) (own_stretch (address_of g.W.AddressFamily.family) c.args.context.now c.args.term c.args.verdict m (Reversed c.in-Ok-Reversed.suffix)) c.in_ok-counted.counted new c.gather.new.asked c.match_reversed.new.asked)
    (sym fit.1) (walked fit.0)))
