use Rattle.std.proofs.Common.{Bor, map, drop, ◌+◌}
use Rattle.std.proofs.lemmas.Result.{err_from_is_err_and}
use Rattle.dns_name.specs.declared.name.Name.{Name}
use Rattle.spf_model.specs.Run.{says}
use Rattle.spf_model.specs.Leads.{site_of}
use Rattle.spf_model.proofs.Gathering.{begin, step, stops, all_asked, next, none_left}
use Rattle.spf_model.proofs.context.RecordContext.gather_hosts.Goals as goal

pub loop-host-init : goal.loop-host-init
loop-host-init c = λ a.
    rw c.new-answers.ensures
    (begin (says c.args.self.now.zones.now a) (site_of c.args.self.now) c.args.term c.args.kind c.args.void (map (λ (name : Bor Name). name.now) c.args.hosts.now) c.args.asked.now)

pub returns-in_err-answer : goal.returns-in_err-answer
returns-in_err-answer c = λ a.
    let p = err_from_is_err_and c.from_residual.result c.from_residual.ensures.1 in
    let h = rw (next (λ (name : Bor Name). name.now) c.args.hosts.now c.loop-host.host-index c.host-item.result c.loop-host-test.true c.host-item.is) at c.loop-host.invariant a in
    rw (p.1, p.2)
    (stops (says c.args.self.now.zones.now a) (site_of c.args.self.now) c.args.term c.args.kind c.args.void c.loop-host.answers
    (map (λ (name : Bor Name). name.now) c.args.hosts.now) (map (λ (name : Bor Name). name.now) (drop (c.loop-host.host-index + 1) c.args.hosts.now)) c.host-item.result.now c.in_err-answer.field-0.0
    c.args.asked.now c.loop-host.asked c.ask.new.asked h (c.in_err-answer.ensures a))

pub loop-host-preserved : goal.loop-host-preserved
loop-host-preserved c = λ a.
    let h = rw (next (λ (name : Bor Name). name.now) c.args.hosts.now c.loop-host.host-index c.host-item.result c.loop-host-test.true c.host-item.is) at c.loop-host.invariant a in
    rw c.in_ok-push.ensures.ok
    (step (says c.args.self.now.zones.now a) (site_of c.args.self.now) c.args.term c.args.kind c.args.void c.loop-host.answers
    (map (λ (name : Bor Name). name.now) c.args.hosts.now) (map (λ (name : Bor Name). name.now) (drop (c.loop-host.host-index + 1) c.args.hosts.now)) c.host-item.result.now c.in_ok-answer.answer
    c.args.asked.now c.loop-host.asked c.ask.new.asked h (c.in_ok-answer.ensures a))

pub returns : goal.returns
returns c = λ a.
    let h = rw (none_left (λ (name : Bor Name). name.now) c.args.hosts.now c.loop-host.host-index c.loop-host-test.false) at c.loop-host.invariant a in
    all_asked (says c.args.self.now.zones.now a) (site_of c.args.self.now) c.args.term c.args.kind c.args.void c.loop-host.answers
    (map (λ (name : Bor Name). name.now) c.args.hosts.now) c.args.asked.now c.loop-host.asked h
