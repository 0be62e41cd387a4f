use Rattle.std.proofs.lemmas.Result.{err_from_is_err_and}
use Rattle.spf_model.specs.Run.{says}
use Rattle.spf_model.specs.Leads.{site_of}
use Rattle.spf_model.specs.Judging.{gather_common}
use Rattle.spf_model.proofs.Asking.{passed_on, stopped_on}
use Rattle.spf_model.proofs.Terms.{fit_short, uncommon, owns, owns_none, hosts_uncounted, hosts_ungathered, hosts_void, hosts_judged}
use Rattle.spf_model.proofs.frame.Frame.match_hosts.Goals as goal

pub returns-in_err-count_lookup-clause-judged : goal.returns-in_err-count_lookup-clause-judged
returns-in_err-count_lookup-clause-judged c =
    let p = err_from_is_err_and c.from_residual.result c.from_residual.ensures.1 in
    rw (p.1, p.2)
    (hosts_uncounted (says c.args.self.now.context.zones.now c.args.self.now.address) (site_of c.args.self.now.context) c.args.self.now.address c.args.term c.args.mechanism.now c.args.counts.now
    c.in_err-count_lookup.field-0.0 c.in_err-count_lookup.ensures.counted)

pub returns-in_err-hosts-clause-judged : goal.returns-in_err-hosts-clause-judged
returns-in_err-hosts-clause-judged c =
    let p = err_from_is_err_and c.from_residual-in_err-hosts.result c.from_residual-in_err-hosts.ensures.1 in
    rw (p.1, p.2)
    (hosts_ungathered (says c.args.self.now.context.zones.now c.args.self.now.address) (site_of c.args.self.now.context) c.args.self.now.address c.args.term c.args.mechanism.now c.args.counts.now c.count_lookup.new.counts
    c.in_err-hosts.field-0.0 c.in_ok-count_lookup.ensures.counted
    (uncommon (says c.args.self.now.context.zones.now c.args.self.now.address) (site_of c.args.self.now.context) c.args.term c.args.mechanism.now c.count_lookup.new.counts c.in_err-hosts.field-0.0
    (stopped_on (says c.args.self.now.context.zones.now c.args.self.now.address) c.new-asked.result c.gather.new.asked (gather_common (site_of c.args.self.now.context) c.args.term c.args.mechanism.now) c.in_err-hosts.field-0.0
    (c.in_err-hosts.ensures.gathered c.args.self.now.address) c.count_lookup.new.counts)))

pub returns-in_err-gathered-clause-judged : goal.returns-in_err-gathered-clause-judged
returns-in_err-gathered-clause-judged c =
    let p = err_from_is_err_and c.from_residual-in_err-gathered.result c.from_residual-in_err-gathered.ensures.1 in
    rw (p.1, p.2)
    (hosts_ungathered (says c.args.self.now.context.zones.now c.args.self.now.address) (site_of c.args.self.now.context) c.args.self.now.address c.args.term c.args.mechanism.now c.args.counts.now c.count_lookup.new.counts
    c.in_err-gathered.field-0.0 c.in_ok-count_lookup.ensures.counted
    (owns_none (says c.args.self.now.context.zones.now c.args.self.now.address) (site_of c.args.self.now.context) c.args.term c.args.mechanism.now c.count_lookup.new.counts c.in_ok-hosts.hosts c.in_err-gathered.field-0.0
    (passed_on (says c.args.self.now.context.zones.now c.args.self.now.address) c.new-asked.result c.gather.new.asked (gather_common (site_of c.args.self.now.context) c.args.term c.args.mechanism.now) c.in_ok-hosts.hosts (c.in_ok-hosts.ensures.gathered c.args.self.now.address) c.count_lookup.new.counts) (c.in_err-gathered.ensures c.count_lookup.new.counts)))

pub returns-in_err-count_void-clause-judged : goal.returns-in_err-count_void-clause-judged
returns-in_err-count_void-clause-judged c =
    let p = err_from_is_err_and c.from_residual-in_err-count_void.result c.from_residual-in_err-count_void.ensures.1 in
    rw (p.1, p.2)
    (hosts_void (says c.args.self.now.context.zones.now c.args.self.now.address) (site_of c.args.self.now.context) c.args.self.now.address c.args.term c.args.mechanism.now c.args.counts.now c.count_lookup.new.counts
    c.in_ok-gathered.gathered c.some_void.result c.in_err-count_void.field-0.0 c.in_ok-count_lookup.ensures.counted
    (owns (says c.args.self.now.context.zones.now c.args.self.now.address) (site_of c.args.self.now.context) c.args.term c.args.mechanism.now c.count_lookup.new.counts c.in_ok-hosts.hosts c.in_ok-gathered.gathered
    (passed_on (says c.args.self.now.context.zones.now c.args.self.now.address) c.new-asked.result c.gather.new.asked (gather_common (site_of c.args.self.now.context) c.args.term c.args.mechanism.now) c.in_ok-hosts.hosts (c.in_ok-hosts.ensures.gathered c.args.self.now.address) c.count_lookup.new.counts) (c.in_ok-gathered.ensures c.count_lookup.new.counts))
    c.some_void.ensures c.in_err-count_void.ensures.counted)

pub returns-clause-judged : goal.returns-clause-judged
returns-clause-judged c =
    hosts_judged (says c.args.self.now.context.zones.now c.args.self.now.address) (site_of c.args.self.now.context) c.args.self.now.address c.args.term c.args.mechanism.now c.args.counts.now c.count_lookup.new.counts c.count_void.new.counts
    c.in_ok-gathered.gathered c.some_void.result c.meets.result c.in_ok-count_lookup.ensures.counted
    (owns (says c.args.self.now.context.zones.now c.args.self.now.address) (site_of c.args.self.now.context) c.args.term c.args.mechanism.now c.count_lookup.new.counts c.in_ok-hosts.hosts c.in_ok-gathered.gathered
    (passed_on (says c.args.self.now.context.zones.now c.args.self.now.address) c.new-asked.result c.gather.new.asked (gather_common (site_of c.args.self.now.context) c.args.term c.args.mechanism.now) c.in_ok-hosts.hosts (c.in_ok-hosts.ensures.gathered c.args.self.now.address) c.count_lookup.new.counts) (c.in_ok-gathered.ensures c.count_lookup.new.counts))
    c.some_void.ensures c.in_ok-count_void.ensures.counted c.meets.ensures

pub gather_own-requires-clause-short : goal.gather_own-requires-clause-short
gather_own-requires-clause-short c = fit_short c.args.mechanism.now c.in_ok-hosts.hosts c.in_ok-hosts.ensures.fit
