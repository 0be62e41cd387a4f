use Rattle.std.proofs.Common.{◌≤◌, ◌<◌, Bor, List, ℕ, map, length, ap, sym, ◌∙◌, subst}
use Rattle.std.specs.Prelude.{filter_map}
use Rattle.std.proofs.lemmas.List.{length-map}
use Rattle.dns_name.specs.declared.name.Name.{Name}
use Rattle.master_reader.specs.declared.record.Body.{Body}
use Rattle.spf_model.specs.Run.{says}
use Rattle.spf_model.specs.Judging.{exchange_of}
use Rattle.spf_model.specs.Leads.{site_of}
use Rattle.spf_model.proofs.Gathering.{few_enough, too_many}
use Rattle.spf_model.proofs.context.RecordContext.gather_exchanges.Goals as goal

pub returns-then-hosts-self : goal.returns-then-hosts-self
returns-then-hosts-self c = λ a.
    let e = ap (map (λ (name : Bor Name). name.now)) c.as_slice-hosts.ensures.value ∙ c.in_ok-exchanges.ensures ∙ ap (λ (bodies : List Body). filter_map exchange_of bodies) c.bodies.ensures in
    let n = sym (length-map c.as_slice-hosts.result.now (λ (name : Bor Name). name.now)) ∙ ap length e in
    too_many (says c.args.self.now.zones.now a) (site_of c.args.self.now) c.args.term c.args.found.now c.error.result c.args.asked.now c.error.ensures
    (subst (λ (k : ℕ). c.args.self.now.limits.exchanges < k) n c.if-hosts-self.true)

pub returns : goal.returns
returns c = λ a.
    let e = ap (map (λ (name : Bor Name). name.now)) c.as_slice-hosts.ensures.value ∙ c.in_ok-exchanges.ensures ∙ ap (λ (bodies : List Body). filter_map exchange_of bodies) c.bodies.ensures in
    let n = sym (length-map c.as_slice-hosts.result.now (λ (name : Bor Name). name.now)) ∙ ap length e in
    few_enough (says c.args.self.now.zones.now a) (site_of c.args.self.now) c.args.term c.args.found.now c.gather_hosts.result c.args.asked.now c.gather_hosts.new.asked
    (subst (λ (k : ℕ). k ≤ c.args.self.now.limits.exchanges) n c.if-hosts-self.false)
    (rw (e, c.is_void.ensures, c.of_addresses-kind.ensures) at c.gather_hosts.ensures a)
