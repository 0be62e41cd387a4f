use Rattle.std.proofs.Common.{◌≡◌, Bool, true, sym, subst, rules}
use Rattle.spf_model.specs.Run.{says}
use Rattle.spf_model.specs.Judging.{void_counted}
use Rattle.spf_model.specs.Leads.{site_of, Halts}
use Rattle.spf_model.proofs.Parts.{void_full}
use Rattle.spf_model.proofs.frame.Frame.count_void.Goals as goal

pub returns-then-counts-self-clause-counted : goal.returns-then-counts-self-clause-counted
returns-then-counts-self-clause-counted c =
    let e : c.args.void ≡ true = search rules in
    subst (λ (void : Bool). Halts (says c.args.self.now.context.zones.now c.args.self.now.address) (void_counted (site_of c.args.self.now.context) c.args.term void c.args.counts.now) c.error.result) (sym e)
    (void_full _ (site_of c.args.self.now.context) c.args.term c.args.counts.now c.error.result c.error.ensures c.if-counts-self.true)
