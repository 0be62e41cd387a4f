use Rattle.spf_model.specs.Leads.{site_of}
use Rattle.spf_model.proofs.Parts.{counted_full}
use Rattle.spf_model.proofs.frame.Frame.count_lookup.Goals as goal

pub returns-then-counts-self-clause-counted : goal.returns-then-counts-self-clause-counted
returns-then-counts-self-clause-counted c =
    counted_full _ (site_of c.args.self.now.context) c.args.term c.args.counts.now c.error.result c.error.ensures c.if-counts-self.true
