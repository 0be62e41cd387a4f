use Rattle.spf_model.specs.Run.{says}
use Rattle.spf_model.specs.Leads.{site_of}
use Rattle.spf_model.proofs.Parts.{ptr_halts}
use Rattle.spf_model.proofs.frame.Frame.match_ptr.Goals as goal

pub returns-clause-judged : goal.returns-clause-judged
returns-clause-judged c = λ sub spec.
    ptr_halts (says c.args.self.now.context.zones.now c.args.self.now.address) (site_of c.args.self.now.context) c.args.self.now.address sub c.args.term spec c.args.counts.now c.count_lookup.new.counts c.open.result c.open.ensures c.in_ok-count_lookup.ensures.counted
