use Rattle.spf_model.specs.Run.{says}
use Rattle.spf_model.specs.Judging.{gather_mx, gather_target}
use Rattle.spf_model.specs.Leads.{site_of}
use Rattle.zone_answers.specs.Answers.{kind_in}
use Rattle.spf_model.proofs.Asking.{commons}
use Rattle.spf_model.proofs.context.RecordContext.gather.Goals as goal

pub returns-in-A-clause-gathered : goal.returns-in-A-clause-gathered
returns-in-A-clause-gathered c = λ a.
    let told = rw (c.as_ref.ensures.value, c.of_addresses-kind.ensures) at c.gather_target.ensures in
    rw (c.in-A.is, c.in_common.ensures)
    (commons (says c.args.self.now.zones.now a) c.args.asked.now c.gather_target.new.asked (gather_target (site_of c.args.self.now) c.args.term (kind_in c.args.self.now.family) c.in-A.spec) c.gather_target.result (told a))

pub returns-in-Mx-clause-gathered : goal.returns-in-Mx-clause-gathered
returns-in-Mx-clause-gathered c = λ a.
    let told = rw c.as_ref-in-Mx.ensures.value at c.gather_mx.ensures in
    rw (c.in-Mx.is, c.in_common-in-Mx.ensures)
    (commons (says c.args.self.now.zones.now a) c.args.asked.now c.gather_mx.new.asked (gather_mx (site_of c.args.self.now) c.args.term c.in-Mx.spec) c.gather_mx.result (told a))

pub returns-in-Exists-clause-gathered : goal.returns-in-Exists-clause-gathered
returns-in-Exists-clause-gathered c = rw c.in-Exists.is c.gather_exists.ensures.gathered

pub returns-in-Exists-clause-fit : goal.returns-in-Exists-clause-fit
returns-in-Exists-clause-fit c = rw c.in-Exists.is c.gather_exists.ensures.fit
