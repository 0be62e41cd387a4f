use Rattle.spf_model.specs.Run.{says}
use Rattle.spf_model.proofs.Records.{policy_fits}
use Rattle.spf_model.proofs.Finding.{text_read, text_unread}
use Rattle.spf_model.proofs.context.RecordContext.read_record.Goals as goal

pub returns-in-Some-clause-read : goal.returns-in-Some-clause-read
returns-in-Some-clause-read c = λ asked a.
    text_read (says c.args.self.now.zones.now a) c.args.self.now.name.now c.args.text.now c.in_ok-policy.field-0 c.in-Some.policy asked c.in_ok-policy.ensures c.in-Some.is

pub returns-in-Some-clause-fit : goal.returns-in-Some-clause-fit
returns-in-Some-clause-fit c = policy_fits c.args.text.now c.in_ok-policy.field-0 c.in-Some.policy c.in-Some.is c.in_ok-policy.ensures

pub returns-in-None-clause-read : goal.returns-in-None-clause-read
returns-in-None-clause-read c = λ asked a.
    text_unread (says c.args.self.now.zones.now a) c.args.self.now.name.now c.args.text.now c.in_ok-policy.field-0 c.error.result asked c.in_ok-policy.ensures c.in-None.is c.error.ensures
