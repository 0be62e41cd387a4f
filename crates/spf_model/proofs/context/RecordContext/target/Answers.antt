use Rattle.std.proofs.Common.{Some}
use Rattle.std.proofs.lemmas.Result.{err_from_is_err_and}
use Rattle.spf_model.specs.declared.outcome.Cause.TheVariants as cause
use Rattle.spf_model.specs.declared.outcome.Outcome.TheVariants.{Perm}
use Rattle.spf_model.specs.Run.{says}
use Rattle.spf_model.specs.Judging.{at}
use Rattle.spf_model.specs.Leads.{site_of}
use Rattle.spf_model.proofs.Asking.{untold, named, unnamed}
use Rattle.spf_model.proofs.context.RecordContext.target.Goals as goal

pub returns-in_err-text : goal.returns-in_err-text
returns-in_err-text c = λ asked a.
    let p = err_from_is_err_and c.from_residual.result c.from_residual.ensures.1 in
    rw (p.1, p.2)
    (untold (says c.args.self.now.zones.now a) (site_of c.args.self.now) c.args.term (Some c.args.spec.now)
    (Perm cause.Missing (at (site_of c.args.self.now) c.args.term)) (λ text name. (text, name)) c.in_err-text.field-0.0 asked (c.in_err-text.ensures asked a))

pub returns-in-Some : goal.returns-in-Some
returns-in-Some c = λ asked a.
    named (says c.args.self.now.zones.now a) (site_of c.args.self.now) c.args.term (Some c.args.spec.now)
    (Perm cause.Missing (at (site_of c.args.self.now) c.args.term)) (λ text name. (text, name)) c.in_ok-text.text c.in-Some.name asked
    (c.in_ok-text.ensures asked a) (rw c.as_slice.ensures at c.in-Some.ensures)

pub returns-in-None : goal.returns-in-None
returns-in-None c = λ asked a.
    unnamed (says c.args.self.now.zones.now a) (site_of c.args.self.now) c.args.term (Some c.args.spec.now)
    (Perm cause.Missing (at (site_of c.args.self.now) c.args.term)) (λ text name. (text, name)) c.in_ok-text.text c.error.result asked tt
    (c.in_ok-text.ensures asked a) (rw c.as_slice.ensures at c.in-None.ensures) c.error.ensures
