use Rattle.std.proofs.Common.{◌∷◌, [], false, option_map}
use Rattle.std.proofs.lemmas.Result.{err_from_is_err_and}
use Rattle.spf_model.specs.Run.{says}
use Rattle.spf_model.specs.Judging.{gather_hosts, naming}
use Rattle.spf_model.specs.Leads.{site_of}
use Rattle.spf_model.proofs.Asking.{settles_first, settles_next}
use Rattle.spf_model.proofs.context.RecordContext.gather_target.Goals as goal

pub returns-in_err-name : goal.returns-in_err-name
returns-in_err-name c = λ a.
    let p = err_from_is_err_and c.from_residual.result c.from_residual.ensures.1 in
    rw (p.1, p.2)
    (settles_first (says c.args.self.now.zones.now a) c.args.asked.now c.args.asked.now (naming (site_of c.args.self.now) c.args.term (option_map (λ s. s.now) c.args.spec))
    (λ name. gather_hosts (site_of c.args.self.now) c.args.term c.args.kind false (name ∷ [])) c.in_err-name.field-0.0 (c.in_err-name.ensures c.args.asked.now a))

pub returns : goal.returns
returns c = λ a.
    settles_next (says c.args.self.now.zones.now a) c.args.asked.now c.args.asked.now c.gather_hosts.new.asked (naming (site_of c.args.self.now) c.args.term (option_map (λ s. s.now) c.args.spec))
    (λ name. gather_hosts (site_of c.args.self.now) c.args.term c.args.kind false (name ∷ [])) c.in_ok-name.name c.gather_hosts.result
    (c.in_ok-name.ensures c.args.asked.now a) (c.gather_hosts.ensures a)
