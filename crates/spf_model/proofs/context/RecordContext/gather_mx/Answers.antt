use Rattle.std.proofs.Common.{option_map, Err}
use Rattle.std.proofs.lemmas.Result.{err_from_is_err_and}
use Rattle.zone_answers.specs.declared.answer.QKind.TheVariants as kind
use Rattle.spf_model.specs.Run.{says}
use Rattle.spf_model.specs.Judging.{question_of, gather_exchanges, naming}
use Rattle.spf_model.specs.Leads.{site_of}
use Rattle.spf_model.proofs.Asking.{ask_part, settles_first, settles_next}
use Rattle.spf_model.proofs.Gathering.{mx_part}
use Rattle.spf_model.proofs.context.RecordContext.gather_mx.Goals as goal

pub returns-in_err-name : goal.returns-in_err-name
returns-in_err-name c = λ a.
    let p = err_from_is_err_and c.from_residual.result c.from_residual.ensures.1 in
    rw (p.1, p.2)
    (settles_first (says c.args.self.now.zones.now a) c.args.asked.now c.args.asked.now (naming (site_of c.args.self.now) c.args.term (option_map (λ s. s.now) c.args.spec))
    (mx_part (site_of c.args.self.now) c.args.term) c.in_err-name.field-0.0 (c.in_err-name.ensures c.args.asked.now a))

pub returns-in_err-found : goal.returns-in_err-found
returns-in_err-found c = λ a.
    let p = err_from_is_err_and c.from_residual-in_err-found.result c.from_residual-in_err-found.ensures.1 in
    rw (p.1, p.2)
    (settles_next (says c.args.self.now.zones.now a) c.args.asked.now c.args.asked.now c.ask.new.asked (naming (site_of c.args.self.now) c.args.term (option_map (λ s. s.now) c.args.spec))
    (mx_part (site_of c.args.self.now) c.args.term) c.in_ok-name.name (Err c.in_err-found.field-0.0) (c.in_ok-name.ensures c.args.asked.now a)
    (settles_first (says c.args.self.now.zones.now a) c.args.asked.now c.ask.new.asked (ask_part (site_of c.args.self.now) c.args.term (question_of kind.Mx c.in_ok-name.name))
    (gather_exchanges (site_of c.args.self.now) c.args.term) c.in_err-found.field-0.0 (c.in_err-found.ensures a)))

pub returns : goal.returns
returns c = λ a.
    settles_next (says c.args.self.now.zones.now a) c.args.asked.now c.args.asked.now c.gather_exchanges.new.asked (naming (site_of c.args.self.now) c.args.term (option_map (λ s. s.now) c.args.spec))
    (mx_part (site_of c.args.self.now) c.args.term) c.in_ok-name.name c.gather_exchanges.result (c.in_ok-name.ensures c.args.asked.now a)
    (settles_next (says c.args.self.now.zones.now a) c.args.asked.now c.ask.new.asked c.gather_exchanges.new.asked (ask_part (site_of c.args.self.now) c.args.term (question_of kind.Mx c.in_ok-name.name))
    (gather_exchanges (site_of c.args.self.now) c.args.term) c.in_ok-found.found c.gather_exchanges.result (c.in_ok-found.ensures a) (c.gather_exchanges.ensures a))
