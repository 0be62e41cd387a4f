use Rattle.std.proofs.Common.{refl}
use Rattle.zone_answers.specs.declared.answer.Answer.TheVariants as answer
use Rattle.spf_model.specs.declared.outcome.Cause.TheVariants as cause
use Rattle.spf_model.specs.declared.outcome.Outcome.TheVariants.{Temp, Unsettled}
use Rattle.spf_model.specs.Run.{says}
use Rattle.spf_model.specs.Judging.{at, question_of}
use Rattle.spf_model.specs.Leads.{site_of}
use Rattle.spf_model.proofs.Asking.{ask_told, ask_ended}
use Rattle.spf_model.proofs.context.RecordContext.ask.Goals as goal

pub returns-in-Outside : goal.returns-in-Outside
returns-in-Outside c = λ a.
    ask_ended (says c.args.self.now.zones.now a) (site_of c.args.self.now) c.args.term (question_of c.args.kind c.args.name.now) c.in_ok-answer.answer answer.Outside
    (Unsettled cause.Outside (at (site_of c.args.self.now) c.args.term)) c.open.result
    c.args.asked.now c.answer.new.asked tt (λ counts go. refl) c.in_ok-answer.ensures.noted (c.in_ok-answer.ensures.answer a) c.in-Outside.is c.open.ensures

pub returns-in-Loop : goal.returns-in-Loop
returns-in-Loop c = λ a.
    ask_ended (says c.args.self.now.zones.now a) (site_of c.args.self.now) c.args.term (question_of c.args.kind c.args.name.now) c.in_ok-answer.answer answer.Loop
    (Temp cause.Alias (at (site_of c.args.self.now) c.args.term)) c.astray.result
    c.args.asked.now c.answer.new.asked tt (λ counts go. refl) c.in_ok-answer.ensures.noted (c.in_ok-answer.ensures.answer a) c.in-Loop.is c.astray.ensures

pub returns-in_default : goal.returns-in_default
returns-in_default c = λ a.
    ask_told (says c.args.self.now.zones.now a) (site_of c.args.self.now) c.args.term (question_of c.args.kind c.args.name.now) c.in_ok-answer.answer
    c.args.asked.now c.answer.new.asked c.in_ok-answer.ensures.noted (c.in_ok-answer.ensures.answer a) c.in_default.not-Outside c.in_default.not-Loop
