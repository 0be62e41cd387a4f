use Rattle.std.proofs.Common.{refl, arith}
use Rattle.zone_answers.specs.declared.answer.Answer.TheVariants as answer
use Rattle.spf_model.specs.declared.outcome.Cause.TheVariants as cause
use Rattle.spf_model.specs.declared.outcome.Outcome.TheVariants.{Temp, Unsettled}
use Rattle.spf_model.specs.Run.{says}
use Rattle.spf_model.proofs.Finding.{few_labels, found_ended, found_nothing, found_bodies}
use Rattle.spf_model.proofs.context.RecordContext.find_record.Goals as goal

pub returns-then-label_count-lt2-clause-found : goal.returns-then-label_count-lt2-clause-found
returns-then-label_count-lt2-clause-found c = λ a.
    few_labels (says c.args.self.now.zones.now a) c.args.self.now.name.now c.nothing.result c.args.asked.now (omega (arith, c.label_count.ensures.labels, c.if-label_count-lt2.true)) c.nothing.ensures

pub returns-in-Outside-clause-found : goal.returns-in-Outside-clause-found
returns-in-Outside-clause-found c = λ a.
    found_ended (says c.args.self.now.zones.now a) c.args.self.now.name.now c.in_ok-answer.field-0 answer.Outside
    (Unsettled cause.Outside (record { name = c.args.self.now.name.now; term = 0 })) c.open.result c.args.asked.now c.answer.new.asked
    (record { many = omega (arith, c.label_count.ensures.labels, c.if-label_count-lt2.false); noted = c.in_ok-answer.ensures.noted; answer = c.in_ok-answer.ensures.answer a }) tt (λ counts go. refl)
    c.in-Outside.is c.open.ensures

pub returns-in-Loop-clause-found : goal.returns-in-Loop-clause-found
returns-in-Loop-clause-found c = λ a.
    found_ended (says c.args.self.now.zones.now a) c.args.self.now.name.now c.in_ok-answer.field-0 answer.Loop
    (Temp cause.Alias (record { name = c.args.self.now.name.now; term = 0 })) c.astray.result c.args.asked.now c.answer.new.asked
    (record { many = omega (arith, c.label_count.ensures.labels, c.if-label_count-lt2.false); noted = c.in_ok-answer.ensures.noted; answer = c.in_ok-answer.ensures.answer a }) tt (λ counts go. refl)
    c.in-Loop.is c.astray.ensures

pub returns-in-NoName-clause-found : goal.returns-in-NoName-clause-found
returns-in-NoName-clause-found c = λ a.
    found_nothing (says c.args.self.now.zones.now a) c.args.self.now.name.now c.in_ok-answer.field-0 c.nothing-in-NoName.result c.args.asked.now c.answer.new.asked
    (record { many = omega (arith, c.label_count.ensures.labels, c.if-label_count-lt2.false); noted = c.in_ok-answer.ensures.noted; answer = c.in_ok-answer.ensures.answer a })
    c.in-NoName.is c.nothing-in-NoName.ensures

pub returns-in-Found-clause-found : goal.returns-in-Found-clause-found
returns-in-Found-clause-found c = λ a.
    let chosen = rw c.as_slice.ensures at c.choose_record.ensures.chosen in
    found_bodies (says c.args.self.now.zones.now a) c.args.self.now.name.now c.in_ok-answer.field-0 (answer.Found c.in-Found.bodies) c.choose_record.result c.args.asked.now c.answer.new.asked
    (record { many = omega (arith, c.label_count.ensures.labels, c.if-label_count-lt2.false); noted = c.in_ok-answer.ensures.noted; answer = c.in_ok-answer.ensures.answer a })
    c.in-Found.is (chosen c.answer.new.asked a)
