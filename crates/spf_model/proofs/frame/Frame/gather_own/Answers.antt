use Rattle.std.proofs.Common.{[], ◌∷◌, ◌++◌, List, refl, sym, ap, ◌∙◌}
use Rattle.zone_answers.specs.declared.answer.Answer.{Answer}
use Rattle.zone_answers.specs.declared.answer.Answer.TheVariants as answer
use Rattle.zone_answers.specs.declared.class.Class.TheVariants.{Hit, Void, Beyond, Round}
use Rattle.master_reader.specs.declared.record.Body.{Body}
use Rattle.spf_model.specs.Judging.{at}
use Rattle.spf_model.specs.Leads.{site_of}
use Rattle.spf_model.specs.Run.{says}
use Rattle.spf_model.specs.declared.outcome.Cause.TheVariants as cause
use Rattle.spf_model.specs.declared.outcome.Outcome.TheVariants.{Temp, Unsettled}
use Rattle.spf_model.proofs.Saying.{class_told}
use Rattle.spf_model.proofs.Terms.{own_gathered, own_halts}
use Rattle.spf_model.proofs.frame.Frame.gather_own.Goals.{in-Void, in-Hit}
use Rattle.spf_model.proofs.frame.Frame.gather_own.Goals as goal

pub returns-in-Beyond : goal.returns-in-Beyond
returns-in-Beyond c = λ counts.
    own_halts (says c.args.self.now.context.zones.now c.args.self.now.address) (site_of c.args.self.now.context) c.args.term c.in-Reversed.name counts answer.Outside c.args.hosts (Unsettled cause.Outside (at (site_of c.args.self.now.context) c.args.term)) c.open.result c.in-Reversed.is
    (class_told c.args.self.now.context.zones.now c.in-Reversed.name c.args.self.now.context.family c.args.self.now.address c.in_ok-answer.answer Beyond c.requires.family c.in_ok-answer.ensures (sym c.in-Beyond.is ∙ c.of.ensures))
    tt (λ go. refl) c.open.ensures

pub returns-in-Round : goal.returns-in-Round
returns-in-Round c = λ counts.
    own_halts (says c.args.self.now.context.zones.now c.args.self.now.address) (site_of c.args.self.now.context) c.args.term c.in-Reversed.name counts answer.Loop c.args.hosts (Temp cause.Alias (at (site_of c.args.self.now.context) c.args.term)) c.astray.result c.in-Reversed.is
    (class_told c.args.self.now.context.zones.now c.in-Reversed.name c.args.self.now.context.family c.args.self.now.address c.in_ok-answer.answer Round c.requires.family c.in_ok-answer.ensures (sym c.in-Round.is ∙ c.of.ensures))
    tt (λ go. refl) c.astray.ensures

pub returns : goal.returns
returns c = λ counts.
    let pushed = c.in_ok-push.ensures.ok ∙ ap (λ (xs : List Answer). xs ++ c.match-of.heard ∷ []) c.new-answers.ensures in
    elim c.match-of.branch [
      | in-Void w ↦ own_gathered (says c.args.self.now.context.zones.now c.args.self.now.address) (site_of c.args.self.now.context) c.args.term c.in-Reversed.name counts answer.NoName c.args.hosts c.push.new.self c.in-Reversed.is (pushed ∙ ap (λ (x : Answer). x ∷ []) w.heard-is)
          (class_told c.args.self.now.context.zones.now c.in-Reversed.name c.args.self.now.context.family c.args.self.now.address c.in_ok-answer.answer Void c.requires.family c.in_ok-answer.ensures (sym w.in-Void.is ∙ c.of.ensures)) (λ go. refl)
      | in-Hit w ↦ own_gathered (says c.args.self.now.context.zones.now c.args.self.now.address) (site_of c.args.self.now.context) c.args.term c.in-Reversed.name counts (answer.Found []) c.args.hosts c.push.new.self c.in-Reversed.is
          (pushed ∙ ap (λ (x : Answer). x ∷ []) (w.heard-is ∙ ap (λ (bodies : List Body). answer.Found bodies) w.new.ensures))
          (class_told c.args.self.now.context.zones.now c.in-Reversed.name c.args.self.now.context.family c.args.self.now.address c.in_ok-answer.answer Hit c.requires.family c.in_ok-answer.ensures (sym w.in-Hit.is ∙ c.of.ensures)) (λ go. refl)
    ]
