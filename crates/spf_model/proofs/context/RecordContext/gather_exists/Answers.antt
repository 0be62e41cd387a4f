use Rattle.std.proofs.Common.{◌≡◌, Err, None, Ok, Option, Some, subst, sym, ◌∙◌}
use Rattle.std.proofs.lemmas.Result.{err_from_is_err_and}
use Rattle.zone_answers.specs.declared.answer.QKind.TheVariants as kind
use Rattle.spf_macros.specs.declared.expansion.Expanded.{Expanded}
use Rattle.spf_macros.specs.Reversed.{reverse_suffix}
use Rattle.spf_model.specs.Run.{says}
use Rattle.spf_model.specs.Judging.{gather_exists, gather_target, naming_suffix}
use Rattle.spf_model.specs.Leads.{common_of, site_of}
use Rattle.spf_model.specs.Settling.{Settles}
use Rattle.spf_model.specs.declared.gathered.Hosts.TheVariants.{Reversed}
use Rattle.spf_model.proofs.Asking.{commons, halts_handing, hands}
use Rattle.spf_model.proofs.context.RecordContext.gather_exists.Goals as goal

pub returns-clause-gathered : goal.returns-clause-gathered
returns-clause-gathered c = λ a.
    let none : reverse_suffix c.args.self.now.family c.args.self.now.domain.now c.args.spec.now ≡ None = sym c.in_ok-suffix.ensures ∙ c.in_default.is in
    rw c.in_common.ensures
    (subst (λ (suffix : Option Expanded). Settles (says c.args.self.now.zones.now a) (gather_exists (site_of c.args.self.now) c.args.term c.args.spec.now suffix) c.args.asked.now c.gather_target.new.asked (common_of c.gather_target.result)) (sym none)
    (commons (says c.args.self.now.zones.now a) c.args.asked.now c.gather_target.new.asked (gather_target (site_of c.args.self.now) c.args.term kind.A (Some c.args.spec.now)) c.gather_target.result (c.gather_target.ensures a)))

pub returns-in_err-name-clause-gathered : goal.returns-in_err-name-clause-gathered
returns-in_err-name-clause-gathered c = λ a.
    let p = err_from_is_err_and c.from_residual-in_err-name.result c.from_residual-in_err-name.ensures.1 in
    let some : reverse_suffix c.args.self.now.family c.args.self.now.domain.now c.args.spec.now ≡ Some c.in-Some.suffix = sym c.in_ok-suffix.ensures ∙ c.in-Some.is in
    rw (p.1, p.2)
    (subst (λ (suffix : Option Expanded). Settles (says c.args.self.now.zones.now a) (gather_exists (site_of c.args.self.now) c.args.term c.args.spec.now suffix) c.args.asked.now c.args.asked.now (Err c.in_err-name.field-0.0)) (sym some)
    (halts_handing (says c.args.self.now.zones.now a) c.args.asked.now c.args.asked.now (naming_suffix (site_of c.args.self.now) c.args.term c.in-Some.suffix) Reversed c.in_err-name.field-0.0 (c.in_err-name.ensures.named c.args.asked.now a)))

pub returns-in-Some-clause-gathered : goal.returns-in-Some-clause-gathered
returns-in-Some-clause-gathered c = λ a.
    let some : reverse_suffix c.args.self.now.family c.args.self.now.domain.now c.args.spec.now ≡ Some c.in-Some.suffix = sym c.in_ok-suffix.ensures ∙ c.in-Some.is in
    subst (λ (suffix : Option Expanded). Settles (says c.args.self.now.zones.now a) (gather_exists (site_of c.args.self.now) c.args.term c.args.spec.now suffix) c.args.asked.now c.args.asked.now (Ok (Reversed c.in_ok-name.name))) (sym some)
    (hands (says c.args.self.now.zones.now a) c.args.asked.now c.args.asked.now (naming_suffix (site_of c.args.self.now) c.args.term c.in-Some.suffix) Reversed c.in_ok-name.name (c.in_ok-name.ensures.named c.args.asked.now a))
