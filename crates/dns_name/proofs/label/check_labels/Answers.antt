use Rattle.std.proofs.Common.{◌∷◌, [], map, ap, sym, ◌∙◌, rules, tests}
use Rattle.std.proofs.lemmas.Result.{err_from_is_err_and}
use Rattle.std.proofs.lemmas.List.{map-append}
use Rattle.dns_name.specs.Name.{is_dot, first_fault}
use Rattle.dns_name.proofs.Names.{first_fault-push, first_fault-at}
use Rattle.dns_name.proofs.Splits.{split_turn, split_end}
use Rattle.dns_name.proofs.label.check_labels.Goals as goal

pub loop-label-preserved : goal.loop-label-preserved
loop-label-preserved c =
    ap first_fault (map-append (λ x. x.now) c.loop-label.yielded (c.in-Some.label ∷ []))
    ∙ first_fault-push (map (λ x. x.now) c.loop-label.yielded) c.in-Some.label.now c.loop-label.invariant ∙ c.in_ok-check_label.ensures

pub returns-in_err-check_label : goal.returns-in_err-check_label
returns-in_err-check_label c =
    let cut = split_turn _ is_dot c.args.text.now c.loop-label.yielded _ c.loop-label.yielded_by _ _ c.in-Some.label c.in-Some.is c.next.ensures.steps (cc) (cc) c.split-label-items.ensures.closure (λ x b q k. search (rules, tests)) in
    let p = err_from_is_err_and c.from_residual.result c.from_residual.ensures.1 in
    rw (p.1, p.2) (ap first_fault cut.1 ∙ first_fault-at (map (λ x. x.now) c.loop-label.yielded) c.in-Some.label.now cut.0 _ c.loop-label.invariant c.in_err-check_label.ensures)

pub returns : goal.returns
returns c =
    let cut = split_end _ is_dot c.args.text.now c.loop-label.yielded _ c.loop-label.yielded_by _ _ c.in-None.is c.next.ensures.steps (cc) (cc) c.split-label-items.ensures.closure (λ x b q k. search (rules, tests)) in
    ap first_fault (sym cut) ∙ c.loop-label.invariant
