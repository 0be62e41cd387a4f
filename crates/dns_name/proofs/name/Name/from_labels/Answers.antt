use Rattle.std.proofs.Common.{ap, ◌∙◌, reverse, map, rules, tests}
use Rattle.std.proofs.lemmas.Result.{err_from_is_err_and}
use Rattle.std.specs.List.{slice_split}
use Rattle.dns_name.specs.Name.{is_dot, lowercase_label}
use Rattle.dns_name.proofs.Names.{labels_fail, labels_made}
use Rattle.dns_name.proofs.Splits.{rsplit_turn, rsplit_end}
use Rattle.dns_name.proofs.name.Name.from_labels.Goals as goal

pub returns-in_err-name : goal.returns-in_err-name
returns-in_err-name c =
    let cut = rsplit_turn _ is_dot c.args.text.now c.loop-label.yielded _ c.loop-label.yielded_by _ _ c.in-Some.label c.in-Some.is c.next.ensures.steps (cc) (cc) c.rsplit-label-items.ensures.closure (λ x b q k. search (rules, tests)) in
    let p = err_from_is_err_and c.from_residual.result c.from_residual.ensures.1 in
    rw (p.1, p.2)
    (labels_fail (slice_split is_dot c.args.text.now) cut.0 c.in-Some.label.now (reverse (map (λ x. x.now) c.loop-label.yielded)) c.loop-label.name c.in_err-name.field-0.0 c.requires cut.1 c.loop-label.invariant.made c.in_err-name.ensures.answer)

pub returns : goal.returns
returns c =
    let cut = rsplit_end _ is_dot c.args.text.now c.loop-label.yielded _ c.loop-label.yielded_by _ _ c.in-None.is c.next.ensures.steps (cc) (cc) c.rsplit-label-items.ensures.closure (λ x b q k. search (rules, tests)) in
    labels_made (slice_split is_dot c.args.text.now) c.loop-label.name c.requires (c.loop-label.invariant.made ∙ ap (map lowercase_label) cut) c.loop-label.invariant.legal
