use Rattle.std.proofs.Common.{ap, sym, ◌∙◌, reverse, map, rules, tests}
use Rattle.std.specs.Result.{is_ok}
use Rattle.dns_name.specs.Name.{is_dot, child_of}
use Rattle.dns_name.proofs.Printing.{no_label, no_child, name_read}
use Rattle.dns_name.proofs.Splits.{rsplit_turn, rsplit_end}
use Rattle.dns_name.proofs.name.Name.from_printed.Goals as goal

pub returns-in_err-label-clause-none : goal.returns-in_err-label-clause-none
returns-in_err-label-clause-none c =
    let cut = rsplit_turn _ is_dot c.args.text.now c.loop-part.yielded _ c.loop-part.yielded_by _ _ c.in-Some.part c.in-Some.is c.next.ensures.steps (cc) (cc) c.rsplit-part-items.ensures.closure (λ x b q k. search (rules, tests)) in
    rw c.from_residual.ensures
    (no_label c.args.text.now cut.0 c.in-Some.part.now (reverse (map (λ x. x.now) c.loop-part.yielded)) c.loop-part.name (sym c.is_root_text.ensures ∙ c.if-is_root_text.false) cut.1 c.loop-part.invariant.read c.loop-part.invariant.legal c.in_err-label.ensures)

pub returns-in_err-name-clause-none : goal.returns-in_err-name-clause-none
returns-in_err-name-clause-none c =
    let cut = rsplit_turn _ is_dot c.args.text.now c.loop-part.yielded _ c.loop-part.yielded_by _ _ c.in-Some.part c.in-Some.is c.next.ensures.steps (cc) (cc) c.rsplit-part-items.ensures.closure (λ x b q k. search (rules, tests)) in
    let fails = sym (ap is_ok (c.child.ensures.answer ∙ ap (λ l. child_of l c.loop-part.name) c.deref.ensures.0)) ∙ sym c.in_err-name.ensures.variant in
    rw c.from_residual-in_err-name.ensures
    (no_child c.args.text.now cut.0 c.in-Some.part.now (reverse (map (λ x. x.now) c.loop-part.yielded)) c.loop-part.name c.in_ok-label.label.items (sym c.is_root_text.ensures ∙ c.if-is_root_text.false) cut.1 c.loop-part.invariant.read c.loop-part.invariant.legal
    c.in_ok-label.ensures.0 c.in_ok-label.ensures.1 fails)

pub returns-clause-name : goal.returns-clause-name
returns-clause-name c =
    let cut = rsplit_end _ is_dot c.args.text.now c.loop-part.yielded _ c.loop-part.yielded_by _ _ c.in-None.is c.next.ensures.steps (cc) (cc) c.rsplit-part-items.ensures.closure (λ x b q k. search (rules, tests)) in
    name_read c.args.text.now (reverse (map (λ x. x.now) c.loop-part.yielded)) c.loop-part.name cut c.loop-part.invariant.read c.loop-part.invariant.legal
