use Rattle.std.proofs.Common.{◌≡◌, true, false, ap, sym, ◌∙◌}
use Rattle.dns_name.specs.Wire.{labels_in}
use Rattle.dns_name.specs.Name.{is_under}
use Rattle.dns_name.proofs.Names.{under_itself, root_under, parent_under, under_iff, not_at, at}
use Rattle.dns_name.proofs.name.Name.under.Goals as goal

none : (c : goal.In_default) → is_under c.args.self.now c.args.other.now ≡ false
none c =
    let ne = not_at c.loop-top.rest.now c.as_slice-top.result.now c.args.other.now c.loop-top.invariant.wire c.loop-top.invariant.top (sym c.ne.ensures ∙ c.loop-top-test.true) in
    c.loop-top.invariant.same ∙ ap (λ l. is_under l c.args.other.now) c.in_default.ensures ∙ root_under c.args.other.now (λ e. ne (c.in_default.ensures ∙ e))

pub returns-in_default-clause-test : goal.returns-in_default-clause-test
returns-in_default-clause-test c = sym (none c)

pub returns-in_default-clause-under : goal.returns-in_default-clause-under
returns-in_default-clause-under c = under_iff false c.args.self.now c.args.other.now (sym (none c))

pub loop-top-preserved : goal.loop-top-preserved
loop-top-preserved c =
    let ne = not_at c.loop-top.rest.now c.as_slice-top.result.now c.args.other.now c.loop-top.invariant.wire c.loop-top.invariant.top (sym c.ne.ensures ∙ c.loop-top-test.true) in
    let is = c.in-Some.ensures.0 in
    record {
      wire = c.in-Some.ensures.1;
      top = c.loop-top.invariant.top;
      same = c.loop-top.invariant.same ∙ ap (λ l. is_under l c.args.other.now) is ∙ parent_under c.in-Some.field-0-0.now (labels_in c.in-Some.behind.now) c.args.other.now (λ e. ne (is ∙ e));
    }

found : (c : goal.After-loop-top) → is_under c.args.self.now c.args.other.now ≡ true
found c =
    let same = at c.loop-top.rest.now c.as_slice-top.result.now (sym c.ne.ensures ∙ c.loop-top-test.false) in
    c.loop-top.invariant.same ∙ under_itself (labels_in c.loop-top.rest.now) c.args.other.now (ap labels_in (same ∙ c.as_slice-top.ensures.value) ∙ c.other.view_is)

pub returns-clause-test : goal.returns-clause-test
returns-clause-test c = sym (found c)

pub returns-clause-under : goal.returns-clause-under
returns-clause-under c = under_iff true c.args.self.now c.args.other.now (sym (found c))
