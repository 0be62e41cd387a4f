use Rattle.std.proofs.Common.{ap, sym, ◌∙◌, length, eqb-true}
use Rattle.std.proofs.lemmas.Bool.{eqb-false}
use Rattle.std.proofs.lemmas.List.{nil_from_length}
use Rattle.cert_checker.proofs.LinkLemmas.{last_linked, more_linked, not_linked}
use Rattle.cert_checker.proofs.links.+read_links.Goals as goal

pub returns-then-not-branch : goal.returns-then-not-branch
returns-then-not-branch t c =
    not_linked c.args.records.now c.in-Some.behind.now c.in-Some.first.now c.args.list.now c.read_link.new.list (assumption c.in-Some.ensures)
    (rw (c.if-not-branch.true, c.first_owner.ensures) at c.in_ok-read_link.ensures)

pub returns-then-is_empty : goal.returns-then-is_empty
returns-then-is_empty t c =
    last_linked c.args.records.now c.in-Some.behind.now c.in-Some.first.now c.args.list.now c.read_link.new.list (assumption c.in-Some.ensures)
    (nil_from_length _ (eqb-true _ 0 (sym c.is_empty.ensures ∙ c.if-is_empty.true)))
    (rw (c.if-not-branch.false, c.first_owner.ensures) at c.in_ok-read_link.ensures)

pub returns : goal.returns
returns t c =
    more_linked c.args.records.now c.in-Some.behind.now c.in-Some.first.now c.args.list.now c.read_link.new.list c.read_links.new.list c.read_links.result (assumption c.in-Some.ensures)
    (λ none. eqb-false _ 0 (sym c.is_empty.ensures ∙ c.if-is_empty.false) (ap length none))
    (rw (c.if-not-branch.false, c.first_owner.ensures) at c.in_ok-read_link.ensures) c.read_links.ensures
