use Rattle.std.proofs.Common.{rules, sym, subst}
use Rattle.cert_checker.specs.Reasons.{HasTable}
use Rattle.cert_checker.proofs.Certifying.{checked_fault, has_table}
use Rattle.cert_checker.proofs.certificate.judge_table.Goals as goal

pub returns-in_err-check_table-clause-fault : goal.returns-in_err-check_table-clause-fault
returns-in_err-check_table-clause-fault c =
    let fault = checked_fault c.args.bytes.now c.args.due.now c.args.list.now c.in_ok-table.table c.in_err-check_table.field-0.0 c.requires.same c.in_ok-table.ensures.table c.in_err-check_table.ensures in
    search (rules, fault)

pub returns-then-table-list-clause-fault : goal.returns-then-table-list-clause-fault
returns-then-table-list-clause-fault c = (
  c.in_ok-table.table.total,
  has_table c.args.bytes.now c.args.due.now c.args.list.now c.in_ok-table.table c.requires.same c.in_ok-table.ensures.table c.in_ok-check_table.ensures,
  λ e. c.if-table-list.true (sym e),
)

pub returns-clause-good : goal.returns-clause-good
returns-clause-good c =
    subst (HasTable c.args.bytes.now c.args.list.now) c.if-table-list.false
    (has_table c.args.bytes.now c.args.due.now c.args.list.now c.in_ok-table.table c.requires.same c.in_ok-table.ensures.table c.in_ok-check_table.ensures)
