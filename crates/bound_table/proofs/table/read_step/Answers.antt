use Rattle.std.proofs.Common.{Ok, sym, subst}
use Rattle.addr_bits.specs.declared.address.Family.TheVariants.{V4, V6}
use Rattle.bound_table.specs.Answers.{IsPushed}
use Rattle.bound_table.proofs.RowLemmas.{other_line, row4_line, row6_line}
use Rattle.bound_table.proofs.table.read_step.Goals as goal

pub returns-then-not-is_table_line : goal.returns-then-not-is_table_line
returns-then-not-is_table_line c = other_line c.args.line c.args.text.now c.args.rows4.now c.args.rows6.now (sym c.if-not-is_table_line.ensures)

pub returns-then-branch : goal.returns-then-branch
returns-then-branch c =
    let pushed = subst (λ b. IsPushed V4 c.args.line c.args.text.now c.args.rows4.now c.push_row.new.rows (Ok b)) c.if-branch.true c.in_ok-push_row.ensures in
    row4_line c.args.line c.args.text.now c.args.rows4.now c.args.rows6.now c.push_row.new.rows pushed

pub returns-then-branch-2 : goal.returns-then-branch-2
returns-then-branch-2 c =
    let none = subst (λ b. IsPushed V4 c.args.line c.args.text.now c.args.rows4.now c.push_row.new.rows (Ok b)) c.if-branch.false c.in_ok-push_row.ensures in
    let pushed = subst (λ b. IsPushed V6 c.args.line c.args.text.now c.args.rows6.now c.push_row-2.new.rows (Ok b)) c.if-branch-2.true c.in_ok-push_row-2.ensures in
    row6_line c.args.line c.args.text.now c.args.rows4.now c.args.rows6.now c.push_row.new.rows c.push_row-2.new.rows none.1 pushed
