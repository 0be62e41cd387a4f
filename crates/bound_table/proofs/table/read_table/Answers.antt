use Rattle.std.proofs.Common.{◌+◌, Ok, sym, ◌∙◌, subst, arith}
use Rattle.std.proofs.lemmas.Bool.{eqb-true}
use Rattle.bound_table.specs.Answers.{IsStep}
use Rattle.bound_table.specs.Reading.{lines_of}
use Rattle.bound_table.proofs.Rising.{read_rises}
use Rattle.bound_table.proofs.LineSplit.{no_lines}
use Rattle.bound_table.proofs.RowLemmas.{read_on, no_end}
use Rattle.bound_table.proofs.table.read_table.Goals as goal

pub loop-rest-preserved : goal.loop-rest-preserved
loop-rest-preserved c = record {
  read = read_on (lines_of c.args.bytes.now) (lines_of c.loop-rest.rest.now) (lines_of c.cut_line.result.1.now) c.cut_line.result.0.now c.loop-rest.rows4 c.loop-rest.rows6 c.read_step.new.rows4 c.read_step.new.rows6
      c.loop-rest.line c.loop-rest.invariant.read c.cut_line.ensures.lines
      (subst (λ o. IsStep (c.loop-rest.line + 1) c.cut_line.result.0.now c.loop-rest.rows4 c.loop-rest.rows6 c.read_step.new.rows4 c.read_step.new.rows6 (Ok o)) c.in-Ok-None.field-0-is c.in-Ok-None.ensures);
  few = omega arith;
}

pub returns-clause-table : goal.returns-clause-table
returns-clause-table c =
    no_end (lines_of c.args.bytes.now) (lines_of c.loop-rest.rest.now) c.loop-rest.rows4 c.loop-rest.rows6 c.loop-rest.line c.loop-rest.invariant.read
    (no_lines c.loop-rest.rest.now (eqb-true _ 0 (sym c.is_empty.ensures ∙ c.loop-rest-test.false)))

pub returns-in-Ok-Some-2-clause-rising : goal.returns-in-Ok-Some-2-clause-rising
returns-in-Ok-Some-2-clause-rising c =
    let step = subst (IsStep (c.loop-rest.line + 1) c.cut_line.result.0.now c.loop-rest.rows4 c.loop-rest.rows6 c.read_step.new.rows4 c.read_step.new.rows6) c.in-Ok-Some.is c.read_step.ensures in
    read_rises (lines_of c.args.bytes.now) (lines_of c.loop-rest.rest.now) c.cut_line.result.0.now c.loop-rest.rows4 c.loop-rest.rows6 c.read_step.new.rows4 c.read_step.new.rows6 c.loop-rest.line c.in-Ok-Some-2.total c.loop-rest.invariant.read
    (subst (λ o. IsStep (c.loop-rest.line + 1) c.cut_line.result.0.now c.loop-rest.rows4 c.loop-rest.rows6 c.read_step.new.rows4 c.read_step.new.rows6 (Ok o)) c.in-Ok-Some-2.field-0-is step)
