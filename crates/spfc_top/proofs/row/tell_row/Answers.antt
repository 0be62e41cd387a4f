use Rattle.std.proofs.Common.{rules}
use Rattle.spfc_outer.proofs.Rows.{come_none, come_all, come_stayed, come_left, come_cut}
use Rattle.spfc_top.proofs.row.tell_row.Goals as goal

pub loop-i-init : goal.loop-i-init
loop-i-init g c = record { within = search rules; come = come_none _ c.args.question.now c.args.row.now.items }

pub loop-i-preserved : goal.loop-i-preserved
loop-i-preserved g c = record {
  within = search rules;
  come = rw c.remove.ensures.items (come_left _ c.args.question.now c.args.row.now.items c.loop-i.row.items c.loop-i.i c.index_mut.result.now c.tell_one.new.listener (search rules) c.index_mut.ensures.value
      (rw c.in-Done.is at c.in_ok-tell_one.ensures.heard) c.loop-i.invariant.come);
}

pub loop-i-preserved-in-Go : goal.loop-i-preserved-in-Go
loop-i-preserved-in-Go g c = record {
  within = search rules;
  come = come_stayed _ c.args.question.now c.args.row.now.items c.loop-i.row.items c.loop-i.i c.index_mut.result.now c.tell_one.new.listener (search rules) c.index_mut.ensures.value
      (rw c.in-Go.is at c.in_ok-tell_one.ensures.heard) c.loop-i.invariant.come;
}

pub returns-clause-told : goal.returns-clause-told
returns-clause-told g c = come_all _ c.args.question.now c.args.row.now.items c.loop-i.row.items c.loop-i.i (search rules) c.loop-i.invariant.come

pub returns-in_err-tell_one-clause-cut : goal.returns-in_err-tell_one-clause-cut
returns-in_err-tell_one-clause-cut g c =
    let cut = come_cut _ c.args.question.now c.args.row.now.items c.loop-i.row.items c.loop-i.i c.index_mut.result.now c.tell_one.new.listener (search rules) c.index_mut.ensures.value
    c.in_err-tell_one.ensures.unheard c.loop-i.invariant.come in
    search (rules, cut, c.from_residual.ensures)
