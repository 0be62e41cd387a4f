use Rattle.std.proofs.Common.{rules}
use Rattle.loading.proofs.StopLemmas.{error_also}
use Rattle.job_join.proofs.Tries.{fault_due, join_refused, join_written}
use Rattle.job_join.proofs.join.JoinJob.perform.Goals as goal

pub returns-in_err-all : goal.returns-in_err-all
returns-in_err-all c =
    let refused = fault_due c.args.self.now c.args.loaded.now c.in_err-all.field-0.0 (rw c.as_slice.ensures at c.in_err-all.ensures.refused) in
    record { done = search (rules, refused); refused = search (rules, refused) }

pub returns-in_err-bytes : goal.returns-in_err-bytes
returns-in_err-bytes c =
    let stops = error_also _ _
    (join_refused c.args.self.now c.args.loaded.now c.in_ok-all.all c.in_ok-joined.joined (rw c.as_slice.ensures at c.in_ok-all.ensures.kept) c.in_ok-joined.ensures)
    c.in_err-bytes.field-0.0 c.in_err-bytes.ensures.refused in
    record { done = search (rules, stops); refused = search (rules, stops) }

pub returns : goal.returns
returns c = record {
  done = join_written c.args.self.now c.args.loaded.now c.in_ok-all.all c.in_ok-joined.joined (record { bytes = c.in_ok-bytes.bytes; asked = c.new.result })
      (rw c.as_slice.ensures at c.in_ok-all.ensures.kept) c.in_ok-joined.ensures c.in_ok-bytes.ensures.written c.new.ensures;
  refused = tt;
}
