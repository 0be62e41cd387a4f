use Rattle.std.proofs.Common.{ℕ, List, refl, ap, ◌∙◌}
use Rattle.loading.specs.declared.refusal.Refusal.TheVariants.{BadList}
use Rattle.jobs.specs.Meaning.{Refuses}
use Rattle.job_stale.specs.Meaning.{said, unlisted}
use Rattle.job_stale.proofs.Unread.{unread}
use Rattle.job_stale.proofs.stale.StaleJob.perform.Goals as goal

pub returns-in_ok-watch_line-in-Ok : goal.returns-in_ok-watch_line-in-Ok
returns-in_ok-watch_line-in-Ok c = record {
  done = said (record { bytes = c.in_ok-watch_line-in-Ok.field-0; asked = c.new.result }) (record {
    kept = c.in-Ok.kept;
    read = rw c.as_slice.ensures at c.in-Ok.ensures.kept;
    line = c.in_ok-watch_line-in-Ok.ensures;
    untold = c.new.ensures;
  }) refl;
  refused = tt;
}

pub returns-in_ok-file-in-Err-NotKept : goal.returns-in_ok-file-in-Err-NotKept
returns-in_ok-file-in-Err-NotKept c = record {
  done = tt;
  refused = unlisted c.in-Err-NotKept.line
      (unread c.as_slice.result.now c.args.loaded.now.file c.in-Err-NotKept.field-0 c.in-Err-NotKept.line c.as_slice.ensures c.in-Err-NotKept.field-0-is c.in-Err-NotKept.ensures.kept)
      (ap (λ (f : List ℕ). Refuses (BadList f c.in-Err-NotKept.line)) (c.in_ok-file-in-Err-NotKept.ensures ∙ c.as_slice-in-Err-NotKept.ensures));
}
