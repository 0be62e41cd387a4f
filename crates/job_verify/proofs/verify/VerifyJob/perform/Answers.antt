use Rattle.std.proofs.Common.{refl}
use Rattle.job_verify.proofs.Denials.{denial_due}
use Rattle.job_verify.specs.Meaning.{accepted}
use Rattle.job_verify.proofs.verify.VerifyJob.perform.Goals as goal

pub returns-in_ok-yes_line-in-Ok : goal.returns-in_ok-yes_line-in-Ok
returns-in_ok-yes_line-in-Ok c = record {
  done = accepted (record { bytes = c.in_ok-yes_line-in-Ok.field-0; asked = c.new.result }) (record {
    counts = c.in-Ok.yes;
    certified = rw (c.as_slice-domain.ensures, c.as_slice.ensures) at c.in-Ok.ensures.certified;
    line = c.in_ok-yes_line-in-Ok.ensures;
    untold = c.new.ensures;
  }) refl;
  refused = tt;
}

pub returns-in-Err : goal.returns-in-Err
returns-in-Err c = record {
  done = tt;
  refused = denial_due c.args.self.now c.args.loaded.now c.in-Err.no c.refused.result c.refused.ensures
      (rw (c.as_slice-domain.ensures, c.as_slice.ensures) at c.in-Err.ensures.reason);
}
