use Rattle.job_compile.proofs.Outputs.{traced_output, untraced_output}
use Rattle.job_compile.proofs.compile.CompileJob.perform.Goals as goal

pub returns-in-Ok : goal.returns-in-Ok
returns-in-Ok c = record {
  done = traced_output c.args.self.now c.args.loaded.now c.in-Ok.field-0.bytes c.in-Ok.field-0.asked c.if-self.true
      c.in-Ok.ensures.written c.in-Ok.ensures.asked;
  refused = tt;
}

pub returns-in-Ok-2 : goal.returns-in-Ok-2
returns-in-Ok-2 c = record {
  done = untraced_output c.args.self.now c.args.loaded.now c.in-Ok.field-0.bytes c.new.result c.if-self.false
      c.in-Ok.ensures.written c.new.ensures;
  refused = tt;
}
