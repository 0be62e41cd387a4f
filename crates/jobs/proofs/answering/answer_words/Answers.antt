use Rattle.std.proofs.Common.{refl, ap, ◌∙◌}
use Rattle.spfc_words.specs.Words.{texts}
use Rattle.loading.specs.Lines.{read_fault_line}
use Rattle.jobs.specs.Meaning.{Program, program, Refuses}
use Rattle.jobs.specs.Given.{Given, finding, fault}
use Rattle.jobs.proofs.AnswerLemmas.{err_ok, ok_is, said, file_refused, job_given}
use Rattle.jobs.proofs.answering.answer_words.Goals as goal

pub returns-in-Err-Error-Refused-clause-answer : goal.returns-in-Err-Error-Refused-clause-answer
returns-in-Err-Error-Refused-clause-answer g c =
    let p : Program = program g.J.Job.spells g.J.Job.meaning in
    let given : Given = record { words = texts c.args.words.now; files = g.F.Files.seen c.args.files.now } in
    let h = c.in-Err-Error-Refused.ensures in
    said p given (g.F.Files.seen c.load_inputs.new.files) _ _ c.say.result c.say.ensures
    (finding c.in-Err-Error-Refused.why (file_refused p given c.in-Some.job c.in-Err-Error-Refused.why
    (rw c.in-Some.is at c.in_ok-job.ensures.spelled)
    (rw (c.in-Err-Error-Refused.field-0-is, c.in-Err-Error-Refused.field-0-0-is, c.inputs.ensures) at h.stops)
    (λ empty. err_ok (h.none (c.inputs.ensures ∙ empty)).0)) refl refl)

pub returns-in-Err-Error-ReadFault-clause-answer : goal.returns-in-Err-Error-ReadFault-clause-answer
returns-in-Err-Error-ReadFault-clause-answer g c =
    let h = c.in-Err-Error-ReadFault.ensures in
    fault c.in-Err-Error-ReadFault.file
    (record {
      job = c.in-Some.job;
      is_job = rw c.in-Some.is at c.in_ok-job.ensures.spelled;
      fault = rw (c.in-Err-Error-ReadFault.field-0-is, c.in-Err-Error-ReadFault.field-0-0-is, c.inputs.ensures) at h.stops;
    }) refl (c.in_ok-line-in-Err-Error-ReadFault.ensures ∙ ap read_fault_line c.as_slice.ensures)

pub returns-in-Err-Error-clause-answer : goal.returns-in-Err-Error-clause-answer
returns-in-Err-Error-clause-answer g c =
    let p : Program = program g.J.Job.spells g.J.Job.meaning in
    let given : Given = record { words = texts c.args.words.now; files = g.F.Files.seen c.args.files.now } in
    said p given (g.F.Files.seen c.load_inputs.new.files) _ _ c.say-in-Err-Error.result c.say-in-Err-Error.ensures
    (finding c.in-Err-Error.why (job_given p given c.in-Some.job c.in-Ok.loaded (Refuses c.in-Err-Error.why)
    (rw c.in-Some.is at c.in_ok-job.ensures.spelled)
    (rw c.inputs.ensures at c.in-Ok.ensures.done) (λ empty. ok_is (c.in-Ok.ensures.none (c.inputs.ensures ∙ empty)).0)
    (rw c.in-Err-Error.field-0-is at c.in-Err-Error.ensures.refused)) refl refl)
