use Rattle.std.proofs.Common.{ℕ, ◌++◌, List, Option, subst, sym}
use Rattle.std.specs.Prelude.{option_to_list, IfSome}
use Rattle.std.proofs.lemmas.Result.{err_from_is_err_and}
use Rattle.master_lex.specs.declared.entry.Entry.{Entry}
use Rattle.master_lex.specs.Pieces as lex
use Rattle.master_reader.specs.declared.progress.Progress.{Progress}
use Rattle.master_reader.specs.Progress.{kept_with}
use Rattle.master_reader.specs.Reading.{Reads}
use Rattle.master_reader.specs.Readers.{Kept, StandsFor}
use Rattle.master_reader.proofs.Feeding.{broken_at_end, faulty_at_end, reads_all, reads_last}
use Rattle.master_reader.proofs.Once.{reads_not_faults}
use Rattle.master_reader.proofs.reader.Reader.finish.Goals.{in-Some+in_ok-take, in_default}
use Rattle.master_reader.proofs.reader.Reader.finish.Goals as goal

pub returns-in_err-entry-clause-bad : goal.returns-in_err-entry-clause-bad
returns-in_err-entry-clause-bad c = λ zone bytes h.
    let s = subst (λ (k : Kept). StandsFor zone k bytes) (sym c.self.view_is) h in
    let p = err_from_is_err_and c.from_residual.result c.from_residual.ensures.1 in
    rw (p.1, p.2) (broken_at_end zone (kept_with c.self.inside.cutter c.self.inside.progress) bytes c.in_err-entry.field-0.0 s (c.in_err-entry.ensures.bad 1 bytes s.given s.cut))

pub returns-in_err-take-clause-bad : goal.returns-in_err-take-clause-bad
returns-in_err-take-clause-bad c = λ zone bytes h.
    let s = subst (λ (k : Kept). StandsFor zone k bytes) (sym c.self.view_is) h in
    let p = err_from_is_err_and c.from_residual-in_err-take.result c.from_residual-in_err-take.ensures.1 in
    let ends = subst (λ (o : Option Entry). IfSome o (λ entry. lex.EndsWith 1 bytes s.given entry c.self.inside.cutter.here)) c.in-Some.is (c.in_ok-entry.ensures.entry 1 bytes s.given s.cut) in
    rw (p.1, p.2) (faulty_at_end zone (kept_with c.self.inside.cutter c.self.inside.progress) bytes c.in-Some.entry c.self.inside.cutter.here c.in_err-take.field-0.0 s ends c.in_err-take.ensures.bad)

reads : (c : goal.Joined-branch-2) (zone : List (List ℕ)) (bytes : List ℕ) → StandsFor zone c.args.self bytes → Reads zone bytes c.match-branch-2.progress.records
reads c zone bytes h =
    let s = subst (λ (k : Kept). StandsFor zone k bytes) (sym c.self.view_is) h in
    let all = c.in_ok-entry.ensures.last 1 bytes s.given s.cut in
    elim c.match-branch-2.branch [
      | in-Some+in_ok-take w ↦
          subst (λ (p : Progress). Reads zone bytes p.records) (sym w.progress-is)
          (reads_last zone c.self.inside.cutter c.self.inside.progress w.take.new.self bytes w.in-Some.entry s (subst (λ (o : Option Entry). lex.AreAll 1 bytes (s.given ++ option_to_list o)) w.in-Some.is all) w.in_ok-take.ensures.taken)
      | in_default w ↦
          subst (λ (p : Progress). Reads zone bytes p.records) (sym w.progress-is)
          (reads_all zone (kept_with c.self.inside.cutter c.self.inside.progress) bytes s (subst (λ (o : Option Entry). lex.AreAll 1 bytes (s.given ++ option_to_list o)) w.in_default.is all))
    ]

pub returns-clause-reads : goal.returns-clause-reads
returns-clause-reads c = λ zone bytes h. reads c zone bytes h

pub returns-clause-not_bad : goal.returns-clause-not_bad
returns-clause-not_bad c = λ zone bytes h line kind x. reads_not_faults zone bytes _ line kind (reads c zone bytes h) x
