-- The words of the job: `DOMAIN READING ORIGIN=FILE..`. Their form is the project's own choice.
use Rattle.std.specs.Prelude.{ℕ, List}
use Rattle.spfc_words.specs.Subjects.{SpellsSubject}
use Rattle.job_keep.specs.declared.keep.Keep.{Keep}

-- the words behind `keep`
abbrev pub SpellsKeep : List (List ℕ) → Keep → Type 0
SpellsKeep words job = SpellsSubject words job.subject
