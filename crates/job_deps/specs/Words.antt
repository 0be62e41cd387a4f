-- The words of the job: `DOMAIN READING ORIGIN=FILE..`. Their form is the project's own choice.
use Rattle.std.specs.Prelude.{ℕ, List}
use Rattle.spfc_words.specs.Subjects.{SpellsSubject}
use Rattle.job_deps.specs.declared.deps.Deps.{Deps}

-- the words behind `deps`
abbrev pub SpellsDeps : List (List ℕ) → Deps → Type 0
SpellsDeps words job = SpellsSubject words job.subject
