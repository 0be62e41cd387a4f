-- What is due for words and files, whatever the jobs are.
use Rattle.std.specs.Prelude.{ℕ, ◌≡◌, ◌≤◌, ◌⊎◌, ◌||◌, Bool, true, false, IsTrue, List, [], ◌∷◌, length, String}
use Rattle.std.specs.Prelude.{Ok, Err, Result}
use Rattle.std.specs.declared.alloc.Global.{Global}
use Rattle.spfc_outer.specs.Seen.{Contents, FilesSeen}
use Rattle.spfc_words.specs.Words.{texts}
use Rattle.spfc_words.specs.declared.input.Input.{Input}
use Rattle.loading.specs.declared.loaded.Loaded.{Loaded}
use Rattle.loading.specs.declared.refusal.Refusal.{Refusal}
use Rattle.loading.specs.Lines.{usage_line, read_fault_line}
use Rattle.loading.specs.Loading.{Loads, FaultAmong}
use Rattle.loading.specs.Refusals.{refusal_status, refusal_line}
use Rattle.jobs.specs.declared.output.Output.{Output}
use Rattle.jobs.specs.Meaning.{Due, Refuses, Gives, Meaning, Program}

-- what a run is given: the words, and what is seen of the files
pub record Given : Type 0 where
  pub words : List (List ℕ)
  pub files : FilesSeen

-- the same, from the words as they were handed over
abbrev pub given : List (String Global) → FilesSeen → Given
given words files = record { words = texts words; files = files }

-- what is due behind the files: the refusal of one of them, or what the job brings
abbrev pub Behind : Result Loaded Refusal → (Loaded → Due → Type 0) → Due → Type 0
Behind (Ok loaded) Next due = Next loaded due
Behind (Err why) Next due = due ≡ Refuses why

-- what is due for a job over these contents
pub record JobDue (m : Meaning) (held : Contents) (due : Due) : Type 0 where
  pub found : Result Loaded Refusal
  pub loads : Loads held m.inputs found
  pub behind : Behind found m.IsDue due

-- there is no file to read
abbrev pub reads_none : List Input → Bool
reads_none [] = true
reads_none (input ∷ inputs) = false

-- the files tell what the job rests on; for a job that reads none they need not tell anything
abbrev pub tells : FilesSeen → Meaning → Bool
tells files m = files.told || reads_none m.inputs

-- The words give a job, and this is due for it behind something that its files may come to: where they tell, that to
-- which they come.
pub record IsGiven (p : Program) (g : Given) (due : Due) : Type 0 where
  pub job : p.Job
  pub is_job : p.Spells g.words job
  pub found : Result Loaded Refusal
  pub loads : IsTrue (tells g.files (p.meaning job)) → Loads g.files.held (p.meaning job).inputs found
  pub behind : Behind found (p.meaning job).IsDue due

-- the words give no job
abbrev pub IsUsage : Program → Given → Type 0
IsUsage p g = (job : p.Job) → ¬ p.Spells g.words job

-- the words give a job, and this output is the best that it can have over what was loaded, in the same sense
pub record IsBestOutput (p : Program) (g : Given) (output : Output) : Type 0 where
  pub job : p.Job
  pub is_job : p.Spells g.words job
  pub loaded : Loaded
  pub loads : IsTrue (tells g.files (p.meaning job)) → Loads g.files.held (p.meaning job).inputs (Ok loaded)
  pub is_best : (p.meaning job).IsBest loaded output

-- the words give a job, and the calls of a file of the job failed; no file before it is refused
pub record IsReadFault (p : Program) (g : Given) (after : FilesSeen) (file : List ℕ) : Type 0 where
  pub job : p.Job
  pub is_job : p.Spells g.words job
  pub fault : FaultAmong g.files after (p.meaning job).inputs file

-- a line that is due, with its status
pub data LineDue (p : Program) (g : Given) (after : FilesSeen) (status : ℕ) (line : List ℕ) : Type 0 where
  finding : (why : Refusal) → IsGiven p g (Refuses why) → status ≡ refusal_status why → line ≡ refusal_line why
      → LineDue p g after status line
  usage : IsUsage p g → status ≡ 4 → line ≡ usage_line → LineDue p g after status line
  fault : (file : List ℕ) → IsReadFault p g after file → status ≡ 5 → line ≡ read_fault_line file
      → LineDue p g after status line

-- what is due for words: an output, or a line with its status
pub data Spoken : Type 0 where
  Writes : Output → Spoken
  Says : (status : ℕ) (line : List ℕ) → Spoken

-- what is due for a job, as it is written
abbrev pub spoken : Due → Spoken
spoken (Gives output) = Writes output
spoken (Refuses why) = Says (refusal_status why) (refusal_line why)

-- what is due for words: what their job comes to, or the line of words that give none
pub data WordsDue (p : Program) (g : Given) (due : Spoken) : Type 0 where
  no_job : IsUsage p g → due ≡ Says 4 usage_line → WordsDue p g due
  job : (job : p.Job) (d : Due) → p.Spells g.words job → JobDue (p.meaning job) g.files.held d → due ≡ spoken d
      → WordsDue p g due

-- the status of what is due: 0 for an output
abbrev pub status_of : Spoken → ℕ
status_of (Writes output) = 0
status_of (Says status line) = status

-- the sinks take all of it for sure
abbrev pub HasRoom : (out err : ℕ) → Spoken → Type 0
HasRoom out err (Writes output) = length output.bytes ≤ out
HasRoom out err (Says status line) = length line ≤ err

-- the status is that of what is due, or memory ran out
abbrev pub EndsDue : Program → Given → (status : ℕ) → Type 0
EndsDue p g status = ((due : Spoken) × WordsDue p g due × (status ≡ status_of due)) ⊎ (status ≡ 7)

-- one thing is due at most
abbrev pub OneIsDue : Program → Type 0
OneIsDue p = (g : Given) (x y : Spoken) → WordsDue p g x → WordsDue p g y → x ≡ y
