-- What a run does to files, sinks and listeners.
use Rattle.std.specs.Prelude.{ℕ, ◌≡◌, ◌<◌, ◌⊎◌, List, [], ◌∷◌, length, map, String, Vec, IsTrue}
use Rattle.std.specs.declared.alloc.Global.{Global}
use Rattle.std.specs.Io.KnownBytes.{Appends}
use Rattle.zone_answers.specs.declared.answer.Question.{Question}
use Rattle.spfc_outer.specs.Auditors.{AuditorSeen, After, BrokeOff}
use Rattle.spfc_outer.specs.Causes.{Rose}
use Rattle.spfc_outer.specs.Moved.{AppendsPart}
use Rattle.spfc_outer.specs.Seen.{FilesSeen, SinkSeen}
use Rattle.spfc_words.specs.Words.{texts}
use Rattle.loading.specs.declared.refusal.Refusal.{Refusal}
use Rattle.loading.specs.Lines.{usage_line, read_fault_line}
use Rattle.loading.specs.Refusals.{refusal_status, refusal_line}
use Rattle.jobs.specs.declared.output.Output.{Output}
use Rattle.jobs.specs.Meaning.{Program, Refuses, Gives}
use Rattle.jobs.specs.Given.{Given, IsGiven, IsUsage, IsBestOutput, IsReadFault, LineDue, Spoken, WordsDue}
use Rattle.jobs.specs.Given.{HasRoom, EndsDue}

-- what is seen before and after, and that nothing changed at all
pub record Step (A : Type 0) : Type 1 where
  pub before : A
  pub after : A
  pub Same : Type 0

-- the same, from a value and what is seen of it
abbrev pub step : {S A : Type 0} → (seen : S → A) → (old new : S) → Step A
step seen old new = record { before = seen old; after = seen new; Same = new ≡ old }

-- the same, from a list of listeners and what is seen of each
abbrev pub hearing : {X : Type 0} → (seen : X → AuditorSeen) → (old new : Vec X Global) → Step (List AuditorSeen)
hearing seen old new = record { before = map seen old.items; after = map seen new.items; Same = new ≡ old }

-- a run, from outside
pub record Turn : Type 1 where
  pub words : List (List ℕ)
  pub files : Step FilesSeen
  pub out : Step SinkSeen
  pub err : Step SinkSeen
  pub row : Step (List AuditorSeen)

-- the same, from the words as they were handed over
abbrev pub turn : List (String Global) → (files : Step FilesSeen) → (out err : Step SinkSeen)
    → (row : Step (List AuditorSeen)) → Turn
turn words files out err row = record { words = texts words; files = files; out = out; err = err; row = row }

-- what the run is given
abbrev pub given_of : Turn → Given
given_of t = record { words = t.words; files = t.files.before }

-- the sink gained these bytes
abbrev pub Gains : Step SinkSeen → List ℕ → Type 0
Gains s bytes = Appends s.before.bytes s.after.bytes bytes

-- the sink gained a proper prefix of them, by a fault
pub record Breaks (s : Step SinkSeen) (bytes : List ℕ) : Type 0 where
  pub rose : Rose s.before.faults s.after.faults
  pub part : AppendsPart s.before.bytes s.after.bytes bytes
  pub short : s.before.assured < length bytes

-- the listeners were told these questions, in order; where there is none, nothing changed at all
abbrev pub IsTold : List Question → Step (List AuditorSeen) → Type 0
IsTold [] row = row.Same
IsTold (question ∷ questions) row = After (question ∷ questions) row.before row.after

-- all that a run promises, by cases: its output, behind what the listeners were told, or a line was written whole, a
-- write failed, or there was no memory, perhaps for a listener
pub data Ended (p : Program) (t : Turn) (status : ℕ) : Type 0 where
  done : (output : Output) → status ≡ 0 → IsGiven p (given_of t) (Gives output)
      → IsBestOutput p (given_of t) output → Gains t.out output.bytes → t.err.Same → IsTold output.asked t.row
      → Ended p t status
  told : (line : List ℕ) → LineDue p (given_of t) t.files.after status line → Gains t.err line → t.out.Same
      → t.row.Same → Ended p t status
  unwritten : (output : Output) → status ≡ 6 → IsGiven p (given_of t) (Gives output) → Breaks t.out output.bytes
      → t.err.Same → IsTold output.asked t.row → Ended p t status
  untold : (due : ℕ) (line : List ℕ) → status ≡ 6 → LineDue p (given_of t) t.files.after due line → Breaks t.err line
      → t.out.Same → t.row.Same → Ended p t status
  no_memory : status ≡ 7 → t.out.Same → t.err.Same → t.row.Same → Ended p t status
  unheard : (output : Output) → status ≡ 7 → IsGiven p (given_of t) (Gives output)
      → BrokeOff output.asked t.row.before t.row.after → t.out.Same → t.err.Same → Ended p t status

-- 0: the words give a job, the listeners were told its questions, and `out` gained its output
abbrev pub HasDone : Program → Turn → Type 0
HasDone p t = (output : Output) × IsGiven p (given_of t) (Gives output) × Gains t.out output.bytes × t.err.Same
    × IsTold output.asked t.row

-- that output is the best that the job can have
abbrev pub HasBest : Program → Turn → Type 0
HasBest p t = (output : Output)
    × IsGiven p (given_of t) (Gives output) × IsBestOutput p (given_of t) output × Gains t.out output.bytes

-- the words give a job, it is refused so, and `err` gained the line
abbrev pub HasFound : Program → Turn → (status : ℕ) → Type 0
HasFound p t status = (why : Refusal) × IsGiven p (given_of t) (Refuses why) × (status ≡ refusal_status why)
    × Gains t.err (refusal_line why) × t.out.Same × t.row.Same

-- the words give no job
abbrev pub HasUsage : Program → Turn → Type 0
HasUsage p t = IsUsage p (given_of t) × Gains t.err usage_line × t.out.Same × t.row.Same

-- the calls of a file failed, no file before it is refused, and the line names it
abbrev pub HasReadFault : Program → Turn → Type 0
HasReadFault p t = (file : List ℕ)
    × IsReadFault p (given_of t) t.files.after file × Gains t.err (read_fault_line file) × t.out.Same
    × t.row.Same

-- a write failed: that sink gained a proper prefix of what was due, and the other is untouched; where that is the
-- output, the listeners were told its questions
abbrev pub HasWriteFault : Program → Turn → Type 0
HasWriteFault p t =
    ((output : Output) × IsGiven p (given_of t) (Gives output) × Breaks t.out output.bytes × t.err.Same
    × IsTold output.asked t.row)
    ⊎ ((status : ℕ) × (line : List ℕ)
    × LineDue p (given_of t) t.files.after status line × Breaks t.err line × t.out.Same × t.row.Same)

-- nothing was written; and the listeners are as they were, or the words give a job, at one of whose questions the
-- telling broke off
abbrev pub HasNone : Program → Turn → Type 0
HasNone p t = t.out.Same × t.err.Same × (t.row.Same
    ⊎ ((output : Output) × IsGiven p (given_of t) (Gives output)
    × BrokeOff output.asked t.row.before t.row.after))

-- no count of faults rose
pub record IsCalm (t : Turn) : Type 0 where
  pub files : ¬ Rose t.files.before.faults t.files.after.faults
  pub out : ¬ Rose t.out.before.faults t.out.after.faults
  pub err : ¬ Rose t.err.before.faults t.err.after.faults

-- no call of the files fails, and the sinks have room for all that is due
pub record IsSure (p : Program) (t : Turn) : Type 0 where
  pub files : IsTrue t.files.before.is_assured
  pub room : (due : Spoken) → WordsDue p (given_of t) due → HasRoom t.out.before.assured t.err.before.assured due

-- the statuses of refusals
abbrev pub IsFindingStatus : ℕ → Type 0
IsFindingStatus status = (status ≡ 1) ⊎ ((status ≡ 2) ⊎ ((status ≡ 3) ⊎ (status ≡ 8)))

-- where the files tell and no count rose, the status is that of what is due, or memory ran out
abbrev pub IsComplete : Program → Turn → (status : ℕ) → Type 0
IsComplete p t status = IsTrue t.files.before.told → IsCalm t → EndsDue p (given_of t) status

-- and where they tell and all is sure
abbrev pub IsAssured : Program → Turn → (status : ℕ) → Type 0
IsAssured p t status = IsTrue t.files.before.told → IsSure p t → EndsDue p (given_of t) status
