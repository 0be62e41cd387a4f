-- What a job means.
use Rattle.std.specs.Prelude.{ℕ, List, ◌≡◌, Result, IfOk, IfErr, IfSome, IfNone}
use Rattle.std.specs.declared.option.Option.{Option}
use Rattle.std.specs.declared.alloc.AllocError.{AllocError}
use Rattle.spfc_words.specs.declared.input.Input.{Input}
use Rattle.loading.specs.Memory.{ErrorIs}
use Rattle.loading.specs.declared.memory.OrMemory.{OrMemory}
use Rattle.loading.specs.declared.loaded.Loaded.{Loaded}
use Rattle.loading.specs.declared.refusal.Refusal.{Refusal}
use Rattle.jobs.specs.declared.output.Output.{Output}

-- what is due for a job over what was read: a refusal, or an output
pub data Due : Type 0 where
  Refuses : Refusal → Due
  Gives : Output → Due

-- A job: the files that it reads, when it can be done, what is due for what was read, and what no other output can
-- better.
pub record Meaning : Type 1 where
  pub inputs : List Input
  pub IsReady : Type 0
  pub IsDue : Loaded → Due → Type 0
  pub IsBest : Loaded → Output → Type 0

-- one thing is due at most, and an output that is due is the best
pub record IsLawful (m : Meaning) : Type 0 where
  pub one : (loaded : Loaded) (x y : Due) → m.IsDue loaded x → m.IsDue loaded y → x ≡ y
  pub best : m.IsReady → (loaded : Loaded) (output : Output) → m.IsDue loaded (Gives output) → m.IsBest loaded output

-- what a job answers is due
pub record Answers (m : Meaning) (loaded : Loaded) (result : Result Output (OrMemory Refusal)) : Type 0 where
  pub done : IfOk result (λ output. m.IsDue loaded (Gives output))
  pub refused : IfErr result (ErrorIs (λ why. m.IsDue loaded (Refuses why)))

-- what the words are read as, they spell; where they are read as nothing, they spell nothing
pub record Reads {J : Type 0} (Spells : List (List ℕ) → J → Type 0) (words : List (List ℕ))
    (result : Result (Option J) AllocError) : Type 0 where
  pub spelled : IfOk result (λ job. IfSome job (Spells words))
  pub none : IfOk result (λ job. IfNone job ((any : J) → ¬ Spells words any))

-- jobs, by their words and their meanings
pub record Program : Type 1 where
  pub Job : Type 0
  pub Spells : List (List ℕ) → Job → Type 0
  pub meaning : Job → Meaning

-- the same, from its parts
abbrev pub program : {J : Type 0} → (List (List ℕ) → J → Type 0) → (J → Meaning) → Program
program {J = J} Spells meaning = record { Job = J; Spells = Spells; meaning = meaning }

-- the laws of jobs
pub record AreLawful (p : Program) : Type 0 where
  pub ready : (words : List (List ℕ)) (job : p.Job) → p.Spells words job → (p.meaning job).IsReady
  pub one_spelled : (words : List (List ℕ)) (a b : p.Job) → p.Spells words a → p.Spells words b → a ≡ b
  pub lawful : (job : p.Job) → IsLawful (p.meaning job)

-- words spell at most one job
abbrev pub OneJob : Program → Type 0
OneJob p = (words : List (List ℕ)) (a b : p.Job) → p.Spells words a → p.Spells words b → a ≡ b
