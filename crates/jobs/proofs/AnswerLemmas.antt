-- What words come to, step by step.
use Rattle.std.proofs.Common.{◌≡◌, ◌⊎◌, ◌||◌, ℕ, List, [], ◌∷◌, Ok, Err, IsTrue, Bool, true, false}
use Rattle.std.proofs.Common.{refl, sym, subst, inl, inr, IfOk, Result}
use Rattle.std.proofs.lemmas.Bool.{false≢true}
use Rattle.std.specs.declared.alloc.AllocError.{AllocError}
use Rattle.spfc_outer.specs.Seen.{FilesSeen}
use Rattle.spfc_words.specs.declared.input.Input.{Input}
use Rattle.loading.specs.declared.loaded.Loaded.{Loaded}
use Rattle.loading.specs.declared.refusal.Refusal.{Refusal}
use Rattle.loading.specs.Loading.{Loads, nothing}
use Rattle.jobs.specs.declared.output.Output.{Output}
use Rattle.jobs.specs.Meaning.{Due, Refuses, Gives, Meaning, Program, AreLawful}
use Rattle.jobs.specs.Given.{Given, tells, reads_none, IsGiven, IsBestOutput, LineDue}
use Rattle.jobs.specs.Answer.{IsAnswer}
use Rattle.jobs.specs.declared.answering.Answer.{Answer}
use Rattle.jobs.specs.declared.answering.Answer.TheVariants.{Says}

-- the files tell, or there are none to read
told_or_none : (told : Bool) (inputs : List Input) → IsTrue (told || reads_none inputs) → IsTrue told ⊎ (inputs ≡ [])
told_or_none true inputs is = inl is
told_or_none false [] is = inr refl
told_or_none false (input ∷ inputs) is = absurd (false≢true is)

loads_told : (files : FilesSeen) (m : Meaning) (loaded : Loaded)
    → (IsTrue files.told → Loads files.held m.inputs (Ok loaded)) → (m.inputs ≡ [] → loaded ≡ nothing)
    → IsTrue (tells files m) → Loads files.held m.inputs (Ok loaded)
loads_told files m loaded done none is =
    elim (told_or_none files.told m.inputs is) [ inl told ↦ done told | inr empty ↦ rw (empty, none empty) refl ]

-- a file is refused
pub file_refused : (p : Program) (g : Given) (job : p.Job) (why : Refusal) → p.Spells g.words job
    → (IsTrue g.files.told → Loads g.files.held (p.meaning job).inputs (Err why)) → ((p.meaning job).inputs ≡ [] → ⊥)
    → IsGiven p g (Refuses why)
file_refused p g job why spells refused some = record {
  job = job;
  is_job = spells;
  found = Err why;
  loads = λ tell. elim (told_or_none g.files.told (p.meaning job).inputs tell) [
    | inl told ↦ refused told
    | inr empty ↦ absurd (some empty)
  ];
  behind = refl;
}

-- the job's answer is due
pub job_given : (p : Program) (g : Given) (job : p.Job) (loaded : Loaded) (due : Due) → p.Spells g.words job
    → (IsTrue g.files.told → Loads g.files.held (p.meaning job).inputs (Ok loaded))
    → ((p.meaning job).inputs ≡ [] → loaded ≡ nothing) → (p.meaning job).IsDue loaded due → IsGiven p g due
job_given p g job loaded due spells done none is = record {
  job = job;
  is_job = spells;
  found = Ok loaded;
  loads = loads_told g.files (p.meaning job) loaded done none;
  behind = is;
}

-- and the best
pub job_best : (p : Program) → AreLawful p → (g : Given) (job : p.Job) (loaded : Loaded) (output : Output)
    → p.Spells g.words job → (IsTrue g.files.told → Loads g.files.held (p.meaning job).inputs (Ok loaded))
    → ((p.meaning job).inputs ≡ [] → loaded ≡ nothing) → (p.meaning job).IsDue loaded (Gives output)
    → IsBestOutput p g output
job_best p laws g job loaded output spells done none is = record {
  job = job;
  is_job = spells;
  loaded = loaded;
  loads = loads_told g.files (p.meaning job) loaded done none;
  is_best = (laws.lawful job).best (laws.ready g.words job spells) loaded output is;
}

-- ---- results
pub err_ok : {A E : Type 0} {x : E} {y : A} → Err x ≡ Ok y → ⊥
err_ok e = cc

pub ok_is : {A E : Type 0} {x y : A} → (let a : Result A E = Ok x in a ≡ Ok y) → x ≡ y
ok_is e = cc

-- a line that is due is the answer
pub said : (p : Program) (g : Given) (after : FilesSeen) (status : ℕ) (line : List ℕ) (result : Result Answer AllocError)
    → IfOk result (λ answer. answer ≡ Says status line) → LineDue p g after status line
    → IfOk result (IsAnswer p g after)
said p g after status line (Ok answer) is due = subst (λ a. IsAnswer p g after a) (sym is) due
said p g after status line (Err e) is due = tt
