-- The parts of a term that every address of a family has alike: they ask, and hand on a result or end (the project's
-- own form).
use Rattle.std.specs.Prelude.{List, Contains, ◌⊎◌, ◌↔◌, Result, Ok, Err}
use Rattle.addr_bits.specs.declared.address.Address.{Address}
use Rattle.zone_answers.specs.declared.answer.Question.{Question}
use Rattle.spf_model.specs.declared.outcome.Counts.{Counts}
use Rattle.spf_model.specs.declared.outcome.Outcome.{Outcome}
use Rattle.spf_model.specs.declared.outcome.Halt.{Halt}
use Rattle.spf_model.specs.declared.outcome.Halt.TheVariants.{Ended, Memory}
use Rattle.spf_model.specs.Run.{Run, Ends, Answering, AnsweringEach, EndsWith, AsksFor}
use Rattle.spf_model.specs.Leads.{NoVerdict}

-- what is left of a run: it ends as the run does, it asks nothing else, and what the run asks before it was asked
pub record Follows (zones : Answering) (asked : List Question) (run rest : Run) : Type 0 where
  pub ends : (outcome : Outcome) (counts : Counts)
      → EndsWith zones rest outcome counts ↔ EndsWith zones run outcome counts
  pub asks : (question : Question) → AsksFor zones rest question → AsksFor zones run question
  pub covers : (question : Question) → AsksFor zones run question → Contains asked question
      ⊎ AsksFor zones rest question

-- a part of an evaluation, by the counts at its begin, that hands on a result of this type
abbrev pub PartOf : Type 0 → Type 0
PartOf A = Counts → (A → Run) → Run

-- the part hands on this result
abbrev pub Passes : {A : Type 0} → Answering → List Question → PartOf A → A → Type 0
Passes {A} zones asked part x = (counts : Counts) (go : A → Run) → Follows zones asked (part counts go) (go x)

-- the part ends with this outcome, which is no verdict
abbrev pub Stops : {A : Type 0} → Answering → List Question → PartOf A → Outcome → Type 0
Stops {A} zones asked part outcome =
    NoVerdict outcome × ((counts : Counts) (go : A → Run) → Follows zones asked (part counts go) (Ends outcome counts))

-- the questions that the part adds are asked, whatever comes after it
pub record Adds {A : Type 0} (zones : Answering) (part : PartOf A) (asked more : List Question) : Type 0 where
  pub kept : (question : Question) → Contains asked question → Contains more question
  pub only : (question : Question) → Contains more question
      → Contains asked question ⊎ ((counts : Counts) (go : A → Run) → AsksFor zones (part counts go) question)

-- what a part comes to, and the questions that it adds; without memory nothing is said
abbrev pub Settles : {A : Type 0} → Answering → PartOf A → List Question → List Question → Result A Halt → Type 0
Settles {A} zones part asked more (Ok x) = Passes zones more part x × Adds zones part asked more
Settles {A} zones part asked more (Err (Ended outcome)) = Stops zones more part outcome × Adds zones part asked more
Settles {A} zones part asked more (Err Memory) = Unit {0}

-- the same for every address
abbrev pub SettlesEach :
    {A : Type 0} → AnsweringEach → PartOf A → List Question → List Question → Result A Halt → Type 0
SettlesEach zones part asked more result = (a : Address) → Settles (zones a) part asked more result
