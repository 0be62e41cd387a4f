-- What is computed before anything is written.
use Rattle.spfc_outer.specs.Seen.{FilesSeen}
use Rattle.jobs.specs.declared.answering.Answer.{Answer}
use Rattle.jobs.specs.declared.answering.Answer.TheVariants.{Writes, Says}
use Rattle.jobs.specs.Meaning.{Program, Gives}
use Rattle.jobs.specs.Given.{Given, IsGiven, IsBestOutput, LineDue}

-- an output that is due and the best, or a line that is due
abbrev pub IsAnswer : Program → Given → (after : FilesSeen) → Answer → Type 0
IsAnswer p g after (Writes output) = IsGiven p g (Gives output) × IsBestOutput p g output
IsAnswer p g after (Says status line) = LineDue p g after status line
