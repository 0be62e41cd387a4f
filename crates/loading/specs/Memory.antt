-- Errors beside want of memory.
use Rattle.std.specs.Prelude.{⊤}
use Rattle.verdict_map.specs.declared.fault.VerdictFault.{VerdictFault}
use Rattle.verdict_map.specs.declared.fault.VerdictFault.TheVariants as fault
use Rattle.loading.specs.declared.memory.OrMemory.{OrMemory}
use Rattle.loading.specs.declared.memory.OrMemory.TheVariants.{Error, Memory}
use Rattle.loading.specs.declared.refusal.Refusal.{Refusal}
use Rattle.loading.specs.declared.refusal.Refusal.TheVariants.{NoVerdict}

-- an error of which this holds, or want of memory, of which nothing is said
abbrev pub ErrorIs : {E : Type 0} → (E → Type 0) → OrMemory E → Type 0
ErrorIs P (Error e) = P e
ErrorIs P Memory = ⊤

-- project's own choice: where an address has no verdict, the job is refused with it and its outcome
abbrev pub refusal_of : VerdictFault → OrMemory Refusal
refusal_of (fault.Refused address outcome) = Error (NoVerdict address outcome)
refusal_of fault.Memory = Memory
