-- Why an entry has no meaning, as the private functions answer it.
use Rattle.std.specs.Prelude.{⊤}
use Rattle.master_reader.specs.declared.fault.Kind.{Kind}
use Rattle.master_reader.specs.declared.fault.Refusal.{Refusal}
use Rattle.master_reader.specs.declared.fault.Refusal.TheVariants.{Faulty, Memory}

-- a refusal is want of memory, or what holds of its kind
abbrev pub RefusalIs : (Kind → Type 0) → Refusal → Type 0
RefusalIs holds (Faulty kind) = holds kind
RefusalIs holds Memory = ⊤
