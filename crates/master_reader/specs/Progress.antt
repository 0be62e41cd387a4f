-- What the entries so far came to, as the private functions keep it.
use Rattle.std.specs.Prelude.{◌≡◌, List, [], ◌∷◌, ◌++◌, unwrap_or, ⊤}
use Rattle.master_lex.specs.declared.entry.Entry.{Entry}
use Rattle.master_lex.specs.Pieces as lex
use Rattle.master_reader.specs.declared.fault.ZoneFault.{ZoneFault}
use Rattle.master_reader.specs.declared.fault.ZoneFault.TheVariants.{Bad, Memory}
use Rattle.master_reader.specs.declared.progress.Progress.{Progress}
use Rattle.master_reader.specs.declared.record.Record.{Record}
use Rattle.master_reader.specs.Entry.{Context}
use Rattle.master_reader.specs.Reading.{Mean, IsFaulty}
use Rattle.master_reader.specs.Readers.{Kept}

-- the context of the next entry: the zone's origin, where no other was stated
abbrev pub context_of : Progress → Context
context_of p = record { origin = unwrap_or p.origin p.zone; owner = p.owner }

-- what a reader keeps, by its parts
abbrev pub kept_with : lex.Kept → Progress → Kept
kept_with cutter p = record { zone = p.zone; cutter = cutter; context = context_of p; records = p.records }

-- one entry leads from one progress to another
pub record Takes (p : Progress) (entry : Entry) (q : Progress) : Type 0 where
  pub zone : q.zone ≡ p.zone
  pub mine : List Record
  pub records : q.records ≡ p.records ++ mine
  pub meaning : Mean p.zone (context_of p) (entry ∷ []) (context_of q) mine

-- want of memory, or the entry's line and its fault
abbrev pub FaultAt : Context → Entry → ZoneFault → Type 0
FaultAt context entry (Bad line kind) = (line ≡ entry.line) × IsFaulty context entry kind
FaultAt context entry Memory = ⊤
