-- What a reader in pieces keeps, the bytes that it stands for, and the faults that are known before the file has ended.
use Rattle.std.specs.Prelude.{◌≡◌, ℕ, ◌⊎◌, List, ◌++◌, filter, IsTrue, ⊤}
use Rattle.master_lex.specs.declared.entry.Entry.{Entry}
use Rattle.master_lex.specs.declared.fault.LexKind.{LexKind}
use Rattle.master_lex.specs.declared.fault.LexFault.{LexFault}
use Rattle.master_lex.specs.declared.fault.LexFault.TheVariants as lex_fault
use Rattle.master_lex.specs.Entries.{AreEntries, Spells, has_token}
use Rattle.master_lex.specs.Broken.{IsBroken, IsDecided}
use Rattle.master_lex.specs.Pieces as lex
use Rattle.master_reader.specs.declared.fault.Kind.{Kind}
use Rattle.master_reader.specs.declared.fault.ZoneFault.{ZoneFault}
use Rattle.master_reader.specs.declared.fault.ZoneFault.TheVariants.{Bad, Memory}
use Rattle.master_reader.specs.declared.record.Record.{Record}
use Rattle.master_reader.specs.Entry.{Context}
use Rattle.master_reader.specs.Reading.{Mean, IsFaulty, first_context, kind_of}

-- what a reader keeps: the zone's origin, the open entry, the context of the next entry, and the records so far
pub record Kept : Type 0 where
  pub zone : List (List ℕ)
  pub cutter : lex.Kept
  pub context : Context
  pub records : List Record

-- what is kept stands for these bytes of a file of the zone: their closed entries have no fault, and lead to the
-- context and the records
pub record StandsFor (zone : List (List ℕ)) (kept : Kept) (bytes : List ℕ) : Type 0 where
  pub given : List Entry
  pub origin : kept.zone ≡ zone
  pub cut : lex.StandsFor 1 kept.cutter bytes given
  pub meaning : Mean zone (first_context zone) given kept.context kept.records

-- the bytes begin with a broken entry, however they go on
abbrev pub StartsDecided : List ℕ → Kind → Type 0
StartsDecided bytes kind =
    (broken : LexKind) × (place : ℕ) × IsBroken bytes broken place × IsDecided bytes broken place
    × (kind ≡ kind_of broken)

-- the bytes begin with an entry that has no meaning, and that is closed, however they go on
abbrev pub ClosesFaulty : Context → List ℕ → Kind → Type 0
ClosesFaulty context bytes kind =
    (text after : List ℕ) × (bytes ≡ text ++ after)
    × ((entry : Entry) × ((more : List ℕ) → Spells text (after ++ more) entry) × IsTrue (has_token entry)
    × IsFaulty context entry kind)

-- a broken or faulty entry is decided in the bytes; the first one begins on this line, and has this kind of fault
pub record DecidesFault (zone : List (List ℕ)) (bytes : List ℕ) (line : ℕ) (kind : Kind) : Type 0 where
  pub before : List Entry
  pub rest : List ℕ
  pub context : Context
  pub records : List Record
  pub in_order : (more : List ℕ) → AreEntries 1 (bytes ++ more) before line (rest ++ more)
  pub meaning : Mean zone (first_context zone) (filter has_token before) context records
  pub fault : StartsDecided rest kind ⊎ ClosesFaulty context rest kind

-- a fault is want of memory, or what holds of its line and kind
abbrev pub FaultIs : (ℕ → Kind → Type 0) → ZoneFault → Type 0
FaultIs holds (Bad line kind) = holds line kind
FaultIs holds Memory = ⊤

-- a broken entry is a fault of the same line, and of the kind of the same name
abbrev pub zone_fault_of : LexFault → ZoneFault
zone_fault_of (lex_fault.Bad line kind) = Bad line (kind_of kind)
zone_fault_of lex_fault.Memory = Memory
