-- What the files of a job come to: all of them, or the first refusal.
use Rattle.std.specs.Prelude.{◌≡◌, ℕ, ◌<◌, ◌≤◌, not, bytes_eq, List, [], ◌∷◌, length, map, Contains, IsTrue}
use Rattle.std.specs.Prelude.{Some, None, Result, Ok, Err}
use Rattle.std.specs.declared.option.Option.{Option}
use Rattle.std.specs.List.{take_while}
use Rattle.dns_name.specs.Name.{IsName}
use Rattle.master_reader.specs.declared.fault.Kind.{Kind}
use Rattle.master_reader.specs.declared.record.Record.{Record}
use Rattle.master_reader.specs.Reading.{Reads, Faults}
use Rattle.zone_answers.specs.Zone.{Zone}
use Rattle.zone_answers.specs.Lend.{IsRefused, IsLent, with_zone}
use Rattle.zone_answers.specs.declared.fault.LendFault.TheVariants as fault
use Rattle.spfc_outer.specs.Seen.{Contents, FilesSeen, FailsAt}
use Rattle.spfc_words.specs.declared.input.Input.{Input}
use Rattle.spfc_words.specs.declared.input.Place.{Place}
use Rattle.spfc_words.specs.declared.input.Place.TheVariants as place
use Rattle.loading.specs.declared.loaded.Loaded.{Loaded}
use Rattle.loading.specs.declared.refusal.Refusal.{Refusal}
use Rattle.loading.specs.declared.refusal.Refusal.TheVariants.{NoFile, LongFile, BadZone, TooManyRecords, AliasAndOther}
use Rattle.loading.specs.declared.stop.Stop.{Stop}
use Rattle.loading.specs.declared.stop.Stop.TheVariants.{Refused, ReadFault}

-- project's own choice: the most bytes of a file
abbrev pub most_bytes : ℕ
most_bytes = 8388608

-- what a file comes to: its contents, or a refusal
pub data FileDue (held : Option (List ℕ)) (file : List ℕ) (found : Result (List ℕ) Refusal) : Type 0 where
  no_file : held ≡ None → found ≡ Err (NoFile file) → FileDue held file found
  long_file : (contents : List ℕ) → held ≡ Some contents → most_bytes < length contents
      → found ≡ Err (LongFile file) → FileDue held file found
  whole : (contents : List ℕ) → held ≡ Some contents → length contents ≤ most_bytes
      → found ≡ Ok contents → FileDue held file found

-- RFC 1035, section 5.1: what the contents of a zone's file come to: the records of its reading, or its first fault
pub data ReadingDue (origin : List (List ℕ)) (file contents : List ℕ)
    (found : Result (List Record) Refusal) : Type 0 where
  bad_zone : (line : ℕ) (kind : Kind) → Faults origin contents line kind
      → found ≡ Err (BadZone file line kind) → ReadingDue origin file contents found
  read : (records : List Record) → Reads origin contents records → found ≡ Ok records
      → ReadingDue origin file contents found

-- what records come to beside the zones that are lent before them
pub data LendDue (zones : List Zone) (origin : List (List ℕ)) (records : List Record)
    (found : Result (List Zone) Refusal) : Type 0 where
  too_many : (count : ℕ) → IsRefused zones origin records (fault.TooMany count)
      → found ≡ Err (TooManyRecords origin) → LendDue zones origin records found
  clash : (name : List (List ℕ)) → IsName name → IsRefused zones origin records (fault.AliasAndOther name)
      → found ≡ Err (AliasAndOther origin name) → LendDue zones origin records found
  lent : IsLent zones origin records → found ≡ Ok (with_zone zones origin records) → LendDue zones origin records found

-- a step whose refusal is that of the whole
abbrev pub Then : {A B : Type 0} → Result A Refusal → (A → Result B Refusal → Type 0) → Result B Refusal → Type 0
Then (Ok x) Next found = Next x found
Then (Err why) Next found = found ≡ Err why

-- what the file of a zone comes to
abbrev pub RecordsDue : (held : Option (List ℕ)) → (origin : List (List ℕ)) → (file : List ℕ)
    → Result (List Record) Refusal → Type 0
RecordsDue held origin file found =
    (contents : Result (List ℕ) Refusal) × FileDue held file contents × Then contents (ReadingDue origin file) found

-- what it comes to beside the zones of its group before it
abbrev pub ZonesDue : (held : Option (List ℕ)) → List Zone → (origin : List (List ℕ)) → (file : List ℕ)
    → Result (List Zone) Refusal → Type 0
ZonesDue held zones origin file found =
    (records : Result (List Record) Refusal) × RecordsDue held origin file records
    × Then records (LendDue zones origin) found

-- nothing is read
abbrev pub nothing : Loaded
nothing = record { zones = []; others = []; file = [] }

-- what one more file comes to, by its place
abbrev pub PlaceDue : Place → (held : Option (List ℕ)) → Loaded → (file : List ℕ) → Result Loaded Refusal → Type 0
PlaceDue (place.Zone origin) held loaded file found =
    (zones : Result (List Zone) Refusal) × ZonesDue held loaded.zones origin file zones
    × Then zones (λ all due. due ≡ Ok (record loaded { zones = all })) found
PlaceDue (place.Other origin) held loaded file found =
    (zones : Result (List Zone) Refusal) × ZonesDue held loaded.others origin file zones
    × Then zones (λ all due. due ≡ Ok (record loaded { others = all })) found
PlaceDue place.File held loaded file found =
    (contents : Result (List ℕ) Refusal) × FileDue held file contents
    × Then contents (λ bytes due. due ≡ Ok (record loaded { file = bytes })) found

-- what one more file comes to
abbrev pub InputDue : Contents → Loaded → Input → Result Loaded Refusal → Type 0
InputDue held loaded input found = PlaceDue input.place (held input.file) loaded input.file found

-- what files come to behind others, in order
abbrev pub InputsDue : Contents → Loaded → List Input → Result Loaded Refusal → Type 0
InputsDue held loaded [] found = found ≡ Ok loaded
InputsDue held loaded (input ∷ inputs) found =
    (next : Result Loaded Refusal) × InputDue held loaded input next
    × Then next (λ more due. InputsDue held more inputs due) found

-- what the files of a job come to
abbrev pub Loads : Contents → List Input → Result Loaded Refusal → Type 0
Loads held inputs found = InputsDue held nothing inputs found

-- files come to one thing at most
abbrev pub OneLoading : Type 0
OneLoading = (held : Contents) (inputs : List Input) (a b : Result Loaded Refusal)
    → Loads held inputs a → Loads held inputs b → a ≡ b

-- the files before the first place of this name
abbrev pub inputs_before : (name : List ℕ) → List Input → List Input
inputs_before name inputs = take_while (λ input. not (bytes_eq input.file name)) inputs

-- The calls of a file of the job failed, which is that of the last fault. The files before its first place were read,
-- so nothing is refused before it.
pub record FaultAmong (before after : FilesSeen) (inputs : List Input) (file : List ℕ) : Type 0 where
  pub taken_up : Contains (map (λ input. input.file) inputs) file
  pub fails : FailsAt before after file
  pub none_before : IsTrue before.told → (loaded : Loaded) × Loads before.held (inputs_before file inputs) (Ok loaded)

-- why a step stops that has read all of its file: a refusal
abbrev pub IsRefusal : (Refusal → Type 0) → Stop → Type 0
IsRefusal Comes (Refused why) = Comes why
IsRefusal Comes (ReadFault file) = ⊥

-- why a step with one file stops: a refusal, where the contents are told, or the calls of the file failed
abbrev pub StopsAt : (before after : FilesSeen) → (file : List ℕ) → (Refusal → Type 0) → Stop → Type 0
StopsAt before after file Comes (Refused why) = IsTrue before.told → Comes why
StopsAt before after file Comes (ReadFault name) = (name ≡ file) × FailsAt before after file

-- why the files of a job are not read
abbrev pub StopsAmong : (before after : FilesSeen) → List Input → Stop → Type 0
StopsAmong before after inputs (Refused why) = IsTrue before.told → Loads before.held inputs (Err why)
StopsAmong before after inputs (ReadFault file) = FaultAmong before after inputs file
