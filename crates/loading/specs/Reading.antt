-- What was read of a file, piece by piece: the project's own form.
use Rattle.std.specs.Prelude.{◌≡◌, ◌<◌, ◌⊎◌, ℕ, List, [], ◌++◌, length, Some, None, Bool, IsTrue}
use Rattle.std.specs.declared.option.Option.{Option}
use Rattle.master_reader.specs.Readers.{StandsFor, DecidesFault}
use Rattle.loading.specs.declared.reading.Taken.{Taken}
use Rattle.loading.specs.declared.reading.Progress.{Progress}
use Rattle.loading.specs.declared.reading.Progress.TheVariants.{Reads, Faulty}
use Rattle.loading.specs.Loading.{most_bytes}

-- what the bytes of a file so far come to
abbrev pub ComesTo : List (List ℕ) → List ℕ → Progress → Type 0
ComesTo origin bytes (Reads reader) = StandsFor origin reader bytes
ComesTo origin bytes (Faulty line kind) = DecidesFault origin bytes line kind

-- so much of a file was read, and this is what it comes to
abbrev pub HasTaken : List (List ℕ) → List ℕ → Taken → Type 0
HasTaken origin bytes taken = (taken.count ≡ length bytes) × ComesTo origin bytes taken.progress

-- the file was read to its end, or past the most that a file may have
abbrev pub EndsTaken : List (List ℕ) → (contents : List ℕ) → Taken → Type 0
EndsTaken origin contents taken = (bytes behind : List ℕ)
    × (contents ≡ bytes ++ behind) × HasTaken origin bytes taken × ((behind ≡ []) ⊎ (most_bytes < length bytes))

-- the same of a file that may not tell its contents
abbrev pub HasRead : Bool → List (List ℕ) → (contents : List ℕ) → Taken → Type 0
HasRead told origin contents taken =
    (whole : List ℕ) × EndsTaken origin whole taken × (IsTrue told → whole ≡ contents)

-- what was read of a file of this name: none such is held, or its contents were read
abbrev pub HasLoaded : Bool → List (List ℕ) → (held : Option (List ℕ)) → Option Taken → Type 0
HasLoaded told origin held None = IsTrue told → held ≡ None
HasLoaded told origin held (Some taken) =
    (contents : List ℕ) × EndsTaken origin contents taken × (IsTrue told → held ≡ Some contents)
