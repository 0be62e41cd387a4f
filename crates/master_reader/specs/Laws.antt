-- What holds of readings and faults, as statements.
use Rattle.std.specs.Prelude.{◌≡◌, ℕ, List}
use Rattle.master_reader.specs.declared.fault.Kind.{Kind}
use Rattle.master_reader.specs.declared.record.Record.{Record}
use Rattle.master_reader.specs.Reading.{Reads, Faults}

-- RFC 1035, section 5.1: a file has one reading, or one first fault. It has one of each at most, not both, and no file
-- has neither
pub record OneAnswer : Type 0 where
  pub records : (zone : List (List ℕ)) (bytes : List ℕ) (records others : List Record) → Reads zone bytes records
      → Reads zone bytes others → records ≡ others
  pub never_both : (zone : List (List ℕ)) (bytes : List ℕ) (records : List Record) (line : ℕ) (kind : Kind)
      → Reads zone bytes records → ¬ Faults zone bytes line kind
  pub fault : (zone : List (List ℕ)) (bytes : List ℕ) (line other : ℕ) (kind kind' : Kind)
      → Faults zone bytes line kind → Faults zone bytes other kind' → (line ≡ other) × (kind ≡ kind')
  pub never_neither : (zone : List (List ℕ)) (bytes : List ℕ) → ((records : List Record) → ¬ Reads zone bytes records)
      → ¬ ((line : ℕ) (kind : Kind) → ¬ Faults zone bytes line kind)
