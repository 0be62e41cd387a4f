-- What the calls of other crates, and the judging of the table, answer: the project's own form.
use Rattle.std.specs.Prelude.{◌≢◌, ℕ, List, length}
use Rattle.master_reader.specs.declared.fault.ZoneFault.{ZoneFault}
use Rattle.master_reader.specs.declared.fault.ZoneFault.TheVariants as zone
use Rattle.spf_grammar.specs.declared.flat.FlatTerm.{FlatTerm}
use Rattle.verdict_map.specs.declared.fault.VerdictFault.{VerdictFault}
use Rattle.verdict_map.specs.declared.fault.VerdictFault.TheVariants as verdict
use Rattle.bound_table.specs.declared.table.TableFault.{TableFault}
use Rattle.bound_table.specs.declared.table.TableFault.TheVariants as table
use Rattle.cert_checker.specs.Reasons.{HasTable, IsTableFault}
use Rattle.cert_checker.specs.declared.answer.No.{No}
use Rattle.cert_checker.specs.declared.answer.No.TheVariants.{Refused, NotZone, Table, Terms, Memory}

-- ---- faults of the calls

-- RFC 7208, section 4: no verdicts are refused
abbrev pub no_of_verdicts : VerdictFault → No
no_of_verdicts (verdict.Refused address outcome) = Refused address outcome
no_of_verdicts verdict.Memory = Memory

-- RFC 1035, section 5: no zone
abbrev pub no_of_zone : ZoneFault → No
no_of_zone (zone.Bad line kind) = NotZone line kind
no_of_zone zone.Memory = Memory

-- no table
abbrev pub no_of_table : TableFault → No
no_of_table (table.NotTable line) = Table line
no_of_table table.Memory = Memory

-- ---- the steps

-- the table has a fault, or another total, or there is no memory
abbrev pub IsTableNo : (bytes : List ℕ) → List FlatTerm → No → Type 0
IsTableNo bytes list (Table line) = IsTableFault bytes list line
IsTableNo bytes list Terms = (total : ℕ) × HasTable bytes list total × (length list ≢ total)
IsTableNo bytes list Memory = Unit {0}
IsTableNo bytes list _ = ⊥
