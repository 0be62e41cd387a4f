-- What published records give: the verdicts of their list, over themselves alone and in the zones that were read.
use Rattle.std.specs.Prelude.{◌≡◌, ℕ, ◌<◌, ◌≤◌, IsFalse, List, [], Ok, Some, length}
use Rattle.addr_bits.specs.Address.{IsAddress}
use Rattle.addr_bits.specs.declared.address.Address.{Address}
use Rattle.dns_name.specs.Name.{name_of_text}
use Rattle.master_reader.specs.Reading.{Reads}
use Rattle.master_reader.specs.declared.record.Record.{Record}
use Rattle.zone_answers.specs.Lend.{AreLendable, IsLent, with_zone}
use Rattle.zone_answers.specs.Names.{has_own_alias, is_taken}
use Rattle.zone_answers.specs.Zone.{Zone}
use Rattle.spf_grammar.specs.Families.{HavePrefixes}
use Rattle.spf_grammar.specs.Flat.{first}
use Rattle.spf_grammar.specs.declared.flat.FlatTerm.{FlatTerm}
use Rattle.spf_grammar.specs.declared.verdict.Verdict.{Verdict}
use Rattle.spf_model.specs.Check.{check_host, receiver_limits}
use Rattle.spf_model.specs.Judging.{Labels, name_of}
use Rattle.spf_model.specs.Run.{AnsweringEach, EndsWith, says}
use Rattle.spf_model.specs.declared.outcome.Counts.{Counts}
use Rattle.spf_model.specs.declared.outcome.Outcome.TheVariants.{Is}
use Rattle.fewest_terms.specs.Row.{NeedRow}
use Rattle.record_pack.specs.Records.{IsCut, IsFittingCut, pieces_from}
use Rattle.zone_writer.specs.Fragment.{fragment_text}
use Rattle.zone_writer.specs.Written.{AreChainWords, record_owner, written_records}
use Rattle.published_records.specs.Chain.{HoldRecords}
use Rattle.published_records.specs.Standing.{HoldsName, patched}

-- RFC 7208, section 4.6.4: under the limits of a mail receiver check_host gives the address this verdict, by fewer
-- lookups than there are records, so by at most 10, and by no void lookup
pub record GivesWithin (zones : AnsweringEach) (domain : List ℕ) (records : ℕ) (a : Address) (verdict : Verdict)
    : Type 0 where
  pub name : Labels
  pub counts : Counts
  pub named : name_of domain ≡ Some name
  pub ends : EndsWith (zones a) (check_host receiver_limits a domain name) (Is verdict) counts
  pub fewer : counts.lookups < records
  pub lookups : counts.lookups ≤ 10
  pub voids : counts.voids ≡ 0

-- so it is for each address
abbrev pub AllHaveWithin : AnsweringEach → (domain : List ℕ) → (records : ℕ) → (Address → Verdict) → Type 0
AllHaveWithin zones domain records verdict_of =
    (a : Address) → IsAddress a → GivesWithin zones domain records a (verdict_of a)

-- RFC 7208, sections 4.6.4 and 6.1: the records of a cut that stand at their names, in whatever zones, give each
-- address the verdict of the list
abbrev pub RecordsGive : Type 0
RecordsGive = (zones : AnsweringEach) (domain label : List ℕ) (name : List (List ℕ)) (list : List FlatTerm)
    (ends : List ℕ)
    → AreChainWords domain label → name_of_text domain ≡ Ok name → HavePrefixes list → IsCut (length list) ends
    → ((a : Address) → HoldRecords (zones a) domain label name 0 (pieces_from list 0 ends))
    → AllHaveWithin zones domain (length ends) (first list)

-- the records of a cut of a list
abbrev pub records_of : (domain label : List ℕ) → (name : List (List ℕ)) → List FlatTerm → (ends : List ℕ) → List Record
records_of domain label name list ends = written_records domain label name 0 (pieces_from list 0 ends)

-- RFC 7208, section 4: what the bytes of a fragment say where they stand. They are a master file, which is read as the
-- records of the cut, by a reader of the zone of the domain. These may be lent alone. Alone, and also in the zones that
-- were read with the SPF texts at the domain replaced by them, check_host gives each address the verdict of the list,
-- within the limits of a mail receiver
pub record Stands (domain label : List ℕ) (zones : List Zone) (name : List (List ℕ)) (list : List FlatTerm)
    (ends bytes : List ℕ) : Type 0 where
  pub reads : Reads name bytes (records_of domain label name list ends)
  pub lendable : AreLendable name (records_of domain label name list ends)
  pub lent : IsLent [] name (records_of domain label name list ends)
  pub alone : AllHaveWithin (says (with_zone [] name (records_of domain label name list ends)))
      domain (length ends) (first list)
  pub in_place : AllHaveWithin (says (patched zones name (records_of domain label name list ends)))
      domain (length ends) (first list)

-- the names of the records behind the first are free
abbrev pub AreNamesFree : List Zone → (name : List (List ℕ)) → (label : List ℕ) → (records : ℕ) → Type 0
AreNamesFree zones name label records =
    (k : ℕ) → 1 ≤ k → k < records → IsFalse (is_taken zones (record_owner name label k))

-- the fragment of a cut that fits stands so, in zones that hold the domain, where it has no alias and the other names
-- are free
abbrev pub FragmentStands : Type 0
FragmentStands = (zones : List Zone) (domain label : List ℕ) (ttl size others : ℕ) (list : List FlatTerm)
    (ends : List ℕ) (rows4 rows6 : List NeedRow) (total : ℕ) (name : List (List ℕ))
    → AreChainWords domain label → name_of_text domain ≡ Ok name → ttl ≤ 2147483647 → size ≤ 4096 → HavePrefixes list
    → IsFittingCut domain label size others list ends
    → HoldsName zones name → IsFalse (has_own_alias zones name) → AreNamesFree zones name label (length ends)
    → Stands domain label zones name list ends (fragment_text domain label ttl list ends rows4 rows6 total)
