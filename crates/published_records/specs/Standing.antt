-- Where records stand: alone as a zone, and in zones that were read.
use Rattle.addr_bits.specs.declared.address.Address.{Address}
use Rattle.std.specs.Prelude.{◌≡◌, ℕ, ◌<◌, ◌≤◌, ◌&&◌, Bool, false, not, IsFalse, List, [], ◌++◌, length, map, filter}
use Rattle.std.specs.Prelude.{Option, Some, None, is_some, if◌then◌else◌}
use Rattle.master_reader.specs.declared.record.Record.{Record}
use Rattle.zone_answers.specs.Answers.{zone_of, is_cut_off}
use Rattle.zone_answers.specs.Lend.{AreLendable, IsLent, with_zone}
use Rattle.zone_answers.specs.Names.{has_own_alias, is_taken}
use Rattle.zone_answers.specs.Same.{same_name, distinct_records}
use Rattle.zone_answers.specs.Zone.{Zone}
use Rattle.spf_grammar.specs.declared.flat.FlatTerm.{FlatTerm}
use Rattle.spf_model.specs.Check.{spf_text_of}
use Rattle.spf_model.specs.Run.{says}
use Rattle.record_pack.specs.Records.{IsFittingCut, pieces_from}
use Rattle.zone_writer.specs.Written.{record_owner, written_records}
use Rattle.published_records.specs.Chain.{HoldRecords}

-- RFC 7208, section 4.5: a record with an SPF text at the name
abbrev pub is_spf_record : (name : List (List ℕ)) → Record → Bool
is_spf_record name r = same_name r.owner name && is_some (spf_text_of r.body)

-- the zone without the SPF texts at the name, and with these records behind its others
abbrev pub patched_zone : (name : List (List ℕ)) → List Record → Zone → Zone
patched_zone name records zone =
    let kept = filter (λ r. not (is_spf_record name r)) zone.records in
    record { origin = zone.origin; records = distinct_records (kept ++ records) }

-- whether the zone is the one that holds the name
abbrev pub is_holder : Option Zone → Zone → Bool
is_holder None zone = false
is_holder (Some holder) zone = same_name zone.origin holder.origin

-- the zones that were read, of which the one that holds the name is patched. No limit on the number of records is asked
-- of them
abbrev pub patched : (zones : List Zone) → (name : List (List ℕ)) → List Record → List Zone
patched zones name records =
    map (λ zone. if is_holder (zone_of zones name) zone then patched_zone name records zone else zone) zones

-- the records of a cut that fits may be lent alone, as the zone of the domain, and stand at their names there
pub record StandAlone (domain label : List ℕ) (name : List (List ℕ)) (lists : List (List FlatTerm)) : Type 0 where
  pub lendable : AreLendable name (written_records domain label name 0 lists)
  pub lent : IsLent [] name (written_records domain label name 0 lists)
  pub hold : (a : Address) → HoldRecords (says (with_zone [] name (written_records domain label name 0 lists)) a)
      domain label name 0 lists

-- so it is for each cut that fits
abbrev pub RecordsStandAlone : Type 0
RecordsStandAlone = (domain label : List ℕ) (size others : ℕ) (list : List FlatTerm) (ends : List ℕ)
    (name : List (List ℕ)) → size ≤ 4096 → IsFittingCut domain label size others list ends
    → StandAlone domain label name (pieces_from list 0 ends)

-- the zone that holds the name, where the name lies below no delegation of it
pub record HoldsName (zones : List Zone) (name : List (List ℕ)) : Type 0 where
  pub zone : Zone
  pub holds : zone_of zones name ≡ Some zone
  pub no_cut : is_cut_off zone name ≡ false

-- in patched zones the records stand at their names, where the name has no alias and the others are free
abbrev pub RecordsStandPatched : Type 0
RecordsStandPatched = (zones : List Zone) (domain label : List ℕ) (name : List (List ℕ)) (lists : List (List FlatTerm))
    → length lists ≤ 11 → HoldsName zones name → IsFalse (has_own_alias zones name)
    → ((k : ℕ) → 1 ≤ k → k < length lists → IsFalse (is_taken zones (record_owner name label k)))
    → (a : Address)
    → HoldRecords (says (patched zones name (written_records domain label name 0 lists)) a) domain label name 0 lists
