-- The records of a cut that fits, lent alone.
use Rattle.std.proofs.Common.{◌≡◌, ℕ, suc, ◌+◌, ◌<◌, ◌≤◌, ◌==◌, Bool, true, false, not, cond, ◌||◌, List, [], ◌∷◌, ◌++◌, length, filter, refl, sym, ap, ap₂, ◌∙◌, arith, None, Some, if◌then◌else◌}
use Rattle.std.specs.Prelude.{decimal}
use Rattle.std.specs.List.{list_any, AllByRecursion}
use Rattle.std.proofs.lemmas.Bool.{false_from_ne_true}
use Rattle.std.proofs.lemmas.List.Sums.{length-filter, count_by-le-length}
use Rattle.addr_bits.specs.declared.address.Address.{Address}
use Rattle.dns_name.specs.Name.{IsUnder}
use Rattle.master_reader.specs.declared.record.Body.{Body}
use Rattle.master_reader.specs.declared.record.Body.TheVariants.{Txt}
use Rattle.master_reader.specs.declared.record.Record.{Record}
use Rattle.zone_answers.specs.Zone.{Zone}
use Rattle.zone_answers.specs.Answers.{zone_of, or_above, bodies_at}
use Rattle.zone_answers.specs.Lend.{AreLendable, IsBodyFit, bodies_clash, has_clash, with_zone}
use Rattle.zone_answers.specs.Same.{same_name, same_record, distinct_records}
use Rattle.zone_answers.proofs.Distinct.{all_distinct}
use Rattle.zone_answers.proofs.Holding.{zone_here}
use Rattle.zone_answers.proofs.Lending.{count_with}
use Rattle.zone_answers.proofs.Nodes.{same_true, same_self}
use Rattle.spf_grammar.specs.declared.flat.FlatTerm.{FlatTerm}
use Rattle.spf_model.specs.Run.{says}
use Rattle.record_pack.specs.Records.{Fits, RecordsFit, pieces_from, piece, record_name, record_text}
use Rattle.zone_writer.specs.Fragment.{is_none, strings_of}
use Rattle.zone_writer.specs.Written.{record_owner, written_records}
use Rattle.published_records.specs.Standing.{RecordsStandAlone}
use Rattle.published_records.proofs.StandingFound.{holds}
use Rattle.published_records.proofs.StandingLists.{all_kept, all_mapped}
use Rattle.published_records.proofs.StandingRecords.{HoldAt, hold_all, longer, owner_first, owner_later, written_uncut}
use Rattle.published_records.proofs.StandingTexts.{record_is_spf, text_fits}

-- ---- the zone

pub lone_at : (name : List (List ℕ)) (records : List Record) → zone_of (with_zone [] name records) name ≡ Some (record { origin = name; records = distinct_records records })
lone_at name records =
    let zone : Zone = record { origin = name; records = distinct_records records } in
    sym (zone_here (with_zone [] name records) name zone (sym (ap (λ b. cond b (Some zone) None) (same_self name name refl))))

pub lone_below : (name : List (List ℕ)) (front : List ℕ) (records : List Record)
    → zone_of (with_zone [] name records) (front ∷ name) ≡ Some (record { origin = name; records = distinct_records records })
lone_below name front records =
    let zone : Zone = record { origin = name; records = distinct_records records } in
    ap (λ b. or_above (cond b (Some zone) None) (zone_of (with_zone [] name records) name))
    (false_from_ne_true _ (λ (same : same_name name (front ∷ name) ≡ true). longer name front (same_true name (front ∷ name) same)))
    ∙ lone_at name records

pub lone_owner : (name : List (List ℕ)) (label : List ℕ) (k : ℕ) (records : List Record)
    → zone_of (with_zone [] name records) (record_owner name label k) ≡ Some (record { origin = name; records = distinct_records records })
lone_owner name label k records = by (k == 0) refl
  where
    by : (t : Bool) → (k == 0) ≡ t → zone_of (with_zone [] name records) (record_owner name label k) ≡ Some (record { origin = name; records = distinct_records records })
    by true e = ap (zone_of (with_zone [] name records)) (owner_first name label k e) ∙ lone_at name records
    by false e = ap (zone_of (with_zone [] name records)) (owner_later name label k e) ∙ lone_below name (label ++ decimal k) records

-- ---- they may be lent

pub under : (name : List (List ℕ)) (label : List ℕ) (k : ℕ) → IsUnder (record_owner name label k) name
under name label k = by (k == 0) refl
  where
    by : (t : Bool) → (k == 0) ≡ t → IsUnder (record_owner name label k) name
    by true e = ([], owner_first name label k e)
    by false e = ((label ++ decimal k) ∷ [], owner_later name label k e)

below_size : (a t o size : ℕ) → a + t + o < size → size ≤ 4096 → t ≤ 4096
below_size a t o size h g = omega arith

piece_lendable : (domain label : List ℕ) (size others : ℕ) (terms : List FlatTerm) (name : List (List ℕ)) (k : ℕ) (last : Bool) → size ≤ 4096 → Fits domain label size others terms k last
    → IsUnder (record_owner name label k) name × IsBodyFit (Txt (strings_of (record_text domain label terms k last)))
piece_lendable domain label size others terms name k last small fits =
    (under name label k, text_fits (record_text domain label terms k last) (below_size (length (record_name domain label k)) (length (record_text domain label terms k last)) (if k == 0 then others else 0) size fits small))

lendable_from : (domain label : List ℕ) (size others : ℕ) (list : List FlatTerm) (name : List (List ℕ)) (k from : ℕ) (ends : List ℕ) → size ≤ 4096
    → RecordsFit domain label size others list k from ends → AreLendable name (written_records domain label name k (pieces_from list from ends))
lendable_from domain label size others list name k from [] small fit = tt
lendable_from domain label size others list name k from (to ∷ []) small fit = (piece_lendable domain label size others (piece list from to) name k true small fit, tt)
lendable_from domain label size others list name k from (to ∷ next ∷ ends) small fit =
    (piece_lendable domain label size others (piece list from to) name k false small fit.0, lendable_from domain label size others list name (k + 1) to (next ∷ ends) small fit.1)

-- ---- there is room

pub length_distinct : (records : List Record) → length (distinct_records records) ≤ length records
length_distinct [] = omega arith
length_distinct (r ∷ records) = omega (
  arith,
  length_distinct records,
  length-filter (λ s. not (same_record r s)) (distinct_records records),
  count_by-le-length (λ s. not (same_record r s)) (distinct_records records),
)

pub length_written : (domain label : List ℕ) (name : List (List ℕ)) (k : ℕ) (lists : List (List FlatTerm)) → length (written_records domain label name k lists) ≡ length lists
length_written domain label name k [] = refl
length_written domain label name k (terms ∷ lists) = ap suc (length_written domain label name (k + 1) lists)

-- a cut has as many pieces as ends
pub length_pieces : (list : List FlatTerm) (from : ℕ) (ends : List ℕ) → length (pieces_from list from ends) ≡ length ends
length_pieces list from [] = refl
length_pieces list from (to ∷ ends) = ap suc (length_pieces list to ends)

-- ---- nothing clashes

-- no body clashes with this one
abbrev pub ClashesNever : Body → Type 0
ClashesNever body = (bodies : List Body) → list_any (bodies_clash body) bodies ≡ false

pub txt_clash : (strings : List (List ℕ)) → ClashesNever (Txt strings)
txt_clash strings [] = refl
txt_clash strings (body ∷ bodies) = txt_clash strings bodies

never_clash : (all bodies : List Body) → AllByRecursion ClashesNever bodies → list_any (λ body. list_any (bodies_clash body) all) bodies ≡ false
never_clash all [] h = refl
never_clash all (body ∷ bodies) h = ap₂ (λ (a b : Bool). a || b) (h.0 all) (never_clash all bodies h.1)

written_never : (domain label : List ℕ) (name : List (List ℕ)) (k : ℕ) (lists : List (List FlatTerm)) → AllByRecursion (λ r. ClashesNever r.body) (written_records domain label name k lists)
written_never domain label name k [] = tt
written_never domain label name k (terms ∷ lists) = (txt_clash (strings_of (record_text domain label terms k (is_none lists))), written_never domain label name (k + 1) lists)

pub no_clash : (zone : Zone) (owner : List (List ℕ)) → AllByRecursion (λ r. ClashesNever r.body) zone.records → has_clash zone owner ≡ false
no_clash zone owner h =
    never_clash (bodies_at zone owner) (bodies_at zone owner)
    (all_mapped ClashesNever (λ r. r.body) (filter (λ r. same_name r.owner owner) zone.records) (all_kept (λ r. ClashesNever r.body) (λ r. ClashesNever r.body) (λ r. same_name r.owner owner) zone.records (λ r at n. n) h))

-- ---- the law

alone_at : (a : Address) (domain label : List ℕ) (name : List (List ℕ)) (lists : List (List FlatTerm))
    → HoldAt (says (with_zone [] name (written_records domain label name 0 lists)) a) domain label name (length lists) (written_records domain label name 0 lists)
alone_at a domain label name lists k terms behind below one =
    let all : List Record = written_records domain label name 0 lists in
    let zone : Zone = record { origin = name; records = distinct_records all } in
    holds (with_zone [] name all) zone (record_owner name label k) (record_text domain label terms k (is_none behind)) [] all (lone_owner name label k all)
    (record {
      records = refl;
      at_name = one;
      old_uncut = tt;
      new_uncut = written_uncut domain label name name (record_owner name label k) 0 lists;
      plain = tt;
      spf = record_is_spf domain label terms k (is_none behind);
    }) a

pub records_stand_alone : RecordsStandAlone
records_stand_alone domain label size others list ends name small cut = record {
  lendable = lendable_from domain label size others list name 0 0 ends small cut.fit;
  lent = record {
    new_origin = refl;
    room = omega (arith, count_with [] name all, length_distinct all, length_written domain label name 0 lists, length_pieces list 0 ends, cut.cut.few);
    no_clash = λ owner. no_clash (record { origin = name; records = distinct_records all }) owner (all_distinct (λ r. ClashesNever r.body) all (written_never domain label name 0 lists));
  };
  hold = λ a. hold_all (says (with_zone [] name all) a) domain label name lists (omega (arith, length_pieces list 0 ends, cut.cut.few)) (alone_at a domain label name lists);
}
  where
    lists : List (List FlatTerm)
    lists = pieces_from list 0 ends

    all : List Record
    all = written_records domain label name 0 lists
