-- The records of a chain in the zones that were read.
use Rattle.std.proofs.Common.{◌≡◌, ℕ, ◌<◌, ◌≤◌, ◌==◌, ◌≢◌, Bool, true, false, not, cond, ◌&&◌, List, [], ◌∷◌, ◌++◌, length, map, filter, find, refl, sym, ap, subst, ◌∙◌, arith, Option, None, Some, is_some, option_map, if◌then◌else◌}
use Rattle.std.specs.Prelude.{decimal}
use Rattle.std.specs.List.{list_any, AllByRecursion}
use Rattle.std.proofs.lemmas.Bool.{eqb-false, false_from_ne_true, or_parts, true≢false}
use Rattle.addr_bits.specs.declared.address.Address.{Address}
use Rattle.dns_name.specs.Name.{is_under}
use Rattle.dns_name.proofs.Names.{parent_under, under_itself}
use Rattle.master_reader.specs.declared.record.Record.{Record}
use Rattle.zone_answers.specs.Zone.{Zone}
use Rattle.zone_answers.specs.Answers.{zone_of, or_above, is_cut_off, is_delegation, target_of}
use Rattle.zone_answers.specs.Names.{bodies_in, has_own_alias, has_record_under, is_taken}
use Rattle.zone_answers.specs.Same.{same_name}
use Rattle.zone_answers.proofs.Nodes.{same_true, same_self}
use Rattle.spf_text.specs.Version.{is_spf_text}
use Rattle.spf_grammar.specs.declared.flat.FlatTerm.{FlatTerm}
use Rattle.spf_model.specs.Check.{spf_text_of}
use Rattle.spf_model.specs.Run.{says}
use Rattle.record_pack.specs.Records.{record_text}
use Rattle.zone_writer.specs.Fragment.{is_none}
use Rattle.zone_writer.specs.Written.{record_owner, written_records}
use Rattle.published_records.specs.Chain.{Holds}
use Rattle.published_records.specs.Standing.{RecordsStandPatched, is_holder, is_spf_record, patched, patched_zone}
use Rattle.published_records.proofs.StandingFound.{IsPlain, cuts, holds, txt_record}
use Rattle.published_records.proofs.StandingLists.{all_kept, all_weaker, each_false, none_found}
use Rattle.published_records.proofs.StandingRecords.{HoldAt, hold_all, owner_first, owner_later, written_uncut}
use Rattle.published_records.proofs.StandingTexts.{record_is_spf}

-- ---- zones that keep their origins

find_mapped : (change : Zone → Zone) → ((z : Zone) → (change z).origin ≡ z.origin) → (zones : List Zone) (name : List (List ℕ))
    → find (λ z. same_name z.origin name) (map change zones) ≡ option_map change (find (λ z. same_name z.origin name) zones)
find_mapped change same [] name = refl
find_mapped change same (z ∷ zones) name =
    ap (λ origin. cond (same_name origin name) (Some (change z)) (find (λ y. same_name y.origin name) (map change zones))) (same z)
    ∙ by (same_name z.origin name) (find_mapped change same zones name)
  where
    by : (t : Bool) → find (λ y. same_name y.origin name) (map change zones) ≡ option_map change (find (λ y. same_name y.origin name) zones)
        → cond t (Some (change z)) (find (λ y. same_name y.origin name) (map change zones)) ≡ option_map change (cond t (Some z) (find (λ y. same_name y.origin name) zones))
    by true e = refl
    by false e = e

above_mapped : (change : Zone → Zone) (here above : Option Zone) → or_above (option_map change here) (option_map change above) ≡ option_map change (or_above here above)
above_mapped change None above = refl
above_mapped change (Some z) above = refl

zone_mapped : (change : Zone → Zone) → ((z : Zone) → (change z).origin ≡ z.origin) → (zones : List Zone) (name : List (List ℕ))
    → zone_of (map change zones) name ≡ option_map change (zone_of zones name)
zone_mapped change same zones [] = find_mapped change same zones []
zone_mapped change same zones (label ∷ name) =
    ap (λ here. or_above here (zone_of (map change zones) name)) (find_mapped change same zones (label ∷ name))
    ∙ ap (or_above (option_map change (find (λ z. same_name z.origin (label ∷ name)) zones))) (zone_mapped change same zones name)
    ∙ above_mapped change (find (λ z. same_name z.origin (label ∷ name)) zones) (zone_of zones name)

-- ---- the patched zone

-- the records that stay
abbrev kept : (name : List (List ℕ)) → List Record → List Record
kept name records = filter (λ r. not (is_spf_record name r)) records

abbrev patch : (zones : List Zone) → (name : List (List ℕ)) → List Record → Zone → Zone
patch zones name records zone = if is_holder (zone_of zones name) zone then patched_zone name records zone else zone

patch_origin : (zones : List Zone) (name : List (List ℕ)) (records : List Record) (zone : Zone) → (patch zones name records zone).origin ≡ zone.origin
patch_origin zones name records zone = by (is_holder (zone_of zones name) zone)
  where
    by : (t : Bool) → (if t then patched_zone name records zone else zone).origin ≡ zone.origin
    by true = refl
    by false = refl

holder_patched : (zones : List Zone) (name : List (List ℕ)) (records : List Record) (zone : Zone) → zone_of zones name ≡ Some zone
    → patch zones name records zone ≡ patched_zone name records zone
holder_patched zones name records zone e =
    ap (λ holder. if is_holder holder zone then patched_zone name records zone else zone) e
    ∙ ap (λ b. if b then patched_zone name records zone else zone) (same_self zone.origin zone.origin refl)

zone_patched : (zones : List Zone) (name below : List (List ℕ)) (records : List Record) (zone : Zone) → zone_of zones name ≡ Some zone → zone_of zones below ≡ Some zone
    → zone_of (patched zones name records) below ≡ Some (patched_zone name records zone)
zone_patched zones name below records zone e f =
    zone_mapped (patch zones name records) (patch_origin zones name records) zones below
    ∙ ap (option_map (patch zones name records)) f
    ∙ ap Some (holder_patched zones name records zone e)

-- what holds of all that stood in the zone holds of those that stay
kept_also : (P : Record → Type 0) (name : List (List ℕ)) (records : List Record) → AllByRecursion P records → AllByRecursion P (kept name records)
kept_also P name records h = all_kept P P (λ r. not (is_spf_record name r)) records (λ r at p. p) h

-- ---- at the name itself

abbrev aliased : List Record → Bool
aliased records = list_any (λ body. is_some (target_of body)) (map (λ r. r.body) records)

none_of : {A : Type 0} (o : Option A) → is_some o ≡ false → o ≡ None
none_of None e = refl
none_of (Some x) e = absurd (true≢false e)

no_target : (name : List (List ℕ)) (records : List Record) → aliased (filter (λ r. same_name r.owner name) records) ≡ false
    → AllByRecursion (λ r. same_name r.owner name ≡ true → target_of r.body ≡ None) records
no_target name [] h = tt
no_target name (r ∷ records) h = by (same_name r.owner name) refl h (no_target name records)
  where
    own : List Record
    own = filter (λ x. same_name x.owner name) records

    by : (t : Bool) → same_name r.owner name ≡ t → aliased (cond t (r ∷ own) own) ≡ false
        → (aliased own ≡ false → AllByRecursion (λ x. same_name x.owner name ≡ true → target_of x.body ≡ None) records)
        → AllByRecursion (λ x. same_name x.owner name ≡ true → target_of x.body ≡ None) (r ∷ records)
    by true e g more = let parts = or_parts (is_some (target_of r.body)) (aliased own) g in ((λ at. none_of (target_of r.body) parts.0), more parts.1)
    by false e g more = ((λ at. absurd (true≢false (sym at ∙ e))), more g)

plain_kept : (name : List (List ℕ)) (records : List Record) → AllByRecursion (λ r. same_name r.owner name ≡ true → target_of r.body ≡ None) records
    → AllByRecursion (λ r. same_name r.owner name ≡ true → IsPlain r.body) (kept name records)
plain_kept name records h =
    all_kept (λ r. same_name r.owner name ≡ true → target_of r.body ≡ None) (λ r. same_name r.owner name ≡ true → IsPlain r.body) (λ r. not (is_spf_record name r)) records
    (λ r stays f at. (f at, no_spf (same_name r.owner name) (spf_text_of r.body) at stays)) h
  where
    no_spf : (t : Bool) (o : Option (List ℕ)) → t ≡ true → not (t && is_some o) ≡ true → o ≡ None
    no_spf true None e g = refl
    no_spf true (Some x) e g = absurd (true≢false (sym g))
    no_spf false o e g = absurd (true≢false (sym e))

-- ---- at a free name below

free_zone : (zones : List Zone) (label : List ℕ) (name : List (List ℕ)) (zone : Zone) → zone_of zones name ≡ Some zone → is_taken zones (label ∷ name) ≡ false
    → zone_of zones (label ∷ name) ≡ Some zone
free_zone zones label name zone e free =
    ap (λ here. or_above here (zone_of zones name))
    (none_found (λ z. same_name z.origin (label ∷ name)) zones
    (all_weaker (λ z. is_under z.origin (label ∷ name) ≡ false) (λ z. same_name z.origin (label ∷ name) ≡ false) zones (λ z h. apart z.origin (label ∷ name) h)
    (each_false (λ z. is_under z.origin (label ∷ name)) zones (or_parts (has_record_under (zone_of zones (label ∷ name)) (label ∷ name)) (list_any (λ z. is_under z.origin (label ∷ name)) zones) free).1)))
    ∙ e
  where
    apart : (a b : List (List ℕ)) → is_under a b ≡ false → same_name a b ≡ false
    apart a b h = false_from_ne_true _ (λ (same : same_name a b ≡ true). true≢false (sym (under_itself a b (same_true a b same)) ∙ h))

free_records : (zones : List Zone) (label : List ℕ) (name : List (List ℕ)) (zone : Zone) → zone_of zones name ≡ Some zone → is_taken zones (label ∷ name) ≡ false
    → AllByRecursion (λ r. is_under r.owner (label ∷ name) ≡ false) zone.records
free_records zones label name zone e free =
    each_false (λ r. is_under r.owner (label ∷ name)) zone.records
    (sym (ap (λ o. has_record_under o (label ∷ name)) (free_zone zones label name zone e free))
    ∙ (or_parts (has_record_under (zone_of zones (label ∷ name)) (label ∷ name)) (list_any (λ z. is_under z.origin (label ∷ name)) zones) free).0)

free_plain : (below : List (List ℕ)) (r : Record) → is_under r.owner below ≡ false → same_name r.owner below ≡ true → IsPlain r.body
free_plain below r h at = absurd (true≢false (sym (under_itself r.owner below (same_true r.owner below at)) ∙ h))

free_uncut : (origin : List (List ℕ)) (label : List ℕ) (name : List (List ℕ)) (r : Record) → is_under r.owner (label ∷ name) ≡ false → cuts origin name r ≡ false
    → cuts origin (label ∷ name) r ≡ false
free_uncut origin label name r free h =
    ap (λ b. is_delegation r.body && b && is_under r.owner origin && not (same_name r.owner origin))
    (parent_under label name r.owner (λ (e : label ∷ name ≡ r.owner). true≢false (sym (under_itself r.owner (label ∷ name) (sym e)) ∙ free)))
    ∙ h

all_both : (P Q R : Record → Type 0) (records : List Record) → ((r : Record) → P r → Q r → R r) → AllByRecursion P records → AllByRecursion Q records → AllByRecursion R records
all_both P Q R [] f h g = tt
all_both P Q R (r ∷ records) f h g = (f r h.0 g.0, all_both P Q R records f h.1 g.1)

-- ---- the law

-- what the law says of one zone that holds the name
module _ (a : Address) (zones : List Zone) (domain label : List ℕ) (name : List (List ℕ)) (lists : List (List FlatTerm)) (zone : Zone) (held : zone_of zones name ≡ Some zone) (no_cut : is_cut_off zone name ≡ false) where
  uncut_records : AllByRecursion (λ r. cuts zone.origin name r ≡ false) zone.records
  uncut_records = each_false (cuts zone.origin name) zone.records no_cut

  first_stands : (text : List ℕ) → has_own_alias zones name ≡ false → filter (λ r. same_name r.owner name) (written_records domain label name 0 lists) ≡ txt_record name text ∷ []
      → is_spf_text text ≡ true → Holds (says (patched zones name (written_records domain label name 0 lists)) a) name text
  first_stands text no_alias one spf =
      let new : List Record = written_records domain label name 0 lists in
      holds (patched zones name new) (patched_zone name new zone) name text (kept name zone.records) new (zone_patched zones name name new zone held held)
      (record {
        records = refl;
        at_name = one;
        old_uncut = kept_also (λ r. cuts zone.origin name r ≡ false) name zone.records uncut_records;
        new_uncut = written_uncut domain label name zone.origin name 0 lists;
        plain = plain_kept name zone.records (no_target name zone.records (sym (ap (λ o. list_any (λ body. is_some (target_of body)) (bodies_in o name)) held) ∙ no_alias));
        spf = spf;
      }) a

  later_stands : (front text : List ℕ) → is_taken zones (front ∷ name) ≡ false
      → filter (λ r. same_name r.owner (front ∷ name)) (written_records domain label name 0 lists) ≡ txt_record (front ∷ name) text ∷ []
      → is_spf_text text ≡ true → Holds (says (patched zones name (written_records domain label name 0 lists)) a) (front ∷ name) text
  later_stands front text free one spf =
      let new : List Record = written_records domain label name 0 lists in
      let below : List (List ℕ) = front ∷ name in
      let clear : AllByRecursion (λ r. is_under r.owner (front ∷ name) ≡ false) zone.records = free_records zones front name zone held free in
      holds (patched zones name new) (patched_zone name new zone) below text (kept name zone.records) new (zone_patched zones name below new zone held (free_zone zones front name zone held free))
      (record {
        records = refl;
        at_name = one;
        old_uncut = kept_also (λ r. cuts zone.origin (front ∷ name) r ≡ false) name zone.records
            (all_both (λ r. is_under r.owner (front ∷ name) ≡ false) (λ r. cuts zone.origin name r ≡ false) (λ r. cuts zone.origin (front ∷ name) r ≡ false) zone.records
            (λ r h g. free_uncut zone.origin front name r h g) clear uncut_records);
        new_uncut = written_uncut domain label name zone.origin (front ∷ name) 0 lists;
        plain = kept_also (λ r. same_name r.owner (front ∷ name) ≡ true → IsPlain r.body) name zone.records
            (all_weaker (λ r. is_under r.owner (front ∷ name) ≡ false) (λ r. same_name r.owner (front ∷ name) ≡ true → IsPlain r.body) zone.records (λ r h. free_plain (front ∷ name) r h) clear);
        spf = spf;
      }) a

  patched_at : has_own_alias zones name ≡ false → ((k : ℕ) → 1 ≤ k → k < length lists → is_taken zones (record_owner name label k) ≡ false)
      → HoldAt (says (patched zones name (written_records domain label name 0 lists)) a) domain label name (length lists) (written_records domain label name 0 lists)
  patched_at no_alias free k terms behind below one = by (k == 0) refl
    where
      text : List ℕ
      text = record_text domain label terms k (is_none behind)

      Stands : List (List ℕ) → Type 0
      Stands owner = filter (λ r. same_name r.owner owner) (written_records domain label name 0 lists) ≡ txt_record owner text ∷ []
          → Holds (says (patched zones name (written_records domain label name 0 lists)) a) owner text

      by : (t : Bool) → (k == 0) ≡ t → Holds (says (patched zones name (written_records domain label name 0 lists)) a) (record_owner name label k) text
      by true e = subst Stands (sym (owner_first name label k e)) (λ own. first_stands text no_alias own (record_is_spf domain label terms k (is_none behind))) one
      by false e =
          let later : k ≢ 0 = eqb-false k 0 e in
          let own_free : is_taken zones ((label ++ decimal k) ∷ name) ≡ false = sym (ap (is_taken zones) (owner_later name label k e)) ∙ free k (omega arith) below in
          subst Stands (sym (owner_later name label k e)) (λ own. later_stands (label ++ decimal k) text own_free own (record_is_spf domain label terms k (is_none behind))) one

pub records_stand_patched : RecordsStandPatched
records_stand_patched zones domain label name lists few held no_alias free a =
    hold_all (says (patched zones name (written_records domain label name 0 lists)) a) domain label name lists few
    (patched_at a zones domain label name lists held.zone held.holds held.no_cut no_alias free)
