-- What lending a zone does.
use Rattle.std.proofs.Common.{◌≡◌, ℕ, ◌+◌, ◌≤◌, Bool, true, false, cond, ◌||◌, MatchOption, List, [], ◌∷◌, ◌++◌, length, find, is_some, Option, Some, None, refl, sym, ap, ap₂, subst, ◌∙◌, true≢false, arith}
use Rattle.std.proofs.lemmas.Bool.{or_parts}
use Rattle.std.proofs.lemmas.List.Sums.{sum_by-append, sum_by-cons}
use Rattle.std.proofs.lemmas.List.Folds.{list_any-append}
use Rattle.dns_name.specs.Name.{IsUnder}
use Rattle.dns_name.proofs.Names.{same_name_decides}
use Rattle.dns_name.proofs.Octets.{all_append}
use Rattle.master_reader.specs.declared.record.Record.{Record}
use Rattle.zone_answers.specs.Zone.{Zone}
use Rattle.zone_answers.specs.Same.{same_name, distinct_records, records_in}
use Rattle.zone_answers.specs.Lend.{AreLendable, AreZones, HaveOrigins, IsBodyFit, has_origin, with_zone, has_clash, IsLeastClash}
use Rattle.zone_answers.proofs.Distinct.{all_distinct, distinct_twice}

pub origin_found : (zones : List Zone) (origin : List (List ℕ)) → is_some (find (λ z. same_name z.origin origin) zones) ≡ has_origin zones origin
origin_found [] origin = refl
origin_found (z ∷ zones) origin = by (same_name z.origin origin) (origin_found zones origin)
  where
    by : (t : Bool) → is_some (find (λ y. same_name y.origin origin) zones) ≡ has_origin zones origin → is_some (cond t (Some z) (find (λ y. same_name y.origin origin) zones)) ≡ t || has_origin zones origin
    by true e = refl
    by false e = e

pub count_with : (zones : List Zone) (origin : List (List ℕ)) (records : List Record) → records_in (with_zone zones origin records) ≡ records_in zones + length (distinct_records records)
count_with zones origin records =
    let size : Zone → ℕ = λ z. length (distinct_records z.records) in
    let new : Zone = record { origin = origin; records = distinct_records records } in
    sum_by-append size zones (new ∷ []) ∙ ap (λ (n : ℕ). records_in zones + n) (sum_by-cons size new [] ∙ omega (arith, ap length (distinct_twice records)))

pub lendable_distinct : (origin : List (List ℕ)) (records : List Record) → AreLendable origin records → AreLendable origin (distinct_records records)
lendable_distinct origin records h = all_distinct (λ r. IsUnder r.owner origin × IsBodyFit r.body) records h

apart_origins : (a b : List (List ℕ)) → same_name a b ≡ false → same_name b a ≡ false
apart_origins a b h = by (same_name b a) refl
  where
    by : (t : Bool) → same_name b a ≡ t → t ≡ false
    by false e = refl
    by true e = absurd (true≢false (sym ((same_name_decides a b).1 (sym ((same_name_decides b a).0 e))) ∙ h))

origins_more : (zones : List Zone) (zone : Zone) → HaveOrigins zones → has_origin zones zone.origin ≡ false → HaveOrigins (zones ++ zone ∷ [])
origins_more [] zone h f = (refl, tt)
origins_more (z ∷ zones) zone h f =
    let p = or_parts (same_name z.origin zone.origin) (has_origin zones zone.origin) f in
    (list_any-append (λ y. same_name y.origin z.origin) zones (zone ∷ []) ∙ ap₂ (λ (a b : Bool). a || (b || false)) h.0 (apart_origins z.origin zone.origin p.0), origins_more zones zone h.1 p.1)

pub zones_more : (zones more : List Zone) (zone : Zone) (origin : List (List ℕ)) (records : List Record) → AreZones zones → has_origin zones origin ≡ false → AreLendable origin records
    → records_in (with_zone zones origin records) ≤ 65536 → zone ≡ record { origin = origin; records = distinct_records records } → more ≡ zones ++ zone ∷ [] → AreZones more
zones_more zones more zone origin records z new lendable room is e =
    subst AreZones (sym (e ∙ ap (λ (y : Zone). zones ++ y ∷ []) is)) (record {
      origins = origins_more zones (record { origin = origin; records = distinct_records records }) z.origins new;
      lendable = all_append (λ y. AreLendable y.origin y.records) zones _ z.lendable (lendable_distinct origin records lendable, tt);
      distinct = all_append (λ y. distinct_records y.records ≡ y.records) zones _ z.distinct (distinct_twice records, tt);
      room = room;
    })

-- the new zone as the code has it, and what was found of its clashes
pub clash_of : (zone new : Zone) (least : Option (List (List ℕ))) (name : List (List ℕ)) → zone ≡ new → least ≡ Some name → MatchOption least ((owner : List (List ℕ)) → has_clash zone owner ≡ false) (IsLeastClash zone) → IsLeastClash new name
clash_of zone new least name z e h =
    subst (λ (y : Zone). IsLeastClash y name) z (subst (λ (o : Option (List (List ℕ))). MatchOption o ((owner : List (List ℕ)) → has_clash zone owner ≡ false) (IsLeastClash zone)) e h)

pub no_clash_of : (zone new : Zone) (least : Option (List (List ℕ))) → zone ≡ new → least ≡ None → MatchOption least ((owner : List (List ℕ)) → has_clash zone owner ≡ false) (IsLeastClash zone) → (owner : List (List ℕ)) → has_clash new owner ≡ false
no_clash_of zone new least z e h =
    subst (λ (y : Zone). (owner : List (List ℕ)) → has_clash y owner ≡ false) z (subst (λ (o : Option (List (List ℕ))). MatchOption o ((owner : List (List ℕ)) → has_clash zone owner ≡ false) (IsLeastClash zone)) e h)
