-- The records of a generated zone may be lent alone, and are found at their names.
use Rattle.std.proofs.Common.{◌≡◌, ℕ, ◌<◌, ◌==◌, Bool, true, false, cond, List, [], ◌∷◌, ◌++◌, map, decimal, refl, ap, ◌∙◌, arith}
use Rattle.std.specs.Prelude.{codes}
use Rattle.std.specs.List.{AllByRecursion, filter, range_with_len}
use Rattle.std.proofs.lemmas.List.FromFn.{length-map-range_with_len}
use Rattle.master_reader.specs.declared.record.Record.{Record}
use Rattle.zone_answers.specs.Lend.{IsLent, with_zone}
use Rattle.zone_answers.specs.Same.{distinct_records, same_name}
use Rattle.zone_answers.specs.Zone.{Zone}
use Rattle.zone_answers.proofs.Distinct.{all_distinct}
use Rattle.zone_answers.proofs.Lending.{count_with}
use Rattle.addr_bits.specs.declared.address.Address.{Address}
use Rattle.spf_model.specs.Run.{says}
use Rattle.record_pack.specs.Records.{terms_text}
use Rattle.zone_writer.specs.Fragment.{strings_of}
use Rattle.published_records.specs.Chain.{Holds}
use Rattle.published_records.proofs.StandingAlone.{ClashesNever, length_distinct, lone_at, lone_below, no_clash, txt_clash}
use Rattle.published_records.proofs.StandingFound.{cuts, holds}
use Rattle.spf_gen.specs.Generated.{includes_text}
use Rattle.spf_gen.specs.Networks.{terms_in}
use Rattle.spf_gen.specs.Records.{network_record, record_owner, text_record, trial_name, zone_records}
use Rattle.spf_gen.proofs.Places.{ArePlaces, eight_places}
use Rattle.policy_trial.proofs.Places.{apart_top, one_place, owners_same, top_apart}
use Rattle.policy_trial.proofs.Policies.{terms_are_spf, top_is_spf}

-- ---- what holds of all of them

each_network : (P : Record → Type 0) (start n : ℕ) → ((k : ℕ) → P (network_record start n k)) → (places : List ℕ) → AllByRecursion P (map (network_record start n) places)
each_network P start n each [] = tt
each_network P start n each (k ∷ places) = (each k, each_network P start n each places)

each_record : (P : Record → Type 0) (start n : ℕ) → ((owner : List (List ℕ)) (text : List ℕ) → P (text_record owner text)) → AllByRecursion P (zone_records start n)
each_record P start n each = (each trial_name includes_text, each_network P start n (λ k. each (record_owner k) (terms_text (terms_in start n k))) (range_with_len 0 8))

-- ---- they may be lent

abbrev pub zone_alone : (start n : ℕ) → List Zone
zone_alone start n = with_zone [] trial_name (zone_records start n)

pub zone_lent : (start n : ℕ) → IsLent [] trial_name (zone_records start n)
zone_lent start n =
    let all : List Record = zone_records start n in
    record {
      new_origin = refl;
      room = omega (arith, count_with [] trial_name all, length_distinct all, length-map-range_with_len (network_record start n) 0 8);
      no_clash = λ owner. no_clash (record { origin = trial_name; records = distinct_records all }) owner
          (all_distinct (λ r. ClashesNever r.body) all (each_record (λ r. ClashesNever r.body) start n (λ name text. txt_clash (strings_of text))));
    }

-- ---- each stands at its name alone

abbrev stands_at : (owner : List (List ℕ)) → Record → Bool
stands_at owner r = same_name r.owner owner

places_at : (f : ℕ → Record) (p : Record → Bool) (q : ℕ → Bool) → ((i : ℕ) → i < 8 → p (f i) ≡ q i) → (places : List ℕ) → ArePlaces places → filter p (map f places) ≡ map f (filter q places)
places_at f p q same [] h = refl
places_at f p q same (i ∷ places) h = by (q i) (same i h.0) (places_at f p q same places h.1)
  where
    by : (t : Bool) → p (f i) ≡ t → filter p (map f places) ≡ map f (filter q places)
        → cond (p (f i)) (f i ∷ filter p (map f places)) (filter p (map f places)) ≡ map f (cond t (i ∷ filter q places) (filter q places))
    by true e rest = ap (λ b. cond b (f i ∷ filter p (map f places)) (filter p (map f places))) e ∙ ap (λ rs. f i ∷ rs) rest
    by false e rest = ap (λ b. cond b (f i ∷ filter p (map f places)) (filter p (map f places))) e ∙ rest

none_at_top : (start n : ℕ) (places : List ℕ) → filter (stands_at trial_name) (map (network_record start n) places) ≡ []
none_at_top start n [] = refl
none_at_top start n (k ∷ places) =
    ap (λ b. cond b (network_record start n k ∷ filter (stands_at trial_name) (map (network_record start n) places)) (filter (stands_at trial_name) (map (network_record start n) places))) (apart_top k)
    ∙ none_at_top start n places

at_top : (start n : ℕ) → filter (stands_at trial_name) (zone_records start n) ≡ text_record trial_name includes_text ∷ []
at_top start n = ap (λ (rs : List Record). text_record trial_name includes_text ∷ rs) (none_at_top start n (range_with_len 0 8))

at_place : (start n k : ℕ) → k < 8 → filter (stands_at (record_owner k)) (zone_records start n) ≡ network_record start n k ∷ []
at_place start n k place =
    ap (λ b. cond b (text_record trial_name includes_text ∷ filter (stands_at (record_owner k)) (map (network_record start n) (range_with_len 0 8))) (filter (stands_at (record_owner k)) (map (network_record start n) (range_with_len 0 8))))
    (top_apart k)
    ∙ places_at (network_record start n) (stands_at (record_owner k)) (λ i. i == k) (λ i below. owners_same i k below place) (range_with_len 0 8) eight_places
    ∙ ap (map (network_record start n)) (one_place k place)

-- ---- what is found there

uncut : (start n : ℕ) (name : List (List ℕ)) → AllByRecursion (λ r. cuts trial_name name r ≡ false) (zone_records start n)
uncut start n name = each_record (λ r. cuts trial_name name r ≡ false) start n (λ owner text. refl)

abbrev lone_zone : (start n : ℕ) → Zone
lone_zone start n = record { origin = trial_name; records = distinct_records (zone_records start n) }

pub holds_top : (start n : ℕ) (a : Address) → Holds (says (zone_alone start n) a) trial_name includes_text
holds_top start n a =
    holds (zone_alone start n) (lone_zone start n) trial_name includes_text [] (zone_records start n) (lone_at trial_name (zone_records start n))
    (record {
      records = refl;
      at_name = at_top start n;
      old_uncut = tt;
      new_uncut = uncut start n trial_name;
      plain = tt;
      spf = top_is_spf;
    }) a

pub holds_place : (start n k : ℕ) → k < 8 → (a : Address) → Holds (says (zone_alone start n) a) (record_owner k) (terms_text (terms_in start n k))
holds_place start n k place a =
    holds (zone_alone start n) (lone_zone start n) (record_owner k) (terms_text (terms_in start n k)) [] (zone_records start n) (lone_below trial_name (codes "n" ++ decimal k) (zone_records start n))
    (record {
      records = refl;
      at_name = at_place start n k place;
      old_uncut = tt;
      new_uncut = uncut start n (record_owner k);
      plain = tt;
      spf = terms_are_spf (terms_in start n k);
    }) a
