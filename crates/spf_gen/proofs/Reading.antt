-- The bytes of a zone are read as its records.
use Rattle.std.proofs.Common.{ℕ, ◌≡◌, ◌+◌, ◌<◌, ◌≤◌, true, false, List, [], ◌∷◌, ◌++◌, length, map, flat_map, decimal, Ok, Option, Some, None, refl, sym, ap, subst, ◌∙◌, arith, append_assoc}
use Rattle.std.specs.Prelude.{codes}
use Rattle.std.specs.Fmt.{digits}
use Rattle.std.specs.List.{list_all, range_with_len}
use Rattle.std.proofs.lemmas.Fmt.{decimal_digit}
use Rattle.dns_name.specs.Name.{is_under}
use Rattle.master_reader.specs.Entry.{is_dollar_word}
use Rattle.master_reader.specs.Tokens.{name_in}
use Rattle.master_reader.specs.declared.record.Record.{Record}
use Rattle.record_pack.specs.Records.{terms_text}
use Rattle.zone_writer.specs.Fragment.{strings_of}
use Rattle.zone_writer.proofs.Fragments.{IsOwner, at_is_owner, context_at, record_parts, strings_text, text_on}
use Rattle.zone_writer.proofs.Lines.{ReadsOn, is_bare_byte, line_text, nothing_on, plain_token}
use Rattle.zone_writer.proofs.Texts.{HasStringBytes}
use Rattle.spf_gen.specs.Generated.{behind_owner, include_text, includes_text, record_line, zone_text}
use Rattle.spf_gen.specs.Networks.{terms_in}
use Rattle.spf_gen.specs.Records.{ZoneIsRead, network_record, record_owner, text_record, trial_name}
use Rattle.spf_gen.proofs.Places.{ArePlaces, each_place, eight_places}
use Rattle.spf_gen.proofs.Texts.{text_bytes, text_short}

-- ---- a line

line_is : (first text : List ℕ) → first ++ behind_owner text ≡ line_text first (record_parts false (strings_of text))
unfolding behind_owner
line_is first text =
    ap (λ (t : List ℕ). first ++ ((codes " TXT" ++ t) ++ 10 ∷ [])) (sym (strings_text (strings_of text)))
    ∙ sym (append_assoc first _ (10 ∷ []))

owner_line_on : (last : Option (List (List ℕ))) (line : ℕ) (first : List ℕ) (owner : List (List ℕ)) (text rest : List ℕ) (others : List Record)
    → IsOwner trial_name first owner → HasStringBytes text → length text ≤ 65278
    → ((n : ℕ) → ReadsOn trial_name (context_at trial_name (Some owner)) n rest others)
    → ReadsOn trial_name (context_at trial_name last) line ((first ++ behind_owner text) ++ rest) (text_record owner text ∷ others)
owner_line_on last line first owner text rest others is bytes short on =
    subst (λ (t : List ℕ). ReadsOn trial_name (context_at trial_name last) line (t ++ rest) (text_record owner text ∷ others)) (sym (line_is first text))
    (text_on trial_name last line first owner false text rest others is bytes short on)

-- ---- the record at the top

-- its text, byte by byte
pub includes_are : includes_text
    ≡ codes "v=spf1 include:n0.trial.example include:n1.trial.example include:n2.trial.example include:n3.trial.example include:n4.trial.example include:n5.trial.example include:n6.trial.example include:n7.trial.example ~all"
unfolding includes_text include_text digits
includes_are = refl

includes_bytes : HasStringBytes includes_text
includes_bytes = subst HasStringBytes (sym includes_are) refl

includes_short : length includes_text ≤ 65278
includes_short = omega (arith, ap (λ (t : List ℕ). length t) includes_are)

-- ---- the records that it includes

owner_of_digit : (d : ℕ) → list_all is_bare_byte (110 ∷ d ∷ []) ≡ true → is_dollar_word (plain_token (110 ∷ d ∷ [])) ≡ false
    → name_in trial_name (plain_token (110 ∷ d ∷ [])) ≡ Ok ((110 ∷ d ∷ []) ∷ trial_name) → is_under ((110 ∷ d ∷ []) ∷ trial_name) trial_name ≡ true
    → IsOwner trial_name (110 ∷ d ∷ []) ((110 ∷ d ∷ []) ∷ trial_name)
owner_of_digit d each no_dollar named under = record { word = record { some = omega arith; each = each }; no_dollar = no_dollar; named = named; under = under }

place_is_owner : (k : ℕ) → k < 8 → IsOwner trial_name (codes "n" ++ decimal k) (record_owner k)
place_is_owner k place =
    subst (λ (ds : List ℕ). IsOwner trial_name (codes "n" ++ ds) ((codes "n" ++ ds) ∷ trial_name)) (sym (decimal_digit k (omega (arith, place))))
    (each_place (λ i. IsOwner trial_name (110 ∷ (48 + i) ∷ []) ((110 ∷ (48 + i) ∷ []) ∷ trial_name))
    (owner_of_digit 48 refl refl refl refl) (owner_of_digit 49 refl refl refl refl) (owner_of_digit 50 refl refl refl refl) (owner_of_digit 51 refl refl refl refl)
    (owner_of_digit 52 refl refl refl refl) (owner_of_digit 53 refl refl refl refl) (owner_of_digit 54 refl refl refl refl) (owner_of_digit 55 refl refl refl refl) k place)

places_on : (start n : ℕ) → n ≤ 10000 → (places : List ℕ) → ArePlaces places → (last : Option (List (List ℕ))) (line : ℕ)
    → ReadsOn trial_name (context_at trial_name last) line (flat_map (record_line start n) places) (map (network_record start n) places)
unfolding record_line
places_on start n few [] h last line = nothing_on trial_name (context_at trial_name last) line
places_on start n few (k ∷ places) h last line =
    owner_line_on last line (codes "n" ++ decimal k) (record_owner k) (terms_text (terms_in start n k)) (flat_map (record_line start n) places) (map (network_record start n) places) (place_is_owner k h.0)
    (text_bytes start n k) (text_short start n k few h.0) (λ m. places_on start n few places h.1 (Some (record_owner k)) m)

-- ---- the zone

pub zone_is_read : ZoneIsRead
unfolding zone_text
zone_is_read start n few =
    let whole =
    owner_line_on None 1 (codes "@") trial_name includes_text (flat_map (record_line start n) (range_with_len 0 8)) (map (network_record start n) (range_with_len 0 8)) (at_is_owner trial_name) includes_bytes includes_short
    (λ m. places_on start n few (range_with_len 0 8) eight_places (Some trial_name) m) in
    record {
      entries = whole.entries;
      last = whole.last;
      context = whole.behind;
      in_order = whole.in_order;
      meaning = whole.meaning;
    }
