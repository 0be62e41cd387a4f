-- The records that the bytes of a generated zone are read as: the project's own choice.
use Rattle.std.specs.Prelude.{ℕ, ◌≤◌, List, [], ◌∷◌, ◌++◌, map, decimal, codes}
use Rattle.std.specs.List.{range_with_len}
use Rattle.master_reader.specs.Reading.{Reads}
use Rattle.master_reader.specs.declared.record.Body.TheVariants.{Txt}
use Rattle.master_reader.specs.declared.record.Record.{Record}
use Rattle.record_pack.specs.Records.{terms_text}
use Rattle.zone_writer.specs.Fragment.{strings_of}
use Rattle.spf_gen.specs.Generated.{includes_text, zone_text}
use Rattle.spf_gen.specs.Networks.{terms_in}

-- the domain of a trial, which is the origin of its zone
abbrev pub trial_text : List ℕ
trial_text = codes "trial.example"

abbrev pub trial_name : List (List ℕ)
trial_name = codes "trial" ∷ codes "example" ∷ []

-- the name of record k
abbrev pub record_owner : (k : ℕ) → List (List ℕ)
record_owner k = (codes "n" ++ decimal k) ∷ trial_name

-- RFC 1035, section 3.3.14: a TXT record with a text in its strings
abbrev pub text_record : (owner : List (List ℕ)) → (text : List ℕ) → Record
text_record owner text = record { owner = owner; body = Txt (strings_of text) }

-- record k, of n networks
abbrev pub network_record : (start n k : ℕ) → Record
network_record start n k = text_record (record_owner k) (terms_text (terms_in start n k))

-- the record at the top, and the eight that it includes
abbrev pub zone_records : (start n : ℕ) → List Record
zone_records start n = text_record trial_name includes_text ∷ map (network_record start n) (range_with_len 0 8)

-- RFC 1035, section 5: the bytes of a zone of up to 10,000 networks are read as these records, by a reader of the zone
-- of the domain
abbrev pub ZoneIsRead : Type 0
ZoneIsRead = (start n : ℕ) → n ≤ 10000 → Reads trial_name (zone_text start n) (zone_records start n)
