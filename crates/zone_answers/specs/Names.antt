-- What the other calls say of a name. They are the project's own.
use Rattle.std.specs.Prelude.{ℕ, Bool, false, ◌||◌, List, [], length, Option, Some, None, sum_by, is_some}
use Rattle.std.specs.Prelude.{if◌then◌else◌}
use Rattle.std.specs.List.{list_any, concat}
use Rattle.spf_text.specs.Version.{is_spf_text}
use Rattle.dns_name.specs.Name.{is_under}
use Rattle.master_reader.specs.declared.record.Body.{Body}
use Rattle.master_reader.specs.declared.record.Body.TheVariants.{Txt}
use Rattle.zone_answers.specs.Zone.{Zone}
use Rattle.zone_answers.specs.Answers.{zone_of, bodies_at, has_record, target_of}

-- the bodies at the name, in the zone that holds it
abbrev pub bodies_in : Option Zone → List (List ℕ) → List Body
bodies_in None name = []
bodies_in (Some zone) name = bodies_at zone name

-- project's own form: the bodies at the name, in the zone of these that holds it
abbrev pub bodies_of : List Zone → List (List ℕ) → List Body
bodies_of zones name = bodies_in (zone_of zones name) name

-- whether a CNAME record stands at the name
abbrev pub has_own_alias : List Zone → List (List ℕ) → Bool
has_own_alias zones name = list_any (λ body. is_some (target_of body)) (bodies_of zones name)

-- RFC 7208, section 3.3: the strings of a TXT record joined; its length, unless it is an SPF text
abbrev pub other_len : Body → ℕ
other_len (Txt strings) = if is_spf_text (concat strings) then 0 else length (concat strings)
other_len _ = 0

-- RFC 7208, section 3.3, and the project's own choice: the octets of the joined texts at the name that are no SPF texts
abbrev pub other_text_of : List Zone → List (List ℕ) → ℕ
other_text_of zones name = sum_by other_len (bodies_of zones name)

-- whether a record stands at or below the name, in the zone that holds it
abbrev pub has_record_under : Option Zone → List (List ℕ) → Bool
has_record_under None name = false
has_record_under (Some zone) name = has_record zone.records name

-- project's own choice: a record of the zone that holds the name stands at or below it, or a lent origin does
abbrev pub is_taken : List Zone → List (List ℕ) → Bool
is_taken zones name = has_record_under (zone_of zones name) name || list_any (λ z. is_under z.origin name) zones
