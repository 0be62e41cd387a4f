-- The zone that a number makes, for trials of large valid input: the project's own choice.
use Rattle.std.specs.Prelude.{ℕ, List, [], ◌∷◌, ◌++◌, flat_map, decimal, codes}
use Rattle.std.specs.List.{range_with_len}
use Rattle.record_pack.specs.Records.{terms_text}
use Rattle.zone_writer.specs.Fragment.{quoted, strings_of}
use Rattle.spf_gen.specs.Networks.{terms_in}

-- RFC 7208, section 5.2: the term that includes record k
unfoldable pub include_text : (k : ℕ) → List ℕ
include_text k = codes " include:n" ++ decimal k ++ codes ".trial.example"

-- RFC 7208, section 4.5: the record at the top includes the eight others
unfoldable pub includes_text : List ℕ
includes_text = codes "v=spf1" ++ flat_map include_text (range_with_len 0 8) ++ codes " ~all"

-- RFC 1035, section 5.1: what stands behind the owner on the line of a TXT record
unfoldable pub behind_owner : (text : List ℕ) → List ℕ
behind_owner text = codes " TXT" ++ flat_map quoted (strings_of text) ++ 10 ∷ []

-- RFC 1035, section 5.1: the line of record k
unfoldable pub record_line : (start n k : ℕ) → List ℕ
record_line start n k = codes "n" ++ decimal k ++ behind_owner (terms_text (terms_in start n k))

-- RFC 1035, section 5.1: the zone of trial.example with n networks
unfoldable pub zone_text : (start n : ℕ) → List ℕ
zone_text start n = codes "@" ++ behind_owner includes_text ++ flat_map (record_line start n) (range_with_len 0 8)
