-- The forms of a TTL.
use Rattle.std.specs.Prelude.{ℕ, ◌*◌, Bool, ◌&&◌, ◌||◌, List, [], ◌∷◌, length, sum_by, nat_lt, nat_le, ◌==◌}
use Rattle.std.specs.Prelude.{if◌then◌else◌}
use Rattle.std.specs.List.{list_all, onto_first}
use Rattle.std.specs.Char.{to_ascii_lowercase}
use Rattle.std.specs.Str.Parse.{digits_value}
use Rattle.dns_name.specs.Parts.{without_final}
use Rattle.master_reader.specs.Tokens.{are_digits}

-- project's own choice: the seconds of the unit letters w, d, h, m and s of either case, and 0 of every other byte
abbrev pub seconds_in : ℕ → ℕ
seconds_in letter =
    let l = to_ascii_lowercase letter in
    if l == 119 then 604800
    else (if l == 100 then 86400
    else (if l == 104 then 3600
    else (if l == 109 then 60
    else (if l == 115 then 1
    else 0))))

-- project's own choice: the letters that stand for some seconds
abbrev pub is_unit : ℕ → Bool
is_unit b = nat_lt 0 (seconds_in b)

-- cut behind each unit letter
abbrev pub groups_in : List ℕ → List (List ℕ)
groups_in [] = []
groups_in (b ∷ bytes) = let groups = groups_in bytes in if is_unit b then (b ∷ []) ∷ groups else onto_first b groups

-- the seconds of the last byte
abbrev pub unit_of : List ℕ → ℕ
unit_of [] = 0
unit_of (b ∷ []) = seconds_in b
unit_of (b ∷ c ∷ bytes) = unit_of (c ∷ bytes)

-- project's own choice: a group is digits and one unit letter
abbrev pub is_group : List ℕ → Bool
is_group group = nat_lt 0 (unit_of group) && are_digits (without_final is_unit group)

-- project's own choice: the seconds of a group: its digits times its unit
abbrev pub seconds_of : List ℕ → ℕ
seconds_of group = digits_value 10 (without_final is_unit group) * unit_of group

-- project's own choice: one or more groups, whose seconds together are at most 4,294,967,295
abbrev pub are_groups : List ℕ → Bool
are_groups bytes =
    nat_lt 0 (length bytes) && list_all is_group (groups_in bytes)
    && nat_le (sum_by seconds_of (groups_in bytes)) 4294967295

-- RFC 1035, section 5.1: digits alone; or groups, which are the project's own choice, as is the greatest value
abbrev pub is_ttl : List ℕ → Bool
is_ttl bytes = (are_digits bytes && nat_le (digits_value 10 bytes) 4294967295) || are_groups bytes
