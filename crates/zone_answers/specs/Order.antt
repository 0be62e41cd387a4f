-- The order of a zone's records by their owners. All of it is the project's own.
use Rattle.std.specs.Prelude.{◌≡◌, ℕ, suc, Bool, true, false, ◌&&◌, ◌||◌, ◌==◌, List, [], ◌∷◌, ◌++◌, length}
use Rattle.std.specs.List.{list_any}
use Rattle.std.specs.List.Sorted.{IsSorted}
use Rattle.std.specs.Cmp.Lexicographic.{slice_cmp}
use Rattle.std.specs.Ordering.{nat_cmp}
use Rattle.master_reader.specs.declared.record.Record.{Record}
use Rattle.zone_answers.specs.declared.order.Entry.{Entry}

-- the labels from the last to the first, each behind its length octet: names at or below one another stand together
abbrev pub key_of : List (List ℕ) → List ℕ
key_of [] = []
key_of (label ∷ name) = key_of name ++ length label ∷ label

-- the octets begin with the key
abbrev pub begins : (key octets : List ℕ) → Bool
begins [] octets = true
begins (k ∷ key) [] = false
begins (k ∷ key) (x ∷ octets) = (k == x) && begins key octets

-- by their keys
abbrev pub AreSorted : List Entry → Type 0
AreSorted entries = IsSorted (λ e f. slice_cmp nat_cmp e.key.items f.key.items) entries

-- whether a record, where the first of the list has this place, passes a test of its owner's key and its place
abbrev pub any_placed : (List ℕ → ℕ → Bool) → ℕ → List Record → Bool
any_placed test place [] = false
any_placed test place (r ∷ records) = test (key_of r.owner) place || any_placed test (suc place) records

-- the entries are those of the records, in any order
abbrev pub ArePlaced : List Record → List Entry → Type 0
ArePlaced records entries =
    (test : List ℕ → ℕ → Bool) → list_any (λ e. test e.key.items e.place) entries ≡ any_placed test 0 records
