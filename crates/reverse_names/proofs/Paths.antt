-- The paths to the names at which something is lent.
use Rattle.std.proofs.Common.{◌≡◌, ℕ, ◌<◌, ◌≤◌, ◌^◌, Bool, true, false, not, ◌&&◌, ◌||◌, List, [], ◌∷◌, ◌++◌, get_or, refl, sym, ap, ap₂, ◌∙◌, true≢false}
use Rattle.std.specs.List.{list_any, All, AllByRecursion}
use Rattle.std.specs.List.Sorted.{IsPermutation}
use Rattle.std.proofs.lemmas.Bool.{and_parts, false_from_ne_true}
use Rattle.std.proofs.lemmas.List.Elements.{All-from_recursion}
use Rattle.std.proofs.lemmas.List.Folds.{list_any_at}
use Rattle.std.proofs.lemmas.List.Sorted.{All-permutation, list_any-IsPermutation}
use Rattle.addr_bits.specs.Address.{bits_of}
use Rattle.addr_bits.specs.declared.address.Family.{Family}
use Rattle.dns_name.specs.Name.{IsUnder, is_under}
use Rattle.dns_name.proofs.Names.{under_decides, same_name_decides}
use Rattle.zone_answers.specs.Zone.{Zone}
use Rattle.zone_answers.specs.Same.{same_name}
use Rattle.zone_answers.specs.Answers.{is_delegation}
use Rattle.zone_answers.proofs.Cuts.{any_also}
use Rattle.zone_answers.specs.Reversed.{AreNamesUnder, is_bare, is_lent_at, is_parted_at, lends_at, parts_at, label_bits, label_count, label_of, last_digits}
use Rattle.reverse_names.specs.declared.path.Path.{Path}
use Rattle.reverse_names.specs.Tree.{ArePaths, ArePathsTo, IsPath, ends, first_digits, node_of, reach}
use Rattle.reverse_names.proofs.Ends.{goes_on}

-- one name more
pub paths_more : (f : Family) (suffix name : List (List ℕ)) (path : Path) (names : List (List (List ℕ))) (paths : List Path) → ArePathsTo f suffix names paths → IsPath f suffix name path
    → ArePathsTo f suffix (names ++ name ∷ []) (paths ++ path ∷ [])
paths_more f suffix name path [] [] h p = (p, tt)
paths_more f suffix name path [] (q ∷ paths) h p = absurd h
paths_more f suffix name path (n ∷ names) [] h p = absurd h
paths_more f suffix name path (n ∷ names) (q ∷ paths) h p = (h.0, paths_more f suffix name path names paths h.1 p)

-- the names that are listed stand at or below the suffix
pub listed_under : (zones : List Zone) (suffix : List (List ℕ)) (names : List (List (List ℕ))) → AreNamesUnder zones suffix names → All (λ name. IsUnder name suffix) names
listed_under zones suffix names lent = λ k d h.
    let there : list_any (same_name (get_or names k d)) names ≡ true = list_any_at (same_name (get_or names k d)) names k d h ((same_name_decides (get_or names k d) (get_or names k d)).1 refl) in
    (under_decides (get_or names k d) suffix).0 (and_parts (is_lent_at zones (get_or names k d)) (is_under (get_or names k d) suffix) (sym (lent (get_or names k d)) ∙ there)).1

-- ---- what the paths say of the names

starts : (f : Family) (suffix : List (List ℕ)) (names : List (List (List ℕ))) (paths : List Path) → ArePathsTo f suffix names paths → AllByRecursion (λ path. path.start < 2 ^ bits_of f) paths
starts f suffix [] [] h = tt
starts f suffix [] (q ∷ paths) h = absurd h
starts f suffix (n ∷ names) [] h = absurd h
starts f suffix (n ∷ names) (q ∷ paths) h = (h.0.within, starts f suffix names paths h.1)

on_paths : (f : Family) (suffix : List (List ℕ)) (names : List (List (List ℕ))) (paths : List Path) (d a : ℕ) → ArePathsTo f suffix names paths → d ≤ label_count f → a < 2 ^ bits_of f
    → list_any (λ lent. is_under lent (node_of f suffix d a)) names ≡ list_any (reach f d a) paths
on_paths f suffix [] [] d a h l k = refl
on_paths f suffix [] (q ∷ paths) d a h l k = absurd h
on_paths f suffix (n ∷ names) [] d a h l k = absurd h
on_paths f suffix (n ∷ names) (q ∷ paths) d a h l k = ap₂ (λ (x y : Bool). x || y) (h.0.on d a l k) (on_paths f suffix names paths d a h.1 l k)

neither : (x y : Bool) → x || y ≡ false → (x ≡ false) × (y ≡ false)
neither true y h = absurd cc
neither false y h = (refl, h)

none_more : (x y : Bool) → x ≡ false → y ≡ false → x || y ≡ false
none_more x y h k = ap₂ (λ (a b : Bool). a || b) h k

none_there : (f : Family) (suffix : List (List ℕ)) (names : List (List (List ℕ))) (paths : List Path) (d a : ℕ) → ArePathsTo f suffix names paths → d < label_count f → a < 2 ^ bits_of f
    → list_any (ends f d a) paths ≡ false
    → (list_any (same_name (node_of f suffix d a)) names ≡ false) × (list_any (λ lent. is_under lent ((42 ∷ []) ∷ node_of f suffix d a)) names ≡ false)
none_there f suffix [] [] d a h l k off = (refl, refl)
none_there f suffix [] (q ∷ paths) d a h l k off = absurd h
none_there f suffix (n ∷ names) [] d a h l k off = absurd h
none_there f suffix (n ∷ names) (q ∷ paths) d a h l k off =
    let here = neither (ends f d a q) (list_any (ends f d a) paths) off in
    let g = goes_on f suffix n q d a under_decides h.0 l k here.0 in
    let rest = none_there f suffix names paths d a h.1 l k here.1 in (
      none_more (same_name (node_of f suffix d a) n) (list_any (same_name (node_of f suffix d a)) names)
          (false_from_ne_true (same_name (node_of f suffix d a) n) (λ t. g.0 (sym ((same_name_decides (node_of f suffix d a) n).0 t)))) rest.0,
      none_more (is_under n ((42 ∷ []) ∷ node_of f suffix d a)) (list_any (λ lent. is_under lent ((42 ∷ []) ∷ node_of f suffix d a)) names)
          (false_from_ne_true (is_under n ((42 ∷ []) ∷ node_of f suffix d a)) (λ t. g.1 ((under_decides n ((42 ∷ []) ∷ node_of f suffix d a)).0 t))) rest.1,
    )

-- ---- what they say of what is lent

node_under : (f : Family) (suffix : List (List ℕ)) (d a : ℕ) → IsUnder (node_of f suffix d a) suffix
node_under f suffix d a = (last_digits (label_bits f) (label_of f) d (first_digits f d a), refl)

star_under : (f : Family) (suffix : List (List ℕ)) (d a : ℕ) → IsUnder ((42 ∷ []) ∷ node_of f suffix d a) suffix
star_under f suffix d a = ((42 ∷ []) ∷ last_digits (label_bits f) (label_of f) d (first_digits f d a), refl)

not_lent : (lent under : Bool) → (lent && under) ≡ false → under ≡ true → lent ≡ false
not_lent false under h u = refl
not_lent true true h u = absurd cc
not_lent true false h u = absurd cc

pub are_paths : (zones : List Zone) (f : Family) (suffix : List (List ℕ)) (names : List (List (List ℕ))) (paths : List Path)
    → ((name : List (List ℕ)) → IsUnder name suffix → is_bare zones name ≡ not (list_any (λ lent. is_under lent name) names))
    → ((name : List (List ℕ)) → is_lent_at zones name ≡ false → is_parted_at zones name ≡ false)
    → AreNamesUnder zones suffix names → ArePathsTo f suffix names paths → ArePaths zones f suffix paths
are_paths zones f suffix names paths bare unparted lent h = record {
  within = All-from_recursion (λ path. path.start < 2 ^ bits_of f) paths (starts f suffix names paths h);
  bare = λ d a l k. bare (node_of f suffix d a) (node_under f suffix d a) ∙ ap not (on_paths f suffix names paths d a h l k);
  plain = λ d a l k off.
      let none = none_there f suffix names paths d a h l k off in (
        unparted (node_of f suffix d a) (not_lent (is_lent_at zones (node_of f suffix d a)) (is_under (node_of f suffix d a) suffix)
            (sym (lent (node_of f suffix d a)) ∙ none.0) ((under_decides (node_of f suffix d a) suffix).1 (node_under f suffix d a))),
        bare ((42 ∷ []) ∷ node_of f suffix d a) (star_under f suffix d a) ∙ ap not none.1,
      );
}

-- ---- in another order

pub sorted_paths : (zones : List Zone) (f : Family) (suffix : List (List ℕ)) (paths sorted : List Path) → IsPermutation paths sorted
    → ArePaths zones f suffix paths → ArePaths zones f suffix sorted
sorted_paths zones f suffix paths sorted moved h = record {
  within = All-permutation (λ path. path.start < 2 ^ bits_of f) paths sorted moved h.within;
  bare = λ d a l k. h.bare d a l k ∙ ap not (list_any-IsPermutation (reach f d a) paths sorted moved);
  plain = λ d a l k off. h.plain d a l k (list_any-IsPermutation (ends f d a) paths sorted moved ∙ off);
}

-- ---- origins and delegations are lent

either_less : (o x y : Bool) → (x ≡ true → y ≡ true) → o || x ≡ true → o || y ≡ true
either_less true x y h t = refl
either_less false x y h t = h t

parts_lend : (zone : Zone) (name : List (List ℕ)) → parts_at zone name ≡ true → lends_at zone name ≡ true
parts_lend zone name = either_less (same_name zone.origin name) (list_any (λ r. same_name r.owner name && is_delegation r.body) zone.records) (list_any (λ r. same_name r.owner name) zone.records)
    (any_also (λ r. same_name r.owner name && is_delegation r.body) (λ r. same_name r.owner name) zone.records (λ r t. (and_parts (same_name r.owner name) (is_delegation r.body) t).0))

pub unlent_unparted : (zones : List Zone) (name : List (List ℕ)) → is_lent_at zones name ≡ false → is_parted_at zones name ≡ false
unlent_unparted zones name off = false_from_ne_true (is_parted_at zones name) (λ t. true≢false (sym (any_also (λ z. parts_at z name) (λ z. lends_at z name) zones (λ z. parts_lend z name) t) ∙ off))
