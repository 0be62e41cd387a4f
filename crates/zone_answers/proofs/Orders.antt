-- Entries in the order of their keys.
use Rattle.std.proofs.Common.{◌≡◌, ℕ, zero, suc, ◌+◌, ◌-◌, ◌<◌, ◌≤◌, Bool, true, false, ◌&&◌, ◌||◌, List, [], ◌∷◌, ◌++◌, length, take, drop, get_or, slice_get, Option, None, Some, refl, sym, ap, ap₂, subst, ◌∙◌, true≢false, arith, take-append-drop, append_assoc, length-append}
use Rattle.std.specs.List.{AllByRecursion, AllWithin, list_any}
use Rattle.std.specs.List.Sorted.{IsPartitionedBy, IsPartitionPoint}
use Rattle.std.specs.Ordering.{is_lt, ordering_index}
use Rattle.std.specs.declared.cmp.Ordering.{Ordering}
use Rattle.std.specs.declared.cmp.Ordering.TheVariants.{Less, Equal, Greater}
use Rattle.std.proofs.lemmas.Cmp.{nat_list_cmp_total, tied_itself}
use Rattle.std.proofs.lemmas.List.{take_all, take_more, length-take-le, length-drop}
use Rattle.std.proofs.lemmas.List.Folds.{list_any-append}
use Rattle.zone_answers.proofs.Indexes.{any_push}
use Rattle.std.proofs.lemmas.List.Sorted.{searchable_from_sorted}
use Rattle.master_reader.specs.declared.record.Record.{Record}
use Rattle.zone_answers.specs.declared.order.Entry.{Entry}
use Rattle.zone_answers.specs.Order.{any_placed, ArePlaced, AreSorted, begins, key_of}
use Rattle.dns_name.specs.Name.{is_under}
use Rattle.zone_answers.specs.Same.{same_name}
use Rattle.zone_answers.specs.Answers.{has_record}
use Rattle.zone_answers.proofs.Nodes.{same_true}
use Rattle.zone_answers.proofs.Bare.{refuted}
use Rattle.zone_answers.proofs.Keys.{between, key_under, not_before, order}

abbrev pub key_at : List Entry → ℕ → Entry → List ℕ
key_at entries k d = (get_or entries k d).key.items

-- ---- each entry and the later ones

abbrev pub IsLater : List ℕ → Entry → Type 0
IsLater key e = is_lt (order e.key.items key) ≡ false

abbrev pub Ascend : List Entry → Type 0
Ascend [] = Unit {0}
Ascend (e ∷ entries) = AllByRecursion (IsLater e.key.items) entries × Ascend entries

all_from : (P : Entry → Type 0) (entries : List Entry) → ((k : ℕ) (d : Entry) → k < length entries → P (get_or entries k d)) → AllByRecursion P entries
all_from P [] h = tt
all_from P (e ∷ entries) h = (h 0 e (omega arith), all_from P entries (λ k d lt. h (suc k) d (omega (arith, lt))))

all_at : (P : Entry → Type 0) (entries : List Entry) → AllByRecursion P entries → (k : ℕ) (d : Entry) → k < length entries → P (get_or entries k d)
all_at P [] h k d lt = absurd (omega (arith, lt))
all_at P (e ∷ entries) h zero d lt = h.0
all_at P (e ∷ entries) h (suc k) d lt = all_at P entries h.1 k d (omega (arith, lt))

ascend_from : (entries : List Entry) → ((j k : ℕ) (d : Entry) → j ≤ k → k < length entries → IsLater (key_at entries j d) (get_or entries k d)) → Ascend entries
ascend_from [] h = tt
ascend_from (e ∷ entries) h = (
  all_from (IsLater e.key.items) entries (λ k d lt. h 0 (suc k) d (omega arith) (omega (arith, lt))),
  ascend_from entries (λ j k d le lt. h (suc j) (suc k) d (omega (arith, le)) (omega (arith, lt))),
)

no_less : (o : Ordering) → 1 ≤ ordering_index o → is_lt o ≡ false
no_less Less h = absurd (omega (arith, h))
no_less Equal h = refl
no_less Greater h = refl

pub ascending : (entries : List Entry) → AreSorted entries → Ascend entries
ascending entries sorted = ascend_from entries later
  where
    later : (j k : ℕ) (d : Entry) → j ≤ k → k < length entries → IsLater (key_at entries j d) (get_or entries k d)
    later j k d le lt =
        let rises = searchable_from_sorted nat_list_cmp_total (λ (e : Entry). e.key.items) entries (key_at entries j d) sorted j k d le lt in
        let own = ap ordering_index (tied_itself nat_list_cmp_total (key_at entries j d)) in
        no_less (order (key_at entries k d) (key_at entries j d)) (omega (arith, own, rises))

pub ascend_drop : (n : ℕ) (entries : List Entry) → Ascend entries → Ascend (drop n entries)
ascend_drop zero entries h = h
ascend_drop (suc n) [] h = tt
ascend_drop (suc n) (e ∷ entries) h = ascend_drop n entries h.1

-- ---- what stands before and behind a key

abbrev pub IsBefore : List ℕ → Entry → Type 0
IsBefore key e = is_lt (order e.key.items key) ≡ true

abbrev pub has_key : List ℕ → Entry → Bool
has_key key e = begins key e.key.items

none_before : (key : List ℕ) (test : Entry → Bool) (entries : List Entry) → AllByRecursion (IsBefore key) entries → list_any (λ e. has_key key e && test e) entries ≡ false
none_before key test [] h = refl
none_before key test (e ∷ entries) h =
    ap₂ (λ (a b : Bool). (a && test e) || b)
    (refuted (has_key key e) (λ b. true≢false (sym h.0 ∙ not_before key e.key.items b)))
    (none_before key test entries h.1)

pub split_test : (test : Entry → Bool) (n : ℕ) (entries : List Entry) → list_any test entries ≡ (list_any test (take n entries) || list_any test (drop n entries))
split_test test n entries = ap (list_any test) (sym (take-append-drop n entries)) ∙ list_any-append test (take n entries) (drop n entries)

-- only those behind may begin with the key
pub behind_only : (key : List ℕ) (test : Entry → Bool) (n : ℕ) (entries : List Entry) → AllByRecursion (IsBefore key) (take n entries)
    → list_any (λ e. has_key key e && test e) entries ≡ list_any (λ e. has_key key e && test e) (drop n entries)
behind_only key test n entries h =
    split_test (λ e. has_key key e && test e) n entries
    ∙ ap (λ b. b || list_any (λ e. has_key key e && test e) (drop n entries)) (none_before key test (take n entries) h)

-- after one that does not, none begins with it
none_after : (key : List ℕ) (test : Entry → Bool) (e : Entry) (entries : List Entry) → IsLater key e → has_key key e ≡ false → AllByRecursion (IsLater e.key.items) entries
    → list_any (λ f. has_key key f && test f) entries ≡ false
none_after key test e [] late none h = refl
none_after key test e (f ∷ entries) late none h =
    ap₂ (λ (a b : Bool). (a && test f) || b)
    (refuted (has_key key f) (λ b. true≢false (sym (between key e.key.items f.key.items b late h.0) ∙ none)))
    (none_after key test e entries late none h.1)

and_yes : (b : Bool) → (b && true) ≡ b
and_yes true = refl
and_yes false = refl

any_yes : (key : List ℕ) (entries : List Entry) → list_any (λ e. has_key key e && true) entries ≡ list_any (has_key key) entries
any_yes key [] = refl
any_yes key (e ∷ entries) = ap₂ (λ (x y : Bool). x || y) (and_yes (has_key key e)) (any_yes key entries)

behind_all : (key : List ℕ) (n : ℕ) (entries : List Entry) → AllByRecursion (IsBefore key) (take n entries) → list_any (has_key key) (drop n entries) ≡ list_any (has_key key) entries
behind_all key n entries h = sym (any_yes key (drop n entries)) ∙ sym (behind_only key (λ e. true) n entries h) ∙ any_yes key entries

-- the first one behind tells
first_tells : (key : List ℕ) (rest : List Entry) (e : Entry) → Ascend rest → AllByRecursion (IsLater key) rest → Some e ≡ slice_get rest 0 → has_key key e ≡ list_any (has_key key) rest
first_tells key [] e a l is = absurd cc
first_tells key (x ∷ entries) e a l is = let same : e ≡ x = cc in ap (has_key key) same ∙ by (has_key key x) refl
  where
    by : (t : Bool) → has_key key x ≡ t → has_key key x ≡ (has_key key x || list_any (has_key key) entries)
    by true h = h ∙ sym (ap (λ b. b || list_any (has_key key) entries) h)
    by false h = h ∙ sym (ap (λ b. b || list_any (has_key key) entries) h ∙ sym (any_yes key entries) ∙ none_after key (λ f. true) x entries l.0 h a.0)

no_first : (key : List ℕ) (rest : List Entry) → None ≡ slice_get rest 0 → false ≡ list_any (has_key key) rest
no_first key [] is = refl
no_first key (x ∷ entries) is = absurd cc

rest_is : (n : ℕ) (entries : List Entry) → take (length entries - n) (drop n entries) ≡ drop n entries
rest_is n entries = take_all (length entries - n) (drop n entries) (omega (arith, length-drop n entries))

pub first_some : (key : List ℕ) (entries : List Entry) (n : ℕ) (e : Entry) (r : Bool) → AreSorted entries → AllByRecursion (IsBefore key) (take n entries) → AllByRecursion (IsLater key) (drop n entries)
    → Some e ≡ slice_get (take (length entries - n) (drop n entries)) 0 → r ≡ begins key e.key.items → r ≡ list_any (λ f. begins key f.key.items) entries
first_some key entries n e r sorted before later is h =
    h ∙ first_tells key (drop n entries) e (ascend_drop n entries (ascending entries sorted)) later (is ∙ ap (λ (l : List Entry). slice_get l 0) (rest_is n entries)) ∙ behind_all key n entries before

pub first_none : (key : List ℕ) (entries : List Entry) (n : ℕ) → AllByRecursion (IsBefore key) (take n entries)
    → None ≡ slice_get (take (length entries - n) (drop n entries)) 0 → false ≡ list_any (λ f. begins key f.key.items) entries
first_none key entries n before is = no_first key (drop n entries) (is ∙ ap (λ (l : List Entry). slice_get l 0) (rest_is n entries)) ∙ behind_all key n entries before

-- those that begin with the key stand at the front of what is behind
pub front_parts : (key : List ℕ) (rest : List Entry) → Ascend rest → AllByRecursion (IsLater key) rest → IsPartitionedBy (has_key key) rest
front_parts key [] a l i j d le lt h = absurd (omega (arith, lt))
front_parts key (e ∷ entries) a l zero zero d le lt h = h
front_parts key (e ∷ entries) a l zero (suc j) d le lt h =
    between key e.key.items (get_or entries j d).key.items h l.0 (all_at (IsLater e.key.items) entries a.0 j d (omega (arith, lt)))
front_parts key (e ∷ entries) a l (suc i) zero d le lt h = absurd (omega (arith, le))
front_parts key (e ∷ entries) a l (suc i) (suc j) d le lt h = front_parts key entries a.1 l.1 i j d (omega (arith, le)) (omega (arith, lt)) h

pub front_is : (key : List ℕ) (test : Entry → Bool) (n : ℕ) (rest : List Entry) → n ≤ length rest → IsPartitionPoint (λ e. has_key key e ≡ true) (λ e. has_key key e ≡ false) rest n
    → list_any (λ e. has_key key e && test e) rest ≡ list_any test (take n rest)
front_is key test zero [] le p = refl
front_is key test (suc n) [] le p = refl
front_is key test zero (e ∷ rest) le p =
    ap₂ (λ (a b : Bool). (a && test e) || b) (p.1 0 e (omega arith) (omega arith))
    (front_is key test zero rest (omega arith) ((λ k d ge lt. absurd (omega (arith, ge, lt))), (λ k d ge lt. p.1 (suc k) d (omega arith) (omega (arith, lt)))))
front_is key test (suc n) (e ∷ rest) le p =
    ap₂ (λ (a b : Bool). (a && test e) || b) (p.0 0 e (omega arith) (omega arith))
    (front_is key test n rest (omega (arith, le)) ((λ k d ge lt. p.0 (suc k) d (omega arith) (omega (arith, lt))), (λ k d ge lt. p.1 (suc k) d (omega (arith, ge)) (omega (arith, lt)))))

pub rest_parts : (key : List ℕ) (entries : List Entry) (n : ℕ) → AreSorted entries → AllByRecursion (IsLater key) (drop n entries) → IsPartitionedBy (has_key key) (take (length entries - n) (drop n entries))
rest_parts key entries n sorted later =
    subst (IsPartitionedBy (has_key key)) (sym (rest_is n entries)) (front_parts key (drop n entries) (ascend_drop n entries (ascending entries sorted)) later)

pub front_all : (key : List ℕ) (test : Entry → Bool) (entries : List Entry) (n count : ℕ) → AllByRecursion (IsBefore key) (take n entries)
    → count ≤ length (take (length entries - n) (drop n entries))
    → IsPartitionPoint (λ e. has_key key e ≡ true) (λ e. has_key key e ≡ false) (take (length entries - n) (drop n entries)) count
    → list_any (λ e. begins key e.key.items && test e) entries ≡ list_any test (take count (take (length entries - n) (drop n entries)))
front_all key test entries n count before le point =
    behind_only key test n entries before ∙ ap (list_any (λ e. has_key key e && test e)) (sym (rest_is n entries))
    ∙ front_is key test count (take (length entries - n) (drop n entries)) le point

-- ---- the first place that is not before a key

lt_from : (o p : Ordering) → ordering_index o ≤ ordering_index p → is_lt p ≡ true → is_lt o ≡ true
lt_from Less p le h = refl
lt_from Equal Less le h = absurd (omega (arith, le))
lt_from Greater Less le h = absurd (omega (arith, le))
lt_from Equal Equal le h = h
lt_from Equal Greater le h = absurd (true≢false (sym h))
lt_from Greater Equal le h = absurd (true≢false (sym h))
lt_from Greater Greater le h = h

pub before_parts : (key : List ℕ) (entries : List Entry) → AreSorted entries → IsPartitionedBy (λ e. is_lt (order e.key.items key)) entries
before_parts key entries sorted i j d le lt h =
    lt_from (order (key_at entries i d) key) (order (key_at entries j d) key) (searchable_from_sorted nat_list_cmp_total (λ (e : Entry). e.key.items) entries key sorted i j d le lt) h

-- a place that parts the entries
within_take : (key : List ℕ) (n : ℕ) (entries : List Entry) → n ≤ length entries → AllWithin (IsBefore key) entries 0 n → AllByRecursion (IsBefore key) (take n entries)
within_take key zero entries le h = tt
within_take key (suc n) [] le h = tt
within_take key (suc n) (e ∷ entries) le h = (h 0 e (omega arith) (omega arith), within_take key n entries (omega (arith, le)) (λ k d ge lt. h (suc k) d (omega arith) (omega (arith, lt))))

within_drop : (key : List ℕ) (n : ℕ) (entries : List Entry) → n ≤ length entries → AllWithin (IsLater key) entries n (length entries) → AllByRecursion (IsLater key) (drop n entries)
within_drop key zero entries le h = all_from (IsLater key) entries (λ k d lt. h k d (omega arith) lt)
within_drop key (suc n) [] le h = tt
within_drop key (suc n) (e ∷ entries) le h = within_drop key n entries (omega (arith, le)) (λ k d ge lt. h (suc k) d (omega (arith, ge)) (omega (arith, lt)))

pub parted : (key : List ℕ) (entries : List Entry) (n : ℕ) → n ≤ length entries → IsPartitionPoint (λ e. is_lt (order e.key.items key) ≡ true) (λ e. is_lt (order e.key.items key) ≡ false) entries n
    → AllByRecursion (IsBefore key) (take n entries) × AllByRecursion (IsLater key) (drop n entries)
parted key entries n le p = (within_take key n entries le p.0, within_drop key n entries le p.1)

-- ---- entries and records

-- what a test says of the record at a place
abbrev pub told_at : (Record → Bool) → Option Record → Bool
told_at test None = false
told_at test (Some r) = test r

seam : (front : List Record) (r : Record) (back : List Record) → slice_get (front ++ r ∷ back) (length front) ≡ Some r
seam [] r back = refl
seam (x ∷ front) r back = seam front r back

placed_tests : (f : List ℕ → Bool) (test : Record → Bool) (whole front back : List Record) (place : ℕ) → whole ≡ front ++ back → place ≡ length front
    → any_placed (λ key n. f key && told_at test (slice_get whole n)) place back ≡ list_any (λ r. f (key_of r.owner) && test r) back
placed_tests f test whole front [] place w p = refl
placed_tests f test whole front (r ∷ back) place w p =
    ap₂ (λ (a b : Bool). a || b)
    (ap (λ o. f (key_of r.owner) && told_at test o) (ap₂ (λ (l : List Record) (n : ℕ). slice_get l n) w p ∙ seam front r back))
    (placed_tests f test whole (front ++ r ∷ []) back (suc place) (w ∙ sym (append_assoc front (r ∷ []) back)) (omega (arith, p, length-append front (r ∷ []))))

placed_keys : (f : List ℕ → Bool) (records : List Record) (place : ℕ) → any_placed (λ key n. f key) place records ≡ list_any (λ r. f (key_of r.owner)) records
placed_keys f [] place = refl
placed_keys f (r ∷ records) place = ap (λ b. f (key_of r.owner) || b) (placed_keys f records (suc place))

any_same_tests : {X : Type 0} (f g : X → Bool) (xs : List X) → ((x : X) → f x ≡ g x) → list_any f xs ≡ list_any g xs
any_same_tests f g [] h = refl
any_same_tests f g (x ∷ xs) h = ap₂ (λ (a b : Bool). a || b) (h x) (any_same_tests f g xs h)

-- some key begins with that of a name exactly where a record stands at or below it
pub any_under : (records : List Record) (entries : List Entry) (name : List (List ℕ)) → ArePlaced records entries → list_any (λ e. begins (key_of name) e.key.items) entries ≡ has_record records name
any_under records entries name placed =
    placed (λ key n. begins (key_of name) key) ∙ placed_keys (begins (key_of name)) records 0 ∙ any_same_tests _ _ records (λ r. key_under r.owner name)

and_out : {X : Type 0} (q : X → Bool) (u : Bool) (xs : List X) → list_any (λ x. q x && u) xs ≡ (list_any q xs && u)
and_out q u [] = refl
and_out q u (x ∷ xs) = ap (λ b. (q x && u) || b) (and_out q u xs) ∙ by (q x) u (list_any q xs)
  where
    by : (a u rest : Bool) → ((a && u) || (rest && u)) ≡ ((a || rest) && u)
    by true true rest = refl
    by true false true = refl
    by true false false = refl
    by false u rest = refl

owner_under : (owner name top : List (List ℕ)) (c : Bool) → (is_under owner top && (same_name owner name && c)) ≡ ((same_name owner name && c) && is_under name top)
owner_under owner name top c = by (same_name owner name) refl
  where
    turned : (u c : Bool) → (u && c) ≡ (c && u)
    turned true true = refl
    turned true false = refl
    turned false true = refl
    turned false false = refl

    by : (t : Bool) → same_name owner name ≡ t → (is_under owner top && (same_name owner name && c)) ≡ ((same_name owner name && c) && is_under name top)
    by true e =
        ap₂ (λ (n : List (List ℕ)) (t : Bool). is_under n top && (t && c)) (same_true owner name e) e ∙ turned (is_under name top) c ∙ sym (ap (λ t. (t && c) && is_under name top) e)
    by false e = ap (λ t. is_under owner top && (t && c)) e ∙ turned (is_under owner top) false ∙ sym (ap (λ t. (t && c) && is_under name top) e)

-- the entries that begin with the key of a top tell the owners at or below it
pub owners_under : (records : List Record) (entries found : List Entry) (top name : List (List ℕ)) (count : Record → Bool) → ArePlaced records entries
    → ((test : Entry → Bool) → list_any (λ e. begins (key_of top) e.key.items && test e) entries ≡ list_any test found)
    → list_any (λ e. told_at (λ r. same_name r.owner name && count r) (slice_get records e.place)) found ≡ (list_any (λ r. same_name r.owner name && count r) records && is_under name top)
owners_under records entries found top name count placed front =
    let test : Record → Bool = λ r. same_name r.owner name && count r in
    sym (front (λ e. told_at test (slice_get records e.place)))
    ∙ placed (λ key n. begins (key_of top) key && told_at test (slice_get records n))
    ∙ placed_tests (begins (key_of top)) test records [] records 0 refl refl
    ∙ any_same_tests _ _ records (λ r. ap (λ b. b && test r) (key_under r.owner top) ∙ owner_under r.owner name top (count r))
    ∙ and_out test (is_under name top) records

-- ---- one more record

placed_push : (test : List ℕ → ℕ → Bool) (records : List Record) (r : Record) (place : ℕ) → any_placed test place (records ++ r ∷ []) ≡ (any_placed test place records || test (key_of r.owner) (place + length records))
placed_push test [] r place = ap (λ b. b) (or_no (test (key_of r.owner) place)) ∙ ap (test (key_of r.owner)) (omega arith)
  where
    or_no : (b : Bool) → (b || false) ≡ b
    or_no true = refl
    or_no false = refl
placed_push test (x ∷ records) r place =
    ap (λ b. test (key_of x.owner) place || b) (placed_push test records r (suc place) ∙ ap (λ (n : ℕ). any_placed test (suc place) records || test (key_of r.owner) n) (omega arith))
    ∙ or_three (test (key_of x.owner) place) (any_placed test (suc place) records) (test (key_of r.owner) (place + length (x ∷ records)))
  where
    or_three : (a b c : Bool) → (a || (b || c)) ≡ ((a || b) || c)
    or_three true b c = refl
    or_three false b c = refl

pub placed_more : (records : List Record) (i : ℕ) (r : Record) (old new : List Entry) (e : Entry) → i < length records → r ≡ get_or records i r → e.key.items ≡ key_of r.owner → e.place ≡ i
    → new ≡ old ++ e ∷ [] → ArePlaced (take i records) old → ArePlaced (take (i + 1) records) new
placed_more records i r old new e lt is key place more h test =
    ap (list_any (λ x. test x.key.items x.place)) more ∙ any_push (λ x. test x.key.items x.place) old e
    ∙ ap₂ (λ (a b : Bool). a || b) (h test) (ap₂ test key place)
    ∙ ap (λ (n : ℕ). any_placed test 0 (take i records) || test (key_of r.owner) n) (omega (arith, length-take-le i records (omega (arith, lt))))
    ∙ sym (ap (any_placed test 0) (take_more records i r lt ∙ ap (λ (x : Record). take i records ++ x ∷ []) (sym is)) ∙ placed_push test (take i records) r 0)
