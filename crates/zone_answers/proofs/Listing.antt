-- The names at which something is lent, as they are listed.
use Rattle.std.proofs.Common.{◌≡◌, ℕ, ◌+◌, ◌<◌, ◌≤◌, Bool, true, false, ◌||◌, ◌&&◌, List, [], ◌∷◌, ◌++◌, length, take, get_or, slice_get, None, Some, refl, subst, sym, ap, ap₂, ◌∙◌, true≢false}
use Rattle.std.specs.List.{list_any}
use Rattle.std.proofs.lemmas.List.{take_all}
use Rattle.std.proofs.lemmas.List.Folds.{list_any_more}
use Rattle.dns_name.specs.Name.{is_under}
use Rattle.master_reader.specs.declared.record.Record.{Record}
use Rattle.zone_answers.specs.declared.zone.Lent.{Lent}
use Rattle.zone_answers.specs.declared.zone.Lent.TheVariants.{All}
use Rattle.zone_answers.specs.Zone.{Zone}
use Rattle.zone_answers.specs.Same.{same_name}
use Rattle.zone_answers.specs.Index.{counts, stands_at}
use Rattle.zone_answers.specs.Reversed.{AreNamesUnder}
use Rattle.zone_answers.proofs.Nodes.{same_true, same_self}
use Rattle.zone_answers.proofs.Indexes.{any_push}
use Rattle.zone_answers.specs.declared.order.Entry.{Entry}
use Rattle.zone_answers.specs.Order.{ArePlaced, begins, key_of}
use Rattle.zone_answers.proofs.Orders.{owners_under, told_at}
use Rattle.zone_answers.proofs.Bare.{both_same, refuted}

abbrev pub listed : List (List (List ℕ)) → List (List ℕ) → Bool
listed names name = list_any (same_name name) names

-- ---- one owner

swapped : (owner name : List (List ℕ)) → same_name owner name ≡ false → same_name name owner ≡ false
swapped owner name h = refuted (same_name name owner) (λ s. true≢false (sym (same_self owner name (sym (same_true name owner s))) ∙ h))

told : (owner name top : List (List ℕ)) (c : Bool) → (same_name owner name && c && is_under name top) ≡ (same_name name owner && (c && is_under owner top))
told owner name top c = by (same_name owner name) refl
  where
    by : (t : Bool) → same_name owner name ≡ t → (same_name owner name && c && is_under name top) ≡ (same_name name owner && (c && is_under owner top))
    by true e =
        let o : owner ≡ name = same_true owner name e in
        ap (λ t. t && c && is_under name top) e ∙ ap (λ (n : List (List ℕ)). c && is_under n top) (sym o)
        ∙ sym (ap (λ t. t && (c && is_under owner top)) (same_self name owner (sym o)))
    by false e = ap (λ t. t && c && is_under name top) e ∙ sym (ap (λ t. t && (c && is_under owner top)) (swapped owner name e))

and_true : (b : Bool) → (b && true) ≡ b
and_true true = refl
and_true false = refl

and_false : (b : Bool) → (b && false) ≡ false
and_false true = refl
and_false false = refl

or_no : (b : Bool) → (b || false) ≡ b
or_no true = refl
or_no false = refl

pub pushed : (old new : List (List (List ℕ))) (owner top : List (List ℕ)) (c : Bool) → new ≡ old ++ owner ∷ [] → (c && is_under owner top) ≡ true
    → (name : List (List ℕ)) → listed new name ≡ (listed old name || (same_name owner name && c && is_under name top))
pushed old new owner top c is h name =
    ap (list_any (same_name name)) is ∙ any_push (same_name name) old owner
    ∙ ap (λ b. listed old name || b) (sym (told owner name top c ∙ ap (λ b. same_name name owner && b) h ∙ and_true (same_name name owner)))

pub passed : (old : List (List (List ℕ))) (owner top : List (List ℕ)) (c : Bool) → (c && is_under owner top) ≡ false
    → (name : List (List ℕ)) → listed old name ≡ (listed old name || (same_name owner name && c && is_under name top))
passed old owner top c h name =
    sym (ap (λ b. listed old name || b) (told owner name top c ∙ ap (λ b. same_name name owner && b) h ∙ and_false (same_name name owner)) ∙ or_no (listed old name))

pub pushed_under : (old new : List (List (List ℕ))) (owner top : List (List ℕ)) → new ≡ old ++ owner ∷ [] → is_under owner top ≡ true
    → (name : List (List ℕ)) → listed new name ≡ (listed old name || (same_name owner name && is_under name top))
pushed_under old new owner top is h name = pushed old new owner top true is h name ∙ ap (λ b. listed old name || (b && is_under name top)) (and_true (same_name owner name))

pub passed_under : (old : List (List (List ℕ))) (owner top : List (List ℕ)) → is_under owner top ≡ false
    → (name : List (List ℕ)) → listed old name ≡ (listed old name || (same_name owner name && is_under name top))
passed_under old owner top h name = passed old owner top true h name ∙ ap (λ b. listed old name || (b && is_under name top)) (and_true (same_name owner name))

turned : (a b : List (List ℕ)) → same_name a b ≡ same_name b a
turned a b = both_same (same_name a b) (same_name b a) (λ s. same_self b a (sym (same_true a b s))) (λ s. same_self a b (sym (same_true b a s)))

pub owner_pushed : (old new : List (List (List ℕ))) (owner : List (List ℕ)) (c : Bool) → new ≡ old ++ owner ∷ [] → c ≡ true
    → (name : List (List ℕ)) → listed new name ≡ (listed old name || (same_name owner name && c))
owner_pushed old new owner c is h name =
    ap (list_any (same_name name)) is ∙ any_push (same_name name) old owner
    ∙ ap (λ b. listed old name || b) (turned name owner ∙ sym (and_true (same_name owner name)) ∙ ap (λ t. same_name owner name && t) (sym h))

pub owner_passed : (old : List (List (List ℕ))) (owner : List (List ℕ)) (c : Bool) → c ≡ false
    → (name : List (List ℕ)) → listed old name ≡ (listed old name || (same_name owner name && c))
owner_passed old owner c h name =
    sym (ap (λ b. listed old name || b) (ap (λ t. same_name owner name && t) h ∙ and_false (same_name owner name)) ∙ or_no (listed old name))

-- ---- the origin and the owners of a zone

-- what an entry tells of a name
abbrev pub tells : Lent → List Record → List (List ℕ) → Entry → Bool
tells lent records name e = told_at (λ r. same_name r.owner name && counts lent r) (slice_get records e.place)

pub origin_first : (origin held top : List (List ℕ)) (entries : List Entry) (lent : Lent) (records : List Record) (first new : List (List (List ℕ))) → held ≡ origin
    → ((name : List (List ℕ)) → listed new name ≡ (listed first name || (same_name held name && is_under name top)))
    → (name : List (List ℕ)) → listed new name ≡ ((listed first name || (same_name origin name && is_under name top)) || list_any (tells lent records name) (take 0 entries))
origin_first origin held top entries lent records first new e h name =
    h name ∙ ap (λ (n : List (List ℕ)). listed first name || (same_name n name && is_under name top)) e ∙ sym (or_no (listed first name || (same_name origin name && is_under name top)))

or_three : (a b c : Bool) → ((a || b) || c) ≡ (a || (b || c))
or_three true b c = refl
or_three false b c = refl

entry_step : (lent : Lent) (records : List Record) (entries : List Entry) (i : ℕ) (e : Entry) (front : Bool) (name : List (List ℕ)) → i < length entries → e ≡ get_or entries i e
    → ((front || list_any (tells lent records name) (take i entries)) || tells lent records name e) ≡ (front || list_any (tells lent records name) (take (i + 1) entries))
entry_step lent records entries i e front name lt is =
    or_three front (list_any (tells lent records name) (take i entries)) (tells lent records name e)
    ∙ ap (λ b. front || b) (ap (λ (x : Entry). list_any (tells lent records name) (take i entries) || tells lent records name x) is ∙ sym (list_any_more (tells lent records name) entries i e lt))

pub entry_more : (lent : Lent) (origin top : List (List ℕ)) (records : List Record) (entries : List Entry) (i : ℕ) (e : Entry) (r : Record) (first old new : List (List (List ℕ))) → i < length entries → e ≡ get_or entries i e
    → Some r ≡ slice_get records e.place
    → ((name : List (List ℕ)) → listed old name ≡ ((listed first name || (same_name origin name && is_under name top)) || list_any (tells lent records name) (take i entries)))
    → ((name : List (List ℕ)) → listed new name ≡ (listed old name || (same_name r.owner name && counts lent r)))
    → (name : List (List ℕ)) → listed new name ≡ ((listed first name || (same_name origin name && is_under name top)) || list_any (tells lent records name) (take (i + 1) entries))
entry_more lent origin top records entries i e r first old new lt is at h k name =
    k name ∙ ap (λ b. b || (same_name r.owner name && counts lent r)) (h name)
    ∙ ap (λ o. ((listed first name || (same_name origin name && is_under name top)) || list_any (tells lent records name) (take i entries)) || told_at (λ s. same_name s.owner name && counts lent s) o) at
    ∙ entry_step lent records entries i e (listed first name || (same_name origin name && is_under name top)) name lt is

pub entry_none : (lent : Lent) (origin top : List (List ℕ)) (records : List Record) (entries : List Entry) (i : ℕ) (e : Entry) (first old new : List (List (List ℕ))) → i < length entries → e ≡ get_or entries i e
    → None ≡ slice_get records e.place
    → ((name : List (List ℕ)) → listed old name ≡ ((listed first name || (same_name origin name && is_under name top)) || list_any (tells lent records name) (take i entries)))
    → new ≡ old
    → (name : List (List ℕ)) → listed new name ≡ ((listed first name || (same_name origin name && is_under name top)) || list_any (tells lent records name) (take (i + 1) entries))
entry_none lent origin top records entries i e first old new lt is at h k name =
    ap (λ (l : List (List (List ℕ))). listed l name) k ∙ h name
    ∙ sym (or_no ((listed first name || (same_name origin name && is_under name top)) || list_any (tells lent records name) (take i entries)))
    ∙ ap (λ o. ((listed first name || (same_name origin name && is_under name top)) || list_any (tells lent records name) (take i entries)) || told_at (λ s. same_name s.owner name && counts lent s) o) at
    ∙ entry_step lent records entries i e (listed first name || (same_name origin name && is_under name top)) name lt is

join : (a o q u : Bool) → ((a || (o && u)) || (q && u)) ≡ (a || ((o || q) && u))
join true o q u = refl
join false o q u = more_zones o q u
  where
    more_zones : (front x u : Bool) → ((front && u) || (x && u)) ≡ ((front || x) && u)
    more_zones true x true = refl
    more_zones true true false = refl
    more_zones true false false = refl
    more_zones false x u = refl

pub entries_all : (lent : Lent) (zone : Zone) (top : List (List ℕ)) (records : List Record) (order found : List Entry) (i : ℕ) (first new : List (List (List ℕ))) → length found ≤ i → records ≡ zone.records → ArePlaced records order
    → ((test : Entry → Bool) → list_any (λ e. begins (key_of top) e.key.items && test e) order ≡ list_any test found)
    → ((name : List (List ℕ)) → listed new name ≡ ((listed first name || (same_name zone.origin name && is_under name top)) || list_any (tells lent zone.records name) (take i found)))
    → (name : List (List ℕ)) → listed new name ≡ (listed first name || (stands_at lent zone name && is_under name top))
entries_all lent zone top records order found i first new le is placed front h name =
    h name
    ∙ ap (λ b. (listed first name || (same_name zone.origin name && is_under name top)) || b)
    (ap (list_any (tells lent zone.records name)) (take_all i found le)
    ∙ owners_under zone.records order found top name (counts lent) (subst (λ (l : List Record). ArePlaced l order) is placed) front)
    ∙ join (listed first name) (same_name zone.origin name) (list_any (λ r. same_name r.owner name && counts lent r) zone.records) (is_under name top)

-- ---- the zones

more_zones : (front x u : Bool) → ((front && u) || (x && u)) ≡ ((front || x) && u)
more_zones true x true = refl
more_zones true true false = refl
more_zones true false false = refl
more_zones false x u = refl

pub zone_more : (lent : Lent) (top : List (List ℕ)) (zones : List Zone) (i : ℕ) (zone : Zone) (old new : List (List (List ℕ))) → i < length zones → zone ≡ get_or zones i zone
    → ((name : List (List ℕ)) → listed old name ≡ (list_any (λ z. stands_at lent z name) (take i zones) && is_under name top))
    → ((name : List (List ℕ)) → listed new name ≡ (listed old name || (stands_at lent zone name && is_under name top)))
    → (name : List (List ℕ)) → listed new name ≡ (list_any (λ z. stands_at lent z name) (take (i + 1) zones) && is_under name top)
zone_more lent top zones i zone old new lt e h k name =
    let test : Zone → Bool = λ z. stands_at lent z name in
    k name ∙ ap (λ b. b || (test zone && is_under name top)) (h name)
    ∙ more_zones (list_any test (take i zones)) (test zone) (is_under name top)
    ∙ ap (λ b. b && is_under name top) (ap (λ (z : Zone). list_any test (take i zones) || test z) e ∙ sym (list_any_more test zones i zone lt))

pub zones_all : (lent : Lent) (top : List (List ℕ)) (zones held : List Zone) (i : ℕ) (names : List (List (List ℕ))) → length zones ≤ i → zones ≡ held
    → ((name : List (List ℕ)) → listed names name ≡ (list_any (λ z. stands_at lent z name) (take i zones) && is_under name top))
    → (name : List (List ℕ)) → listed names name ≡ (list_any (λ z. stands_at lent z name) held && is_under name top)
zones_all lent top zones held i names le e h name =
    h name ∙ ap (λ (l : List Zone). list_any (λ z. stands_at lent z name) l && is_under name top) (take_all i zones le ∙ e)

any_alike : {X : Type 0} (f g : X → Bool) (xs : List X) → ((x : X) → f x ≡ g x) → list_any f xs ≡ list_any g xs
any_alike f g [] h = refl
any_alike f g (x ∷ xs) h = ap₂ (λ (a b : Bool). a || b) (h x) (any_alike f g xs h)

pub all_listed : (zones : List Zone) (top : List (List ℕ)) (names : List (List (List ℕ)))
    → ((name : List (List ℕ)) → listed names name ≡ (list_any (λ z. stands_at All z name) zones && is_under name top)) → AreNamesUnder zones top names
all_listed zones top names h name =
    h name ∙ ap (λ b. b && is_under name top) (any_alike _ _ zones (λ z. ap (λ b. same_name z.origin name || b) (any_alike _ _ z.records (λ r. and_true (same_name r.owner name)))))
