-- The deepest origin at or above a name, one zone at a time.
use Rattle.std.proofs.Common.{◌≡◌, ◌≢◌, ℕ, ◌+◌, ◌<◌, ◌≤◌, Bool, true, false, cond, ◌&&◌, List, [], ◌∷◌, ◌++◌, length, find, nat_lt, Option, None, Some, refl, sym, ap, ap₂, ◌∙◌, true≢false, arith, lt-ltb, le-ltb, length-append, if◌then◌else◌, take, get_or}
use Rattle.std.proofs.lemmas.List.{take_all, take_more}
use Rattle.dns_name.specs.Name.{IsUnder, is_under}
use Rattle.dns_name.proofs.Names.{parent_under, under_itself}
use Rattle.zone_answers.specs.Zone.{Zone}
use Rattle.zone_answers.specs.Same.{same_name}
use Rattle.zone_answers.specs.Answers.{or_above, zone_of}
use Rattle.zone_answers.specs.Index.{is_deeper}
use Rattle.zone_answers.proofs.Nodes.{same_true, same_not}
use Rattle.zone_answers.proofs.Holding.{found_passes, zone_under}
use Rattle.zone_answers.proofs.Bare.{both_same, refuted, under_shown, under_test}

-- the zone, if it is deeper than the one found before
abbrev pub deeper : Zone → Option Zone → List (List ℕ) → Option Zone
deeper zone held name = if is_deeper zone held name then Some zone else held

find_push : (test : Zone → Bool) (zones : List Zone) (zone : Zone) → find test (zones ++ zone ∷ []) ≡ or_above (find test zones) (cond (test zone) (Some zone) None)
find_push test [] zone = refl
find_push test (z ∷ zones) zone = by (test z) (find_push test zones zone)
  where
    by : (t : Bool) → find test (zones ++ zone ∷ []) ≡ or_above (find test zones) (cond (test zone) (Some zone) None)
        → cond t (Some z) (find test (zones ++ zone ∷ [])) ≡ or_above (cond t (Some z) (find test zones)) (cond (test zone) (Some zone) None)
    by true e = refl
    by false e = e

shorter : (name top : List (List ℕ)) → is_under name top ≡ true → length top ≤ length name
shorter name top h = let u = under_shown name top h in omega (arith, ap length u.1, length-append u.0 top)

-- one that is found at the name itself stays
stays : (held zone : Zone) (name : List (List ℕ)) → same_name held.origin name ≡ true → Some held ≡ deeper zone (Some held) name
stays held zone name h = sym (ap (λ b. if b then Some zone else Some held) (refuted (is_deeper zone (Some held) name) no))
  where
    no : is_deeper zone (Some held) name ≡ true → ⊥
    no d = by (is_under name zone.origin) refl d
      where
        by : (t : Bool) → is_under name zone.origin ≡ t → (t && nat_lt (length held.origin) (length zone.origin)) ≡ true → ⊥
        by false e k = true≢false (sym k)
        by true e k = true≢false (sym k ∙ le-ltb (length held.origin) (length zone.origin) (omega (arith, shorter name zone.origin e, ap length (same_true held.origin name h))))

at_root : (here : Option Zone) (zone : Zone) → ((held : Zone) → here ≡ Some held → same_name held.origin [] ≡ true) → or_above here (cond (same_name zone.origin []) (Some zone) None) ≡ deeper zone here []
at_root (Some held) zone is = stays held zone [] (is held refl)
at_root None zone is = ap (λ b. cond b (Some zone) None) (both_same (same_name zone.origin []) (is_under [] zone.origin) to from)
  where
    to : same_name zone.origin [] ≡ true → is_under [] zone.origin ≡ true
    to s = under_test [] zone.origin ([], sym (same_true zone.origin [] s))

    from : is_under [] zone.origin ≡ true → same_name zone.origin [] ≡ true
    from u = empty zone.origin (shorter [] zone.origin u)
      where
        empty : (top : List (List ℕ)) → length top ≤ 0 → same_name top [] ≡ true
        empty [] le = refl
        empty (l ∷ top) le = absurd (omega (arith, le))

-- a zone of this very name is deeper than one that is found above
own_deeper : (zone : Zone) (held : Option Zone) (label : List ℕ) (name : List (List ℕ)) → zone.origin ≡ label ∷ name → ((other : Zone) → held ≡ Some other → IsUnder name other.origin) → Some zone ≡ deeper zone held (label ∷ name)
own_deeper zone None label name is above = sym (ap (λ b. if b then Some zone else None) (under_itself (label ∷ name) zone.origin (sym is)))
own_deeper zone (Some other) label name is above =
    let u = above other refl in
    sym (ap (λ b. if b then Some zone else Some other)
    (ap₂ (λ (a b : Bool). a && b) (under_itself (label ∷ name) zone.origin (sym is))
    (lt-ltb (length other.origin) (length zone.origin) (omega (arith, ap length is, ap length u.1, length-append u.0 other.origin)))))

-- no zone of this very name: what is deeper is so above
same_deeper : (zone : Zone) (held : Option Zone) (label : List ℕ) (name : List (List ℕ)) → label ∷ name ≢ zone.origin → deeper zone held name ≡ deeper zone held (label ∷ name)
same_deeper zone None label name apart = ap (λ b. if b then Some zone else None) (sym (parent_under label name zone.origin apart))
same_deeper zone (Some other) label name apart =
    ap (λ b. if (b && nat_lt (length other.origin) (length zone.origin)) then Some zone else Some other) (sym (parent_under label name zone.origin apart))

at_label : (here above : Option Zone) (zone : Zone) (label : List ℕ) (name : List (List ℕ)) (t : Bool) → same_name zone.origin (label ∷ name) ≡ t
    → ((held : Zone) → here ≡ Some held → same_name held.origin (label ∷ name) ≡ true) → ((other : Zone) → above ≡ Some other → IsUnder name other.origin)
    → or_above (or_above here (cond t (Some zone) None)) (deeper zone above name) ≡ deeper zone (or_above here above) (label ∷ name)
at_label (Some held) above zone label name t e is u = stays held zone (label ∷ name) (is held refl)
at_label None above zone label name true e is u = own_deeper zone above label name (same_true zone.origin (label ∷ name) e) u
at_label None above zone label name false e is u = same_deeper zone above label name (λ s. same_not zone.origin (label ∷ name) e (sym s))

pub zone_push : (zones : List Zone) (zone : Zone) (name : List (List ℕ)) → zone_of (zones ++ zone ∷ []) name ≡ deeper zone (zone_of zones name) name
zone_push zones zone [] =
    find_push (λ z. same_name z.origin []) zones zone ∙ at_root (find (λ z. same_name z.origin []) zones) zone (λ held e. found_passes (λ z. same_name z.origin []) zones held e)
zone_push zones zone (label ∷ name) =
    ap₂ or_above (find_push (λ z. same_name z.origin (label ∷ name)) zones zone) (zone_push zones zone name)
    ∙ at_label (find (λ z. same_name z.origin (label ∷ name)) zones) (zone_of zones name) zone label name (same_name zone.origin (label ∷ name)) refl
    (λ held e. found_passes (λ z. same_name z.origin (label ∷ name)) zones held e) (λ other e. zone_under zones name other e)

pub none_yet : (name : List (List ℕ)) → None ≡ zone_of [] name
none_yet [] = refl
none_yet (label ∷ name) = none_yet name

pub zone_more : (zones : List Zone) (i : ℕ) (zone : Zone) (held more : Option Zone) (name : List (List ℕ)) → i < length zones → zone ≡ get_or zones i zone → held ≡ zone_of (take i zones) name
    → more ≡ deeper zone held name → more ≡ zone_of (take (i + 1) zones) name
zone_more zones i zone held more name lt is h m =
    m ∙ ap (λ o. deeper zone o name) h ∙ sym (zone_push (take i zones) zone name)
    ∙ ap (λ (z : Zone). zone_of (take i zones ++ z ∷ []) name) is ∙ ap (λ (l : List Zone). zone_of l name) (sym (take_more zones i zone lt))

pub zone_all : (zones held : List Zone) (i : ℕ) (found : Option Zone) (name : List (List ℕ)) → length zones ≤ i → zones ≡ held → found ≡ zone_of (take i zones) name → found ≡ zone_of held name
zone_all zones held i found name le is h = h ∙ ap (λ (l : List Zone). zone_of l name) (take_all i zones le ∙ is)

pub taken_deeper : (zone : Zone) (held more : Option Zone) (name : List (List ℕ)) → true ≡ is_deeper zone held name → more ≡ Some zone → more ≡ deeper zone held name
taken_deeper zone held more name h m = m ∙ ap (λ b. if b then Some zone else held) h

pub left_deeper : (zone : Zone) (held more : Option Zone) (name : List (List ℕ)) → false ≡ is_deeper zone held name → more ≡ held → more ≡ deeper zone held name
left_deeper zone held more name h m = m ∙ ap (λ b. if b then Some zone else held) h
