-- Names at or below which nothing is lent, and plain names.
use Rattle.std.proofs.Common.{◌≡◌, ℕ, ◌≤◌, Bool, true, false, not, cond, ◌||◌, ◌&&◌, List, [], ◌∷◌, ◌++◌, find, length, Err, Ok, Option, None, Some, refl, sym, ap, ap₂, ◌∙◌, true≢false, arith, append_assoc, if◌then◌else◌, IsTrue, inl, inr}
use Rattle.std.specs.List.{list_any}
use Rattle.std.proofs.lemmas.Bool.{not-true, or_parts, or_left, or_right, or_cases, and_parts, and_from}
use Rattle.dns_name.specs.declared.fault.NameFault.{NameFault}
use Rattle.dns_name.specs.Wire.{wire_form}
use Rattle.dns_name.specs.Name.{IsName, IsUnder, is_under, child_of}
use Rattle.dns_name.proofs.Names.{under_decides, parent_under, child_ok}
use Rattle.master_reader.specs.declared.record.Record.{Record}
use Rattle.zone_answers.specs.declared.answer.Answer.{Answer}
use Rattle.zone_answers.specs.declared.answer.Answer.TheVariants.{Outside}
use Rattle.zone_answers.specs.declared.answer.QKind.{QKind}
use Rattle.zone_answers.specs.Zone.{Zone}
use Rattle.zone_answers.specs.Same.{same_name}
use Rattle.zone_answers.specs.Answers.{answer_of, answer_within, at_node, closest_above, has_record, in_zone, is_cut_off, is_delegation, name_exists, node_of, or_above, zone_of}
use Rattle.zone_answers.specs.Index.{has_delegation}
use Rattle.zone_answers.specs.Reversed.{AreNamesUnder, answer_below, below_in_zone, closest_at, is_bare, is_lent_at, is_parted_at, is_plain, lends_at, node_below, parts_at}
use Rattle.zone_answers.proofs.Nodes.{same_true, same_self}
use Rattle.zone_answers.proofs.Cuts.{any_also, any_same, cuts, cut_above, Star, star_choice, star_closest}

-- ---- tests

pub refuted : (b : Bool) → (b ≡ true → ⊥) → b ≡ false
refuted true h = absurd (h refl)
refuted false h = refl

pub both_same : (a b : Bool) → (a ≡ true → b ≡ true) → (b ≡ true → a ≡ true) → a ≡ b
both_same true b f g = sym (f refl)
both_same false b f g = sym (refuted b (λ h. true≢false (sym (g h))))

-- one that passes, which each other test finds
abbrev Found : {X : Type 0} → (X → Bool) → List X → Type 0
Found {X} p xs = (x : X) × (p x ≡ true) × ((q : X → Bool) → q x ≡ true → list_any q xs ≡ true)

found_one : {X : Type 0} (p : X → Bool) (x : X) (xs : List X) (t : Bool) → p x ≡ t → t || list_any p xs ≡ true → (list_any p xs ≡ true → Found p xs) → Found p (x ∷ xs)
found_one p x xs true e h more = (x, e, λ q s. or_left (q x) (list_any q xs) s)
found_one p x xs false e h more = let f = more h in (f.0, f.1, λ q s. or_right (q x) (list_any q xs) (f.2 q s))

pub found : {X : Type 0} (p : X → Bool) (xs : List X) → list_any p xs ≡ true → Found p xs
found p [] h = absurd (true≢false (sym h))
found p (x ∷ xs) h = found_one p x xs (p x) refl h (found p xs)

-- ---- names above and below

pub under_test : (name top : List (List ℕ)) → IsUnder name top → is_under name top ≡ true
under_test name top u = (under_decides name top).1 u

pub under_shown : (name top : List (List ℕ)) → is_under name top ≡ true → IsUnder name top
under_shown name top u = (under_decides name top).0 u

pub under_both : (a b c : List (List ℕ)) → IsUnder a b → IsUnder b c → IsUnder a c
under_both a b c (u, e) (v, f) = (u ++ v, e ∙ ap (λ (l : List (List ℕ)). u ++ l) f ∙ sym (append_assoc u v c))

-- a name that is at or below another one's parts of below
pub under_more : (owner front top : List (List ℕ)) → is_under owner (front ++ top) ≡ true → is_under owner top ≡ true
under_more owner front top h = under_test owner top (under_both owner (front ++ top) top (under_shown owner (front ++ top) h) (front, refl))

-- ---- where nothing is lent at or below a name

abbrev pub quiet : List (List ℕ) → Zone → Bool
quiet top z = is_under z.origin top || has_record z.records top

pub bare_quiet : (zones : List Zone) (top : List (List ℕ)) → is_bare zones top ≡ true → list_any (quiet top) zones ≡ false
bare_quiet zones top h = not-true (list_any (quiet top) zones) h

unpassed-one : (p : Zone → Bool) (z zone : Zone) (rest : Option Zone) (t : Bool) → p z ≡ false → cond t (Some z) rest ≡ Some zone → (rest ≡ Some zone → p zone ≡ false) → p zone ≡ false
unpassed-one p z zone rest true is e more = let same : z ≡ zone = cc in ap p (sym same) ∙ is
unpassed-one p z zone rest false is e more = more e

unpassed : (p test : Zone → Bool) (zones : List Zone) (zone : Zone) → find test zones ≡ Some zone → list_any p zones ≡ false → p zone ≡ false
unpassed p test [] zone e h = absurd cc
unpassed p test (z ∷ zones) zone e h =
    let parts = or_parts (p z) (list_any p zones) h in unpassed-one p z zone (find test zones) (test z) parts.0 e (λ k. unpassed p test zones zone k parts.1)

either_quiet : (p : Zone → Bool) (zone : Zone) (here above : Option Zone) → or_above here above ≡ Some zone → (here ≡ Some zone → p zone ≡ false) → (above ≡ Some zone → p zone ≡ false) → p zone ≡ false
either_quiet p zone (Some z) above e f g = f e
either_quiet p zone None above e f g = g e

-- the zone of a name is one of the zones
pub zone_quiet : (p : Zone → Bool) (zones : List Zone) (name : List (List ℕ)) (zone : Zone) → zone_of zones name ≡ Some zone → list_any p zones ≡ false → p zone ≡ false
zone_quiet p zones [] zone e h = unpassed p (λ z. same_name z.origin []) zones zone e h
zone_quiet p zones (label ∷ name) zone e h =
    either_quiet p zone (find (λ z. same_name z.origin (label ∷ name)) zones) (zone_of zones name) e
    (λ k. unpassed p (λ z. same_name z.origin (label ∷ name)) zones zone k h) (λ k. zone_quiet p zones name zone k h)

pub none_found : (p test : Zone → Bool) (zones : List Zone) → list_any p zones ≡ false → ((z : Zone) → p z ≡ false → test z ≡ false) → find test zones ≡ None
none_found p test [] h sub = refl
none_found p test (z ∷ zones) h sub =
    let parts = or_parts (p z) (list_any p zones) h in ap (λ t. cond t (Some z) (find test zones)) (sub z parts.0) ∙ none_found p test zones parts.1 sub

not_origin : (top front : List (List ℕ)) (z : Zone) → quiet top z ≡ false → same_name z.origin (front ++ top) ≡ false
not_origin top front z h = refuted (same_name z.origin (front ++ top))
    (λ s. true≢false (sym (under_test z.origin top (front, same_true z.origin (front ++ top) s)) ∙ (or_parts (is_under z.origin top) (has_record z.records top) h).0))

zone_same : (zones : List Zone) (label : List ℕ) (name : List (List ℕ)) → list_any (quiet (label ∷ name)) zones ≡ false → (front : List (List ℕ)) → zone_of zones (front ++ label ∷ name) ≡ zone_of zones name
zone_same zones label name h [] =
    ap (λ o. or_above o (zone_of zones name)) (none_found (quiet (label ∷ name)) (λ z. same_name z.origin (label ∷ name)) zones h (not_origin (label ∷ name) []))
zone_same zones label name h (x ∷ front) =
    ap (λ o. or_above o (zone_of zones (front ++ label ∷ name)))
    (none_found (quiet (label ∷ name)) (λ z. same_name z.origin (x ∷ (front ++ label ∷ name))) zones h (not_origin (label ∷ name) (x ∷ front)))
    ∙ zone_same zones label name h front

-- ---- cuts

under_same : (owner : List (List ℕ)) (label : List ℕ) (name : List (List ℕ)) → is_under owner (label ∷ name) ≡ false → (front : List (List ℕ)) → is_under (front ++ label ∷ name) owner ≡ is_under name owner
under_same owner label name h [] = parent_under label name owner (λ e. true≢false (sym (under_test owner (label ∷ name) ([], sym e)) ∙ h))
under_same owner label name h (x ∷ front) =
    parent_under x (front ++ label ∷ name) owner (λ e. true≢false (sym (under_test owner (label ∷ name) (x ∷ front, sym e)) ∙ h))
    ∙ under_same owner label name h front

either_cut : (d u v w n : Bool) → u ≡ v → (d && u && w && n) ≡ (d && v && w && n)
either_cut d u v w n e = ap (λ b. d && b && w && n) e

cut_same : (zone : Zone) (label : List ℕ) (name : List (List ℕ)) → has_record zone.records (label ∷ name) ≡ false → (front : List (List ℕ)) → is_cut_off zone (front ++ label ∷ name) ≡ is_cut_off zone name
cut_same zone label name h front =
    any_same (λ r. is_under r.owner (label ∷ name)) (cuts zone (front ++ label ∷ name)) (cuts zone name) zone.records h
    (λ r t. either_cut (is_delegation r.body) (is_under (front ++ label ∷ name) r.owner) (is_under name r.owner) (is_under r.owner zone.origin) (not (same_name r.owner zone.origin))
    (under_same r.owner label name t front))

-- ---- nodes

absent : (zone : Zone) (top front : List (List ℕ)) → quiet top zone ≡ false → name_exists zone (front ++ top) ≡ false
absent zone top front h = refuted (name_exists zone (front ++ top)) no
  where
    parts : (is_under zone.origin top ≡ false) × (has_record zone.records top ≡ false)
    parts = or_parts (is_under zone.origin top) (has_record zone.records top) h

    no : name_exists zone (front ++ top) ≡ true → ⊥
    no e = elim (or_cases (same_name (front ++ top) zone.origin) (has_record zone.records (front ++ top)) e) [
      | inl s ↦ true≢false (sym (under_test zone.origin top (front, sym (same_true (front ++ top) zone.origin s))) ∙ parts.0)
      | inr r ↦ true≢false (sym (any_also (λ (r : Record). is_under r.owner (front ++ top)) (λ (r : Record). is_under r.owner top) zone.records (λ r. under_more r.owner front top) r) ∙ parts.1)
    ]

closest_same : (zone : Zone) (label : List ℕ) (name : List (List ℕ)) → quiet (label ∷ name) zone ≡ false → (front : List (List ℕ)) → closest_above zone (front ++ label ∷ name) ≡ closest_at zone name
closest_same zone label name h [] = refl
closest_same zone label name h (x ∷ front) =
    ap (λ t. if t then (front ++ label ∷ name) else closest_above zone (front ++ label ∷ name)) (absent zone (label ∷ name) front h) ∙ closest_same zone label name h front

abbrev star_node : Zone → List (List ℕ) → Option (List (List ℕ))
star_node zone name = if name_exists zone ((42 ∷ []) ∷ name) then Some ((42 ∷ []) ∷ name) else None

node_same : (zone : Zone) (label : List ℕ) (name : List (List ℕ)) → quiet (label ∷ name) zone ≡ false → (front : List (List ℕ)) → node_of zone (front ++ label ∷ name) ≡ node_below zone name
node_same zone label name h front =
    ap (λ t. if t then Some (front ++ label ∷ name) else star_node zone (closest_above zone (front ++ label ∷ name))) (absent zone (label ∷ name) front h)
    ∙ ap (star_node zone) (closest_same zone label name h front)

-- ---- the answer

in_zone_same : (kind : QKind) (follow : List (List ℕ) → Answer) (zones : List Zone) (label : List ℕ) (name front : List (List ℕ)) → list_any (quiet (label ∷ name)) zones ≡ false
    → (o : Option Zone) → zone_of zones name ≡ o → in_zone kind follow (front ++ label ∷ name) o ≡ below_in_zone kind follow name o
in_zone_same kind follow zones label name front h None e = refl
in_zone_same kind follow zones label name front h (Some zone) e =
    let q : quiet (label ∷ name) zone ≡ false = zone_quiet (quiet (label ∷ name)) zones name zone e h in
    ap₂ (λ (t : Bool) (n : Option (List (List ℕ))). if t then Outside else at_node kind follow zone n)
    (cut_same zone label name (or_parts (is_under zone.origin (label ∷ name)) (has_record zone.records (label ∷ name)) q).1 front)
    (node_same zone label name q front)

pub bare_alike : (zones : List Zone) (kind : QKind) (front : List (List ℕ)) (label : List ℕ) (name : List (List ℕ)) → IsTrue (is_bare zones (label ∷ name))
    → answer_of zones (front ++ label ∷ name) kind ≡ answer_below zones name kind
unfolding answer_of answer_below
bare_alike zones kind front label name bare =
    let h : list_any (quiet (label ∷ name)) zones ≡ false = bare_quiet zones (label ∷ name) bare in
    let follow : List (List ℕ) → Answer = λ target. answer_within 7 zones target kind in
    ap (in_zone kind follow (front ++ label ∷ name)) (zone_same zones label name h front)
    ∙ in_zone_same kind follow zones label name front h (zone_of zones name) refl

-- ---- plain names

-- below a name that is none of the zone's
below_absent : (zone : Zone) (label : List ℕ) (above : List (List ℕ)) → name_exists zone (label ∷ above) ≡ false → node_below zone (label ∷ above) ≡ node_below zone above
below_absent zone label above h = ap (λ t. star_node zone (if t then (label ∷ above) else closest_above zone (label ∷ above))) h

no_star : (zone : Zone) (name : List (List ℕ)) → name_exists zone name ≡ true → quiet ((42 ∷ []) ∷ name) zone ≡ false → node_below zone name ≡ None
no_star zone name is h =
    ap (λ t. star_node zone (if t then name else closest_above zone name)) is
    ∙ ap (λ t. if t then Some ((42 ∷ []) ∷ name) else None) (absent zone ((42 ∷ []) ∷ name) [] h)

below_there : (zone : Zone) (label : List ℕ) (above : List (List ℕ)) → same_name zone.origin (label ∷ above) ≡ false → quiet ((42 ∷ []) ∷ label ∷ above) zone ≡ false → quiet ((42 ∷ []) ∷ above) zone ≡ false
    → name_exists zone (label ∷ above) ≡ true → node_below zone (label ∷ above) ≡ node_below zone above
below_there zone label above apart here up is = no_star zone (label ∷ above) is here ∙ sym (no_star zone above above_is up)
  where
    above_is : name_exists zone above ≡ true
    above_is = elim (or_cases (same_name (label ∷ above) zone.origin) (has_record zone.records (label ∷ above)) is) [
      | inl s ↦ absurd (true≢false (sym (same_self zone.origin (label ∷ above) (sym (same_true (label ∷ above) zone.origin s))) ∙ apart))
      | inr r ↦ or_right (same_name above zone.origin) (has_record zone.records above)
          (any_also (λ (r : Record). is_under r.owner (label ∷ above)) (λ (r : Record). is_under r.owner above) zone.records (λ r. under_more r.owner (label ∷ []) above) r)
    ]

plain_node : (zone : Zone) (label : List ℕ) (above : List (List ℕ)) → same_name zone.origin (label ∷ above) ≡ false → quiet ((42 ∷ []) ∷ label ∷ above) zone ≡ false → quiet ((42 ∷ []) ∷ above) zone ≡ false
    → node_below zone (label ∷ above) ≡ node_below zone above
plain_node zone label above apart here up = by (name_exists zone (label ∷ above)) refl
  where
    by : (t : Bool) → name_exists zone (label ∷ above) ≡ t → node_below zone (label ∷ above) ≡ node_below zone above
    by true e = below_there zone label above apart here up e
    by false e = below_absent zone label above e

plain_in_zone : (kind : QKind) (follow : List (List ℕ) → Answer) (zones : List Zone) (label : List ℕ) (above : List (List ℕ)) → is_parted_at zones (label ∷ above) ≡ false
    → list_any (quiet ((42 ∷ []) ∷ label ∷ above)) zones ≡ false → list_any (quiet ((42 ∷ []) ∷ above)) zones ≡ false
    → (o : Option Zone) → zone_of zones above ≡ o → below_in_zone kind follow (label ∷ above) o ≡ below_in_zone kind follow above o
plain_in_zone kind follow zones label above parts here up None e = refl
plain_in_zone kind follow zones label above parts here up (Some zone) e =
    let apart = or_parts (same_name zone.origin (label ∷ above)) (has_delegation zone.records (label ∷ above)) (zone_quiet (λ z. parts_at z (label ∷ above)) zones above zone e parts) in
    ap₂ (λ (t : Bool) (n : Option (List (List ℕ))). if t then Outside else at_node kind follow zone n)
    (sym (cut_above zone (label ∷ above) above refl apart.1))
    (plain_node zone label above apart.0 (zone_quiet (quiet ((42 ∷ []) ∷ label ∷ above)) zones above zone e here) (zone_quiet (quiet ((42 ∷ []) ∷ above)) zones above zone e up))

plain_zone : (zones : List Zone) (label : List ℕ) (above : List (List ℕ)) → is_parted_at zones (label ∷ above) ≡ false → zone_of zones (label ∷ above) ≡ zone_of zones above
plain_zone zones label above parts =
    ap (λ o. or_above o (zone_of zones above))
    (none_found (λ z. parts_at z (label ∷ above)) (λ z. same_name z.origin (label ∷ above)) zones parts (λ z h. (or_parts (same_name z.origin (label ∷ above)) (has_delegation z.records (label ∷ above)) h).0))

bare_below : (kind : QKind) (follow : List (List ℕ) → Answer) (zones : List Zone) (label : List ℕ) (above : List (List ℕ)) → list_any (quiet (label ∷ above)) zones ≡ false
    → (o : Option Zone) → zone_of zones above ≡ o → below_in_zone kind follow (label ∷ above) o ≡ below_in_zone kind follow above o
bare_below kind follow zones label above h None e = refl
bare_below kind follow zones label above h (Some zone) e =
    let q : quiet (label ∷ above) zone ≡ false = zone_quiet (quiet (label ∷ above)) zones above zone e h in
    ap₂ (λ (t : Bool) (n : Option (List (List ℕ))). if t then Outside else at_node kind follow zone n)
    (cut_same zone label above (or_parts (is_under zone.origin (label ∷ above)) (has_record zone.records (label ∷ above)) q).1 [])
    (below_absent zone label above (absent zone (label ∷ above) [] q))

pub plain_alike : (zones : List Zone) (kind : QKind) (label : List ℕ) (above : List (List ℕ)) → IsTrue (is_plain zones label above)
    → answer_below zones (label ∷ above) kind ≡ answer_below zones above kind
unfolding answer_below
plain_alike zones kind label above plain = elim (or_cases (is_bare zones (label ∷ above)) _ plain) [
  | inl bare ↦
      let h : list_any (quiet (label ∷ above)) zones ≡ false = bare_quiet zones (label ∷ above) bare in
      ap (below_in_zone kind (λ target. answer_within 7 zones target kind) (label ∷ above)) (zone_same zones label above h [])
      ∙ bare_below kind (λ target. answer_within 7 zones target kind) zones label above h (zone_of zones above) refl
  | inr tests ↦
      let front = and_parts (not (is_parted_at zones (label ∷ above)) && is_bare zones ((42 ∷ []) ∷ label ∷ above)) (is_bare zones ((42 ∷ []) ∷ above)) tests in
      let both = and_parts (not (is_parted_at zones (label ∷ above))) (is_bare zones ((42 ∷ []) ∷ label ∷ above)) front.0 in
      let parts : is_parted_at zones (label ∷ above) ≡ false = not-true (is_parted_at zones (label ∷ above)) both.0 in
      ap (below_in_zone kind (λ target. answer_within 7 zones target kind) (label ∷ above)) (plain_zone zones label above parts)
      ∙ plain_in_zone kind (λ target. answer_within 7 zones target kind) zones label above parts (bare_quiet zones ((42 ∷ []) ∷ label ∷ above) both.1) (bare_quiet zones ((42 ∷ []) ∷ above) front.1) (zone_of zones above) refl
]

-- ---- the names under a top tell what is bare

pub bare_names : (zones : List Zone) (top : List (List ℕ)) (names : List (List (List ℕ))) → AreNamesUnder zones top names → (name : List (List ℕ)) → IsUnder name top
    → is_bare zones name ≡ not (list_any (λ lent. is_under lent name) names)
bare_names zones top names are name under = ap not (both_same (list_any (quiet name) zones) (list_any (λ lent. is_under lent name) names) to from)
  where
    listed : (lent : List (List ℕ)) → is_lent_at zones lent ≡ true → is_under lent name ≡ true → list_any (λ n. is_under n name) names ≡ true
    listed lent is u =
        any_also (same_name lent) (λ n. is_under n name) names (λ n s. ap (λ (m : List (List ℕ)). is_under m name) (sym (same_true lent n s)) ∙ u)
        (are lent ∙ and_from (is_lent_at zones lent) (is_under lent top) is (under_test lent top (under_both lent name top (under_shown lent name u) under)))

    to : list_any (quiet name) zones ≡ true → list_any (λ n. is_under n name) names ≡ true
    to h =
        let z = found (quiet name) zones h in
        elim (or_cases (is_under z.0.origin name) (has_record z.0.records name) z.1) [
          | inl u ↦ listed z.0.origin (z.2 (λ y. lends_at y z.0.origin) (or_left (same_name z.0.origin z.0.origin) _ (same_self z.0.origin z.0.origin refl))) u
          | inr r ↦
              let f = found (λ (r : Record). is_under r.owner name) z.0.records r in
              listed f.0.owner (z.2 (λ y. lends_at y f.0.owner)
              (or_right (same_name z.0.origin f.0.owner) (list_any (λ r. same_name r.owner f.0.owner) z.0.records) (f.2 (λ r. same_name r.owner f.0.owner) (same_self f.0.owner f.0.owner refl)))) f.1
        ]

    from : list_any (λ n. is_under n name) names ≡ true → list_any (quiet name) zones ≡ true
    from h =
        let n = found (λ lent. is_under lent name) names h in
        let is : is_lent_at zones n.0 ≡ true = (and_parts (is_lent_at zones n.0) (is_under n.0 top) (sym (are n.0) ∙ n.2 (same_name n.0) (same_self n.0 n.0 refl))).0 in
        any_also (λ z. lends_at z n.0) (quiet name) zones
        (λ z s. elim (or_cases (same_name z.origin n.0) (list_any (λ r. same_name r.owner n.0) z.records) s) [
          | inl o ↦ or_left (is_under z.origin name) (has_record z.records name) (ap (λ (m : List (List ℕ)). is_under m name) (same_true z.origin n.0 o) ∙ n.1)
          | inr r ↦ or_right (is_under z.origin name) (has_record z.records name)
              (any_also (λ (r : Record). same_name r.owner n.0) (λ (r : Record). is_under r.owner name) z.records (λ r t. ap (λ (m : List (List ℕ)). is_under m name) (same_true r.owner n.0 t) ∙ n.1) r)
        ]) is

-- ---- the wildcard below the closest name

pub star_below : (zone : Zone) (name : List (List ℕ)) (fault : NameFault) → IsName name → length (wire_form name) ≤ 253 → Err fault ≡ child_of (42 ∷ []) (closest_at zone name) → ⊥
star_below zone name fault n short e =
    let f : Err fault ≡ Ok ((42 ∷ []) ∷ closest_at zone name) = e ∙ child_ok (42 ∷ []) (closest_at zone name) (star_choice (name_exists zone name) name (closest_above zone name) own (star_closest zone name n)) in cc
  where
    own : Star name
    own = record {
      labels = ((omega arith, omega arith), n.labels);
      octets = ((omega arith, tt), n.octets);
      lower = ap (λ (m : List (List ℕ)). (42 ∷ []) ∷ m) n.lower;
      short = omega (arith, short);
    }
