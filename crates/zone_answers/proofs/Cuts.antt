-- Delegations, wildcards and names that exist, over the list of records.
use Rattle.std.proofs.Common.{◌≡◌, ℕ, ◌<◌, Bool, true, false, not, ◌||◌, ◌&&◌, List, [], ◌∷◌, ◌++◌, length, None, Some, Ok, Err, refl, sym, ap, ap₂, subst, ◌∙◌, true≢false, arith, if◌then◌else◌, length-append}
use Rattle.std.specs.List.{list_any}
use Rattle.dns_name.specs.declared.fault.NameFault.{NameFault}
use Rattle.dns_name.specs.Wire.{wire_form}
use Rattle.dns_name.specs.Name.{IsName, IsUnder, is_under, parent_of, child_of}
use Rattle.dns_name.proofs.Names.{under_decides, under_itself, parent_under, child_ok, tail_name}
use Rattle.master_reader.specs.declared.record.Record.{Record}
use Rattle.zone_answers.specs.declared.node.Chosen.{Chosen}
use Rattle.zone_answers.specs.declared.node.Node.{Node}
use Rattle.zone_answers.specs.Zone.{Zone}
use Rattle.zone_answers.specs.Same.{same_name}
use Rattle.zone_answers.specs.Answers.{is_delegation, is_cut_off, name_exists, closest_above}
use Rattle.zone_answers.specs.Index.{places_of, has_delegation, has_owner, summary, IsIndex}
use Rattle.zone_answers.proofs.Nodes.{at, same_true, same_self, same_not}
use Rattle.zone_answers.proofs.Indexes.{no_place}

-- ---- a name that is not in the index

not_there : (h : Bool) (node : Node) → None ≡ (if h then Some node else None) → h ≡ false
not_there true node e = absurd cc
not_there false node e = refl

pub none_here : (chosen : Chosen) (records : List Record) (nodes : List (List (List ℕ) × Node)) (name : List (List ℕ)) → IsIndex records nodes → None ≡ at nodes name
    → (places_of chosen 0 records name ≡ []) × (has_delegation records name ≡ false)
none_here chosen records nodes name index none = no_place chosen 0 records name (not_there (has_owner records name) (summary records name) (none ∙ index.at name))

-- ---- tests over lists

any_none : {X : Type 0} (test : X → Bool) (xs : List X) → ((x : X) → test x ≡ false) → list_any test xs ≡ false
any_none test [] h = refl
any_none test (x ∷ xs) h = ap (λ b. b || list_any test xs) (h x) ∙ any_none test xs h

any_also-one : (p q ps qs : Bool) → p || ps ≡ true → (p ≡ true → q ≡ true) → (ps ≡ true → qs ≡ true) → q || qs ≡ true
any_also-one true q ps qs h f g = ap (λ b. b || qs) (f refl)
any_also-one false true ps qs h f g = refl
any_also-one false false ps qs h f g = g h

pub any_also : {X : Type 0} (p q : X → Bool) (xs : List X) → ((x : X) → p x ≡ true → q x ≡ true) → list_any p xs ≡ true → list_any q xs ≡ true
any_also p q [] sub h = h
any_also p q (x ∷ xs) sub h = any_also-one (p x) (q x) (list_any p xs) (list_any q xs) h (sub x) (any_also p q xs sub)

any_same-one : (p f g ps fs gs : Bool) → p || ps ≡ false → (p ≡ false → f ≡ g) → (ps ≡ false → fs ≡ gs) → f || fs ≡ g || gs
any_same-one true f g ps fs gs h e es = absurd (true≢false h)
any_same-one false f g ps fs gs h e es = ap₂ (λ (a b : Bool). a || b) (e refl) (es h)

pub any_same : {X : Type 0} (p f g : X → Bool) (xs : List X) → list_any p xs ≡ false → ((x : X) → p x ≡ false → f x ≡ g x) → list_any f xs ≡ list_any g xs
any_same p f g [] h e = refl
any_same p f g (x ∷ xs) h e = any_same-one (p x) (f x) (g x) (list_any p xs) (list_any f xs) (list_any g xs) h (e x) (λ k. any_same p f g xs k e)

pub none_also : {X : Type 0} (p q : X → Bool) (xs : List X) → ((x : X) → p x ≡ false → q x ≡ false) → list_any p xs ≡ false → list_any q xs ≡ false
none_also p q xs sub h = any_same p q (λ x. false) xs h sub ∙ any_none (λ x. false) xs (λ x. refl)

-- ---- delegations

abbrev pub cuts : Zone → List (List ℕ) → Record → Bool
cuts zone name r = is_delegation r.body && is_under name r.owner && is_under r.owner zone.origin && not (same_name r.owner zone.origin)

both_ways : (a b : List (List ℕ)) → IsUnder a b → IsUnder b a → a ≡ b
both_ways a b (u, e) (v, f) = by u e
  where
    by : (u : List (List ℕ)) → a ≡ u ++ b → a ≡ b
    by [] e = e
    by (x ∷ u) e = absurd (omega (arith, ap length e, ap length f, length-append u b, length-append v a))

at_top : (d u w n : Bool) → (u ≡ true → w ≡ true → n ≡ false) → (d && u && w && n) ≡ false
at_top false u w n h = refl
at_top true false w n h = refl
at_top true true false n h = refl
at_top true true true n h = h refl refl

no_cut-one : (d u w n : Bool) → d ≡ false → (d && u && w && n) ≡ false
no_cut-one d u w n h = ap (λ b. b && u && w && n) h

-- no record delegates
pub no_cut : (zone : Zone) (name : List (List ℕ)) → list_any (λ r. is_delegation r.body) zone.records ≡ false → is_cut_off zone name ≡ false
no_cut zone name h =
    none_also (λ (r : Record). is_delegation r.body) (cuts zone name) zone.records
    (λ r d. no_cut-one (is_delegation r.body) (is_under name r.owner) (is_under r.owner zone.origin) (not (same_name r.owner zone.origin)) d) h

pub cut_at_origin : (zone : Zone) (name : List (List ℕ)) → name ≡ zone.origin → is_cut_off zone name ≡ false
cut_at_origin zone name e = any_none (cuts zone name) zone.records (λ r. at_top (is_delegation r.body) (is_under name r.owner) (is_under r.owner zone.origin) (not (same_name r.owner zone.origin))
    (λ u w. ap not (same_self r.owner zone.origin (both_ways r.owner zone.origin ((under_decides r.owner zone.origin).0 w) (subst (λ (n : List (List ℕ)). IsUnder n r.owner) e ((under_decides name r.owner).0 u))))))

here-one : (s d u w n : Bool) → (s && d) ≡ true → (s ≡ true → (u ≡ true) × (w ≡ true) × (n ≡ true)) → (d && u && w && n) ≡ true
here-one false d u w n h f = absurd (true≢false (sym h))
here-one true false u w n h f = absurd (true≢false (sym h))
here-one true true u w n h f = let p = f refl in ap₂ (λ (a b : Bool). a && b) (ap₂ (λ (a b : Bool). a && b) p.0 p.1) p.2

not_same : (b : Bool) → b ≡ false → not b ≡ true
not_same b e = ap not e

pub cut_here : (zone : Zone) (name : List (List ℕ)) → IsUnder name zone.origin → same_name name zone.origin ≡ false → has_delegation zone.records name ≡ true → is_cut_off zone name ≡ true
cut_here zone name under apart h = any_also (λ r. same_name r.owner name && is_delegation r.body) (cuts zone name) zone.records
    (λ r. λ t. here-one (same_name r.owner name) (is_delegation r.body) (is_under name r.owner) (is_under r.owner zone.origin) (not (same_name r.owner zone.origin)) t
    (λ s. let o : r.owner ≡ name = same_true r.owner name s in
    (under_itself name r.owner (sym o), ap (λ (n : List (List ℕ)). is_under n zone.origin) o ∙ (under_decides name zone.origin).1 under, ap not (ap (λ (n : List (List ℕ)). same_name n zone.origin) o ∙ apart))))
    h

pub above-one : (d s u v w n : Bool) → (s && d) ≡ false → (s ≡ false → u ≡ v) → (d && u && w && n) ≡ (d && v && w && n)
above-one false s u v w n h f = refl
above-one true true u v w n h f = absurd (true≢false h)
above-one true false u v w n h f = ap (λ b. b && w && n) (f refl)

pub cut_above : (zone : Zone) (name above : List (List ℕ)) → parent_of name ≡ Some above → has_delegation zone.records name ≡ false → is_cut_off zone above ≡ is_cut_off zone name
cut_above zone [] above p h = absurd cc
cut_above zone (label ∷ rest) above p h =
    ap (is_cut_off zone) (sym (tail p))
    ∙ any_same (λ r. same_name r.owner (label ∷ rest) && is_delegation r.body) (cuts zone rest) (cuts zone (label ∷ rest)) zone.records h
    (λ r t. above-one (is_delegation r.body) (same_name r.owner (label ∷ rest)) (is_under rest r.owner) (is_under (label ∷ rest) r.owner) (is_under r.owner zone.origin) (not (same_name r.owner zone.origin)) t
    (λ s. sym (parent_under label rest r.owner (λ e. same_not r.owner (label ∷ rest) s (sym e)))))
  where
    tail : parent_of (label ∷ rest) ≡ Some above → rest ≡ above
    tail e = cc

pub under_above : (name above top : List (List ℕ)) → parent_of name ≡ Some above → IsUnder name top → same_name name top ≡ false → IsUnder above top
under_above name above top p (u, e) apart = by u e
  where
    by : (u : List (List ℕ)) → name ≡ u ++ top → IsUnder above top
    by [] e = absurd (same_not name top apart e)
    by (x ∷ u) e = (u, let f : Some above ≡ Some (u ++ top) = sym p ∙ ap parent_of e in cc)

-- ---- wildcards

star_name : (label : List ℕ) (rest : List (List ℕ)) → IsName (label ∷ rest) → IsName ((42 ∷ []) ∷ rest)
star_name label rest n =
    let t : IsName rest = tail_name label rest n in
    record {
      labels = ((omega arith, omega arith), t.labels);
      octets = ((omega arith, tt), t.octets);
      lower = ap (λ (m : List (List ℕ)). (42 ∷ []) ∷ m) t.lower;
      short = omega (arith, n.short, n.labels.0.0, length-append label (wire_form rest));
    }

star_root : IsName ((42 ∷ []) ∷ [])
star_root = record { labels = ((omega arith, omega arith), tt); octets = ((omega arith, tt), tt); lower = refl; short = omega arith }

abbrev pub Star : List (List ℕ) → Type 0
Star name = IsName ((42 ∷ []) ∷ name)

pub star_choice : (t : Bool) (near above : List (List ℕ)) → Star near → Star above → Star (if t then near else above)
star_choice true near above a b = a
star_choice false near above a b = b

pub star_closest : (zone : Zone) (name : List (List ℕ)) → IsName name → Star (closest_above zone name)
star_closest zone [] n = star_root
star_closest zone (label ∷ rest) n = star_choice (name_exists zone rest) rest (closest_above zone rest) (star_name label rest n) (star_closest zone rest (tail_name label rest n))

pub star_fits : (zone : Zone) (name : List (List ℕ)) (fault : NameFault) → IsName name → Err fault ≡ child_of (42 ∷ []) (closest_above zone name) → ⊥
star_fits zone name fault n e = let f : Err fault ≡ Ok ((42 ∷ []) ∷ closest_above zone name) = e ∙ child_ok (42 ∷ []) (closest_above zone name) (star_closest zone name n) in cc

pub parent_shorter : (name above : List (List ℕ)) → parent_of name ≡ Some above → length above < length name
parent_shorter [] above p = absurd cc
parent_shorter (label ∷ rest) above p = let e : rest ≡ above = cc in omega (arith, ap length e)

there_is : (h : Bool) (node found : Node) → Some found ≡ (if h then Some node else None) → found ≡ node
there_is true node found e = cc
there_is false node found e = absurd cc

pub node_is : (records : List Record) (nodes : List (List (List ℕ) × Node)) (name : List (List ℕ)) (found : Node) → IsIndex records nodes → Some found ≡ at nodes name → found ≡ summary records name
node_is records nodes name found index e = there_is (has_owner records name) (summary records name) found (e ∙ index.at name)
