-- Aliases beside other records.
use Rattle.std.proofs.Common.{◌≡◌, ◌≢◌, ℕ, ◌+◌, ◌<◌, ◌≤◌, Bool, true, false, cond, ◌||◌, List, [], ◌∷◌, length, take, drop, get_or, filter_map, Option, None, Some, IsSome, IfSome, refl, sym, ap, ap₂, subst, ◌∙◌, true≢false, arith, inl, inr, ◌⊎◌, map, filter, MatchOption, All, Contains, is_some, if◌then◌else◌}
use Rattle.std.proofs.lemmas.Bool.{or_right, not-false}
use Rattle.std.specs.List.{list_any}
use Rattle.std.specs.Option.{option_to_list}
use Rattle.std.specs.declared.cmp.Ordering.{Ordering}
use Rattle.std.specs.declared.cmp.Ordering.TheVariants.{Less, Equal, Greater}
use Rattle.std.specs.Ordering.{nat_cmp, is_lt, is_gt, is_some_and, ordering_reverse, ordering_then, MatchOrdering}
use Rattle.std.specs.Cmp.{IsTotalOrder}
use Rattle.std.specs.Cmp.Lexicographic.{slice_cmp, slice_partial_cmp}
use Rattle.std.proofs.lemmas.Cmp.{nat_list_cmp_total, upto, tied_itself, same_from_slice_cmp_tested}
use Rattle.std.specs.Map.{lookup, keys_of}
use Rattle.std.proofs.lemmas.List.{take_all}
use Rattle.std.proofs.lemmas.List.Elements.{All-more, All-weaker, All-contains, Contains-get_or, Contains-append_right}
use Rattle.std.proofs.lemmas.List.Folds.{list_any-append}
use Rattle.dns_name.specs.Printed.{name_cmp, printed_name}
use Rattle.dns_name.proofs.Names.{same_name_decides}
use Rattle.master_reader.specs.declared.record.Body.{Body}
use Rattle.master_reader.specs.declared.record.Body.TheVariants.{A, Aaaa, Mx, Txt, Cname, Ns, Other}
use Rattle.master_reader.specs.declared.record.Record.{Record}
use Rattle.zone_answers.specs.declared.node.Chosen.TheVariants.{Every}
use Rattle.zone_answers.specs.declared.node.Node.{Node}
use Rattle.zone_answers.specs.Zone.{Zone}
use Rattle.zone_answers.specs.Same.{same_name}
use Rattle.zone_answers.specs.Answers.{bodies_at, target_of}
use Rattle.zone_answers.specs.Lend.{bodies_clash, has_clash, IsLeastClash, IsLesser}
use Rattle.zone_answers.specs.Index.{body_at, bodies_at_places, first_of, has_owner, places_of, summary, IsIndex}
use Rattle.zone_answers.proofs.Places.{all_by_places, bodies_more, bodies_behind, bodies_all}

-- ---- bodies of one owner

never : (p : Body → Bool) (bodies : List Body) → ((b : Body) → p b ≡ false) → list_any p bodies ≡ false
never p [] h = refl
never p (b ∷ bodies) h = ap (λ t. t || list_any p bodies) (h b) ∙ never p bodies h

quiet : (b d : Body) → target_of b ≡ None → bodies_clash b d ≡ false
quiet (A n) d e = refl
quiet (Aaaa n) d e = refl
quiet (Mx p x) d e = refl
quiet (Txt s) d e = refl
quiet (Cname x) d e = absurd cc
quiet (Ns x) d e = refl
quiet Other d e = refl

not_first : (b : Body) (bodies : List Body) → None ≡ first_of (filter_map target_of (b ∷ bodies)) → (target_of b ≡ None) × (None ≡ first_of (filter_map target_of bodies))
not_first (A n) bodies e = (refl, e)
not_first (Aaaa n) bodies e = (refl, e)
not_first (Mx p x) bodies e = (refl, e)
not_first (Txt s) bodies e = (refl, e)
not_first (Cname x) bodies e = absurd cc
not_first (Ns x) bodies e = (refl, e)
not_first Other bodies e = (refl, e)

pub none_clash : (all bodies : List Body) → None ≡ first_of (filter_map target_of bodies) → list_any (λ b. list_any (bodies_clash b) all) bodies ≡ false
none_clash all [] e = refl
none_clash all (b ∷ bodies) e =
    let p = not_first b bodies e in
    ap (λ t. t || list_any (λ c. list_any (bodies_clash c) all) bodies) (never (bodies_clash b) all (λ d. quiet b d p.0)) ∙ none_clash all bodies p.1

first_passes : (p : Body → Bool) (bodies : List Body) (target : List (List ℕ)) → Some target ≡ first_of (filter_map target_of bodies) → p (Cname target) ≡ true → list_any p bodies ≡ true
first_passes p [] target e h = absurd cc
first_passes p ((A n) ∷ bodies) target e h = or_right (p (A n)) (list_any p bodies) (first_passes p bodies target e h)
first_passes p ((Aaaa n) ∷ bodies) target e h = or_right (p (Aaaa n)) (list_any p bodies) (first_passes p bodies target e h)
first_passes p ((Mx q x) ∷ bodies) target e h = or_right (p (Mx q x)) (list_any p bodies) (first_passes p bodies target e h)
first_passes p ((Txt s) ∷ bodies) target e h = or_right (p (Txt s)) (list_any p bodies) (first_passes p bodies target e h)
first_passes p ((Cname x) ∷ bodies) target e h = let same : target ≡ x = cc in ap (λ b. b || list_any p bodies) (ap (λ (y : List (List ℕ)). p (Cname y)) (sym same) ∙ h)
first_passes p ((Ns x) ∷ bodies) target e h = or_right (p (Ns x)) (list_any p bodies) (first_passes p bodies target e h)
first_passes p (Other ∷ bodies) target e h = or_right (p Other) (list_any p bodies) (first_passes p bodies target e h)

false_too-one : (p q ps qs : Bool) → p || ps ≡ false → (p ≡ false → q ≡ false) → (ps ≡ false → qs ≡ false) → q || qs ≡ false
false_too-one true q ps qs h f g = absurd (true≢false h)
false_too-one false q ps qs h f g = ap₂ (λ (a b : Bool). a || b) (f refl) (g h)

false_too : (p q : Body → Bool) (bodies : List Body) → list_any p bodies ≡ false → ((b : Body) → p b ≡ false → q b ≡ false) → list_any q bodies ≡ false
false_too p q [] h f = refl
false_too p q (b ∷ bodies) h f = false_too-one (p b) (q b) (list_any p bodies) (list_any q bodies) h (f b) (λ k. false_too p q bodies k f)

calm : (target : List (List ℕ)) (all : List Body) (b : Body) → list_any (bodies_clash (Cname target)) all ≡ false → bodies_clash (Cname target) b ≡ false → list_any (bodies_clash b) all ≡ false
calm target all (A n) h e = absurd (true≢false e)
calm target all (Aaaa n) h e = absurd (true≢false e)
calm target all (Mx p x) h e = absurd (true≢false e)
calm target all (Txt s) h e = absurd (true≢false e)
calm target all (Cname x) h e = ap (λ (y : List (List ℕ)). list_any (bodies_clash (Cname y)) all) (sym ((same_name_decides target x).0 (not-false (same_name target x) e))) ∙ h
calm target all (Ns x) h e = absurd (true≢false e)
calm target all Other h e = never (bodies_clash Other) all (λ d. quiet Other d refl)

-- the first alias decides
pub first_decides : (bodies : List Body) (target : List (List ℕ)) → Some target ≡ first_of (filter_map target_of bodies)
    → list_any (bodies_clash (Cname target)) bodies ≡ list_any (λ b. list_any (bodies_clash b) bodies) bodies
first_decides bodies target e = by (list_any (bodies_clash (Cname target)) bodies) refl
  where
    by : (t : Bool) → list_any (bodies_clash (Cname target)) bodies ≡ t → t ≡ list_any (λ b. list_any (bodies_clash b) bodies) bodies
    by true h = sym (first_passes (λ b. list_any (bodies_clash b) bodies) bodies target e h)
    by false h = sym (false_too (bodies_clash (Cname target)) (λ b. list_any (bodies_clash b) bodies) bodies h (λ b. calm target bodies b h))

-- ---- over the places of a name

pub clash_found : (zone : Zone) (name target : List (List ℕ)) (places : List ℕ) (i : ℕ) (body : Body) → Some target ≡ first_of (filter_map target_of (bodies_at zone name)) → places ≡ places_of Every 0 zone.records name → i < length places
    → Some body ≡ body_at zone.records (get_or places i 0) → bodies_clash (Cname target) body ≡ true → true ≡ has_clash zone name
clash_found zone name target places i body first is lt e h =
    let p : Body → Bool = bodies_clash (Cname target) in
    sym (sym (first_decides (bodies_at zone name) target first)
    ∙ ap (list_any p) (sym (all_by_places zone places name is) ∙ bodies_behind zone.records places (i + 1))
    ∙ list_any-append p (bodies_at_places zone.records (take (i + 1) places)) (bodies_at_places zone.records (drop (i + 1) places))
    ∙ ap (λ b. b || list_any p (bodies_at_places zone.records (drop (i + 1) places)))
    (ap (list_any p) (bodies_more zone.records places i (Some body) lt e) ∙ list_any-append p (bodies_at_places zone.records (take i places)) (body ∷ [])
    ∙ or_right (list_any p (bodies_at_places zone.records (take i places))) (p body || false) (ap (λ b. b || false) h)))

pub clash_more : (records : List Record) (target : List (List ℕ)) (places : List ℕ) (i : ℕ) (o : Option Body) → i < length places → o ≡ body_at records (get_or places i 0)
    → list_any (bodies_clash (Cname target)) (option_to_list o) ≡ false
    → list_any (bodies_clash (Cname target)) (bodies_at_places records (take i places)) ≡ false → list_any (bodies_clash (Cname target)) (bodies_at_places records (take (i + 1) places)) ≡ false
clash_more records target places i o lt e none h =
    ap (list_any (bodies_clash (Cname target))) (bodies_more records places i o lt e)
    ∙ list_any-append (bodies_clash (Cname target)) (bodies_at_places records (take i places)) (option_to_list o)
    ∙ ap₂ (λ (a b : Bool). a || b) h none

pub no_clash : (zone : Zone) (name target : List (List ℕ)) (places : List ℕ) (i : ℕ) → Some target ≡ first_of (filter_map target_of (bodies_at zone name)) → places ≡ places_of Every 0 zone.records name → length places ≤ i
    → list_any (bodies_clash (Cname target)) (bodies_at_places zone.records (take i places)) ≡ false → false ≡ has_clash zone name
no_clash zone name target places i first is le h =
    sym (sym (first_decides (bodies_at zone name) target first)
    ∙ ap (list_any (bodies_clash (Cname target))) (sym (all_by_places zone places name is) ∙ sym (bodies_all zone.records places i le)) ∙ h)

-- ---- the lesser of two names

by_text : IsTotalOrder (slice_cmp nat_cmp)
by_text = nat_list_cmp_total

not_above : (o : Ordering) → is_gt o ≡ false → o ≢ Greater
not_above Less h e = absurd cc
not_above Equal h e = absurd cc
not_above Greater h e = true≢false h

above_not : (o : Ordering) → o ≢ Greater → is_gt o ≡ false
above_not Less h = refl
above_not Equal h = refl
above_not Greater h = absurd (h refl)

tied : (name : List (List ℕ)) → name_cmp name name ≢ Greater
tied name = not_above (name_cmp name name) (ap is_gt (tied_itself by_text (printed_name name)))

pub at_most_trans : (a b c : List (List ℕ)) → name_cmp a b ≢ Greater → name_cmp b c ≢ Greater → name_cmp a c ≢ Greater
at_most_trans a b c h k = not_above (name_cmp a c) (upto by_text (printed_name a) (printed_name b) (printed_name c) (above_not (name_cmp a b) h) (above_not (name_cmp b c) k))

pub lesser_none : (least : Option (List (List ℕ))) (name : List (List ℕ)) → least ≡ None → IsLesser least name name
lesser_none least name e = record { one_of = inl refl; at_most = tied name; below = subst (λ (o : Option (List (List ℕ))). IfSome o (λ other. name_cmp name other ≢ Greater)) (sym e) tt }

pub lesser_new : (least : Option (List (List ℕ))) (name other : List (List ℕ)) → least ≡ Some other → name_cmp name other ≢ Greater → IsLesser least name name
lesser_new least name other e h = record { one_of = inl refl; at_most = tied name; below = subst (λ (o : Option (List (List ℕ))). IfSome o (λ x. name_cmp name x ≢ Greater)) (sym e) h }

pub lesser_old : (least : Option (List (List ℕ))) (name other : List (List ℕ)) → least ≡ Some other → name_cmp other name ≢ Greater → IsLesser least name other
lesser_old least name other e h = record { one_of = inr e; at_most = h; below = subst (λ (o : Option (List (List ℕ))). IfSome o (λ x. name_cmp other x ≢ Greater)) (sym e) (tied other) }

less_first : (o : Ordering) (x y : ℕ) (xs ys : List ℕ) → o ≡ nat_cmp x y
    → MatchOrdering o (is_lt (slice_cmp nat_cmp (x ∷ xs) (y ∷ ys)) ≡ is_lt Less) (is_lt (slice_cmp nat_cmp (x ∷ xs) (y ∷ ys)) ≡ is_lt (slice_cmp nat_cmp xs ys)) (is_lt (slice_cmp nat_cmp (x ∷ xs) (y ∷ ys)) ≡ is_lt Greater)
less_first Less x y xs ys e = ap (λ p. is_lt (ordering_then p (slice_cmp nat_cmp xs ys))) (sym e)
less_first Equal x y xs ys e = ap (λ p. is_lt (ordering_then p (slice_cmp nat_cmp xs ys))) (sym e)
less_first Greater x y xs ys e = ap (λ p. is_lt (ordering_then p (slice_cmp nat_cmp xs ys))) (sym e)

-- what `<` of two texts says
pub texts_less : (xs ys a b : List ℕ) (r : Bool) → r ≡ is_some_and is_lt (slice_partial_cmp (λ x y. Some (nat_cmp x y)) xs ys) → xs ≡ a → ys ≡ b → r ≡ is_lt (slice_cmp nat_cmp a b)
texts_less xs ys a b r h e f =
    same_from_slice_cmp_tested nat_cmp is_lt (λ x y. is_lt (slice_cmp nat_cmp x y)) refl (λ _ _. refl) (λ _ _. refl) (λ x y us vs o k. less_first o x y us vs k) xs ys r h
    ∙ ap₂ (λ (x y : List ℕ). is_lt (slice_cmp nat_cmp x y)) e f

less_not : (o : Ordering) → is_lt o ≡ true → o ≢ Greater
less_not Less h e = absurd cc
less_not Equal h e = absurd cc
less_not Greater h e = true≢false (sym h)

turned : (o p : Ordering) → o ≡ ordering_reverse p → is_lt p ≡ false → o ≢ Greater
turned o Less e h f = true≢false h
turned o Equal e h f = absurd cc
turned o Greater e h f = absurd cc

pub text_less : (name other : List (List ℕ)) (xs ys : List ℕ) → true ≡ is_some_and is_lt (slice_partial_cmp (λ x y. Some (nat_cmp x y)) xs ys) → xs ≡ printed_name name → ys ≡ printed_name other → name_cmp name other ≢ Greater
text_less name other xs ys h e f = less_not (name_cmp name other) (sym (texts_less xs ys (printed_name name) (printed_name other) true h e f))

pub text_not_less : (name other : List (List ℕ)) (xs ys : List ℕ) → false ≡ is_some_and is_lt (slice_partial_cmp (λ x y. Some (nat_cmp x y)) xs ys) → xs ≡ printed_name name → ys ≡ printed_name other → name_cmp other name ≢ Greater
text_not_less name other xs ys h e f = turned (name_cmp other name) (name_cmp name other) (by_text.antisymm (printed_name other) (printed_name name)) (sym (texts_less xs ys (printed_name name) (printed_name other) false h e f))

-- ---- the least of all names

-- the least so far is no greater than this name, if records clash at it
abbrev pub AtMost : Zone → Option (List (List ℕ)) → List (List ℕ) → Type 0
AtMost zone None name = has_clash zone name ≡ false
AtMost zone (Some least) name = has_clash zone name ≡ true → name_cmp least name ≢ Greater

abbrev pub Clashes : Zone → Option (List (List ℕ)) → Type 0
Clashes zone None = Unit {0}
Clashes zone (Some least) = has_clash zone least ≡ true

below_more : (zone : Zone) (least : Option (List (List ℕ))) (name lesser other : List (List ℕ)) → IsLesser least name lesser → AtMost zone least other → AtMost zone (Some lesser) other
below_more zone None name lesser other l h k = absurd (true≢false (sym k ∙ h))
below_more zone (Some least) name lesser other l h k = at_most_trans lesser least other l.below (h k)

pub at_most_lesser : (zone : Zone) (least : Option (List (List ℕ))) (name lesser : List (List ℕ)) (names : List (List (List ℕ))) (i : ℕ) → i < length names → name ≡ get_or names i name
    → IsLesser least name lesser → All (AtMost zone least) (take i names) → All (AtMost zone (Some lesser)) (take (i + 1) names)
at_most_lesser zone least name lesser names i lt e l h =
    All-more (AtMost zone (Some lesser)) names i name lt (All-weaker (AtMost zone least) (AtMost zone (Some lesser)) (λ other. below_more zone least name lesser other l) (take i names) h)
    (λ k. subst (λ (n : List (List ℕ)). name_cmp lesser n ≢ Greater) e l.at_most)

quiet_or_less : (clash : Bool) (P : Type 0) → clash ≡ false → clash ≡ true → P
quiet_or_less clash P h k = absurd (true≢false (sym k ∙ h))

quiet_at_most : (zone : Zone) (least : Option (List (List ℕ))) (name : List (List ℕ)) → has_clash zone name ≡ false → AtMost zone least name
quiet_at_most zone None name h = h
quiet_at_most zone (Some least) name h = quiet_or_less (has_clash zone name) (name_cmp least name ≢ Greater) h

pub at_most_same : (zone : Zone) (least : Option (List (List ℕ))) (name : List (List ℕ)) (names : List (List (List ℕ))) (i : ℕ) → i < length names → name ≡ get_or names i name
    → has_clash zone name ≡ false → All (AtMost zone least) (take i names) → All (AtMost zone least) (take (i + 1) names)
at_most_same zone least name names i lt e c h = All-more (AtMost zone least) names i name lt h (quiet_at_most zone least (get_or names i name) (ap (has_clash zone) (sym e) ∙ c))

pub clashes_lesser : (zone : Zone) (least : Option (List (List ℕ))) (name lesser : List (List ℕ)) → Clashes zone least → has_clash zone name ≡ true → IsLesser least name lesser → has_clash zone lesser ≡ true
clashes_lesser zone least name lesser h c l = by least h l.one_of
  where
    by : (o : Option (List (List ℕ))) → Clashes zone o → (lesser ≡ name) ⊎ (o ≡ Some lesser) → has_clash zone lesser ≡ true
    by o k (inl e) = ap (has_clash zone) e ∙ c
    by None k (inr e) = absurd cc
    by (Some x) k (inr e) = let same : x ≡ lesser = cc in ap (has_clash zone) (sym same) ∙ k

abbrev IsLeastOf : Zone → Option (List (List ℕ)) → List (List (List ℕ)) → Type 0
IsLeastOf zone least names = Clashes zone least × All (AtMost zone least) names

pub step_clash : (zone : Zone) (least more : Option (List (List ℕ))) (name lesser : List (List ℕ)) (names : List (List (List ℕ))) (i : ℕ) → i < length names → name ≡ get_or names i name
    → IsLesser least name lesser → has_clash zone name ≡ true → IsLeastOf zone least (take i names) → more ≡ Some lesser → IsLeastOf zone more (take (i + 1) names)
step_clash zone least more name lesser names i lt e l c h is =
    subst (λ (o : Option (List (List ℕ))). IsLeastOf zone o (take (i + 1) names)) (sym is) (clashes_lesser zone least name lesser h.0 c l, at_most_lesser zone least name lesser names i lt e l h.1)

pub step_quiet : (zone : Zone) (least more : Option (List (List ℕ))) (name : List (List ℕ)) (names : List (List (List ℕ))) (i : ℕ) → i < length names → name ≡ get_or names i name
    → has_clash zone name ≡ false → IsLeastOf zone least (take i names) → more ≡ least → IsLeastOf zone more (take (i + 1) names)
step_quiet zone least more name names i lt e c h is =
    subst (λ (o : Option (List (List ℕ))). IsLeastOf zone o (take (i + 1) names)) (sym is) (h.0, at_most_same zone least name names i lt e c h.1)

-- a name at which records clash has records, so it is in the index
any_of_none : (owner : List (List ℕ)) (bodies : List Body) → bodies ≡ [] → list_any (λ b. list_any (bodies_clash b) bodies) bodies ≡ false
any_of_none owner bodies e = ap (λ (l : List Body). list_any (λ b. list_any (bodies_clash b) l) l) e

own_none-one : (r : Record) (owner : List (List ℕ)) (rest : List Record) (t : Bool) → t || has_owner rest owner ≡ false
    → (has_owner rest owner ≡ false → filter (λ s. same_name s.owner owner) rest ≡ []) → cond t (r ∷ filter (λ s. same_name s.owner owner) rest) (filter (λ s. same_name s.owner owner) rest) ≡ []
own_none-one r owner rest true h more = absurd (true≢false h)
own_none-one r owner rest false h more = more h

own_none : (records : List Record) (owner : List (List ℕ)) → has_owner records owner ≡ false → filter (λ s. same_name s.owner owner) records ≡ []
own_none [] owner h = refl
own_none (r ∷ records) owner h = own_none-one r owner records (same_name r.owner owner) h (own_none records owner)

key_there : (nodes : List (List (List ℕ) × Node)) (owner : List (List ℕ)) → IsSome (lookup (same_name owner) nodes) → Contains (keys_of nodes) owner
key_there [] owner h = absurd cc
key_there (e ∷ nodes) owner h = by (same_name owner e.0) refl h (key_there nodes owner)
  where
    by : (t : Bool) → same_name owner e.0 ≡ t → IsSome (cond t (Some e.1) (lookup (same_name owner) nodes)) → (IsSome (lookup (same_name owner) nodes) → Contains (keys_of nodes) owner) → Contains (e.0 ∷ keys_of nodes) owner
    by true is k more = subst (Contains (e.0 ∷ keys_of nodes)) (sym ((same_name_decides owner e.0).0 is)) (Contains-get_or (e.0 ∷ keys_of nodes) 0 e.0 (omega arith))
    by false is k more = Contains-append_right (e.0 ∷ []) (keys_of nodes) owner (more k)

clash_indexed : (zone : Zone) (nodes : List (List (List ℕ) × Node)) (owner : List (List ℕ)) → IsIndex zone.records nodes → has_clash zone owner ≡ true → Contains (keys_of nodes) owner
clash_indexed zone nodes owner index h = by (has_owner zone.records owner) refl
  where
    by : (t : Bool) → has_owner zone.records owner ≡ t → Contains (keys_of nodes) owner
    by false e = absurd (true≢false (sym h ∙ any_of_none owner (bodies_at zone owner) (ap (map (λ r. r.body)) (own_none zone.records owner e))))
    by true e = key_there nodes owner (ap is_some (index.at owner ∙ ap (λ b. if b then Some (summary zone.records owner) else None) e))

pub least_of_all : (zone : Zone) (nodes : List (List (List ℕ) × Node)) (least : Option (List (List ℕ))) (i : ℕ) → IsIndex zone.records nodes → length (keys_of nodes) ≤ i
    → Clashes zone least → All (AtMost zone least) (take i (keys_of nodes)) → MatchOption least ((owner : List (List ℕ)) → has_clash zone owner ≡ false) (IsLeastClash zone)
least_of_all zone nodes least i index le c h = by least c (subst (All (AtMost zone least)) (take_all i (keys_of nodes) le) h)
  where
    by : (o : Option (List (List ℕ))) → Clashes zone o → All (AtMost zone o) (keys_of nodes) → MatchOption o ((owner : List (List ℕ)) → has_clash zone owner ≡ false) (IsLeastClash zone)
    by None k all = λ owner. quiet_or (has_clash zone owner) (λ t. All-contains (AtMost zone None) (keys_of nodes) owner all (clash_indexed zone nodes owner index t))
      where
        quiet_or : (t : Bool) → (t ≡ true → t ≡ false) → t ≡ false
        quiet_or true f = f refl
        quiet_or false f = refl
    by (Some x) k all = record { clashes = k; least = λ other t. All-contains (AtMost zone (Some x)) (keys_of nodes) other all (clash_indexed zone nodes other index t) t }

pub least_done : (zone held : Zone) (nodes : List (List (List ℕ) × Node)) (names : List (List (List ℕ))) (least result : Option (List (List ℕ))) (i : ℕ) → IsIndex held.records nodes → held ≡ zone → names ≡ keys_of nodes → length names ≤ i
    → IsLeastOf zone least (take i names) → least ≡ result → MatchOption result ((owner : List (List ℕ)) → has_clash zone owner ≡ false) (IsLeastClash zone)
least_done zone held nodes names least result i index is e le h r =
    subst (λ (o : Option (List (List ℕ))). MatchOption o ((owner : List (List ℕ)) → has_clash zone owner ≡ false) (IsLeastClash zone)) r
    (least_of_all zone nodes least i (subst (λ (z : Zone). IsIndex z.records nodes) is index) (omega (arith, le, ap length e)) h.0
    (subst (λ (l : List (List (List ℕ))). All (AtMost zone least) (take i l)) e h.1))
