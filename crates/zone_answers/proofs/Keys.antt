-- Keys of names: what stands at or below a name has a key that begins with the name's.
use Rattle.std.proofs.Common.{◌≡◌, ℕ, ◌<◌, true, false, ◌&&◌, ◌==◌, List, [], ◌∷◌, ◌++◌, length, refl, sym, ap, ap₂}
use Rattle.std.proofs.Common.{subst, ◌∙◌, true≢false, arith, append_assoc, eqb-true, eq-eqb}
use Rattle.std.proofs.lemmas.Bool.{and_parts, and_from}
use Rattle.std.proofs.lemmas.List.{append-nil}
use Rattle.std.specs.Cmp.Lexicographic.{slice_cmp}
use Rattle.std.specs.List.{starts_with}
use Rattle.std.specs.Prelude.{nat_eq}
use Rattle.std.specs.Ordering.{is_lt, nat_cmp, ordering_reverse, ordering_then, MatchOrdering}
use Rattle.std.specs.Cmp.{ranks}
use Rattle.std.specs.declared.cmp.Ordering.{Ordering}
use Rattle.std.specs.declared.cmp.Ordering.TheVariants.{Less, Equal, Greater}
use Rattle.std.proofs.lemmas.Cmp.{nat_cmp_total, tied_itself}
use Rattle.dns_name.specs.Name.{is_under}
use Rattle.zone_answers.specs.Order.{begins, key_of}
use Rattle.zone_answers.proofs.Bare.{both_same, under_test, under_shown}

-- ---- what begins with a key

pub begins_front : (key more : List ℕ) → begins key (key ++ more) ≡ true
begins_front [] more = refl
begins_front (k ∷ key) more = and_from (k == k) (begins key (key ++ more)) (eq-eqb k k refl) (begins_front key more)

pub begins_more : (key rest : List ℕ) → begins key rest ≡ true → (more : List ℕ) × (rest ≡ key ++ more)
begins_more [] rest h = (rest, refl)
begins_more (k ∷ key) [] h = absurd (true≢false (sym h))
begins_more (k ∷ key) (x ∷ rest) h =
    let parts = and_parts (k == x) (begins key rest) h in
    let m = begins_more key rest parts.1 in
    (m.0, ap₂ (λ (y : ℕ) (ys : List ℕ). y ∷ ys) (sym (eqb-true k x parts.0)) m.1)

pub begins_tested : (key rest : List ℕ) → starts_with nat_eq rest key ≡ begins key rest
begins_tested [] rest = refl
begins_tested (k ∷ key) [] = refl
begins_tested (k ∷ key) (x ∷ rest) = ap (λ b. (k == x) && b) (begins_tested key rest)

-- ---- names and their keys

abbrev flat : List (List ℕ) → List ℕ
flat [] = []
flat (label ∷ labels) = length label ∷ (label ++ flat labels)

-- the labels from the last to the first
abbrev turned : List (List ℕ) → List (List ℕ)
turned [] = []
turned (label ∷ name) = turned name ++ label ∷ []

flat_push : (labels : List (List ℕ)) (label : List ℕ) → flat (labels ++ label ∷ []) ≡ flat labels ++ length label ∷ label
flat_push [] label = ap (λ (l : List ℕ). length label ∷ l) (append-nil label)
flat_push (x ∷ labels) label = ap (λ (l : List ℕ). length x ∷ (x ++ l)) (flat_push labels label) ∙ ap (λ (l : List ℕ). length x ∷ l) (sym (append_assoc x (flat labels) (length label ∷ label)))

key_flat : (name : List (List ℕ)) → key_of name ≡ flat (turned name)
key_flat [] = refl
key_flat (label ∷ name) = ap (λ (l : List ℕ). l ++ length label ∷ label) (key_flat name) ∙ sym (flat_push (turned name) label)

front_cut : (a b x y : List ℕ) → length a ≡ length b → a ++ x ≡ b ++ y → (a ≡ b) × (x ≡ y)
front_cut [] [] x y l e = (refl, e)
front_cut [] (b ∷ bs) x y l e = absurd (omega (arith, l))
front_cut (a ∷ more) [] x y l e = absurd (omega (arith, l))
front_cut (a ∷ more) (b ∷ bs) x y l e =
    let rest = front_cut more bs x y (omega (arith, l)) (tails e) in (ap₂ (λ (z : ℕ) (zs : List ℕ). z ∷ zs) (heads e) rest.0, rest.1)
  where
    heads : {p q : ℕ} {ps qs : List ℕ} → p ∷ ps ≡ q ∷ qs → p ≡ q
    heads e = cc

    tails : {p q : ℕ} {ps qs : List ℕ} → p ∷ ps ≡ q ∷ qs → ps ≡ qs
    tails e = cc

-- octets tell where labels end
flat_front : (tops labels : List (List ℕ)) (more : List ℕ) → flat labels ≡ flat tops ++ more → (rest : List (List ℕ)) × (labels ≡ tops ++ rest)
flat_front [] labels more e = (labels, refl)
flat_front (top ∷ tops) [] more e = absurd cc
flat_front (top ∷ tops) (label ∷ labels) more e =
    let cut = front_cut label top (flat labels) (flat tops ++ more) (first e) (rest_of e ∙ append_assoc top (flat tops) more) in
    let rest = flat_front tops labels more cut.1 in
    (rest.0, ap₂ (λ (l : List ℕ) (ls : List (List ℕ)). l ∷ ls) cut.0 rest.1)
  where
    first : {p q : ℕ} {ps qs : List ℕ} → p ∷ ps ≡ q ∷ qs → p ≡ q
    first e = cc

    rest_of : {p q : ℕ} {ps qs : List ℕ} → p ∷ ps ≡ q ∷ qs → ps ≡ qs
    rest_of e = cc

turned_front : (front top : List (List ℕ)) → turned (front ++ top) ≡ turned top ++ turned front
turned_front [] top = sym (append-nil (turned top))
turned_front (x ∷ front) top = ap (λ (l : List (List ℕ)). l ++ x ∷ []) (turned_front front top) ∙ append_assoc (turned top) (turned front) (x ∷ [])

turned_push : (labels : List (List ℕ)) (label : List ℕ) → turned (labels ++ label ∷ []) ≡ label ∷ turned labels
turned_push [] label = refl
turned_push (x ∷ labels) label = ap (λ (l : List (List ℕ)). l ++ x ∷ []) (turned_push labels label)

turned_twice : (name : List (List ℕ)) → turned (turned name) ≡ name
turned_twice [] = refl
turned_twice (label ∷ name) = turned_push (turned name) label ∙ ap (λ (l : List (List ℕ)). label ∷ l) (turned_twice name)

flat_append : (a b : List (List ℕ)) → flat (a ++ b) ≡ flat a ++ flat b
flat_append [] b = refl
flat_append (x ∷ a) b = ap (λ (l : List ℕ). length x ∷ (x ++ l)) (flat_append a b) ∙ ap (λ (l : List ℕ). length x ∷ l) (sym (append_assoc x (flat a) (flat b)))

-- a key begins with another exactly where the name is at or below the other
pub key_under : (name top : List (List ℕ)) → begins (key_of top) (key_of name) ≡ is_under name top
key_under name top = both_same (begins (key_of top) (key_of name)) (is_under name top) to from
  where
    to : begins (key_of top) (key_of name) ≡ true → is_under name top ≡ true
    to h =
        let m = begins_more (key_of top) (key_of name) h in
        let r = flat_front (turned top) (turned name) m.0 (sym (key_flat name) ∙ m.1 ∙ ap (λ (l : List ℕ). l ++ m.0) (key_flat top)) in
        under_test name top (turned r.0, sym (turned_twice name) ∙ ap turned r.1 ∙ turned_front (turned top) r.0 ∙ ap (λ (l : List (List ℕ)). turned r.0 ++ l) (turned_twice top))

    from : is_under name top ≡ true → begins (key_of top) (key_of name) ≡ true
    from h =
        let u = under_shown name top h in
        ap (begins (key_of top)) (key_flat name ∙ ap (λ (n : List (List ℕ)). flat (turned n)) u.1 ∙ ap flat (turned_front u.0 top) ∙ flat_append (turned top) (turned u.0)
        ∙ ap (λ (l : List ℕ). l ++ flat (turned u.0)) (sym (key_flat top)))
        ∙ begins_front (key_of top) (flat (turned u.0))

-- ---- the order of keys

abbrev pub order : List ℕ → List ℕ → Ordering
order a b = slice_cmp nat_cmp a b

same_cmp : (k : ℕ) → nat_cmp k k ≡ Equal
same_cmp k = tied_itself nat_cmp_total k

-- what begins with a key is not before it
pub not_before : (key rest : List ℕ) → begins key rest ≡ true → is_lt (order rest key) ≡ false
not_before [] [] h = refl
not_before [] (x ∷ rest) h = refl
not_before (k ∷ key) [] h = absurd (true≢false (sym h))
not_before (k ∷ key) (x ∷ rest) h =
    let parts = and_parts (k == x) (begins key rest) h in
    ap (λ (y : ℕ). is_lt (ordering_then (nat_cmp y k) (order rest key))) (sym (eqb-true k x parts.0))
    ∙ ap (λ o. is_lt (ordering_then o (order rest key))) (same_cmp k) ∙ not_before key rest parts.1

equal_is : (m n : ℕ) → nat_cmp m n ≡ Equal → m ≡ n
equal_is m n h = subst (λ o. MatchOrdering o (m < n) (m ≡ n) (n < m)) h (ranks m n)

at_key : (k x : ℕ) (key middle later : List ℕ) (o : Ordering) → nat_cmp x k ≡ o → nat_cmp k x ≡ ordering_reverse (nat_cmp x k)
    → is_lt (ordering_then (nat_cmp x k) (order middle key)) ≡ false → is_lt (ordering_then (nat_cmp k x) (order later middle)) ≡ false
    → (is_lt (order middle key) ≡ false → is_lt (order later middle) ≡ false → begins key middle ≡ true) → begins (k ∷ key) (x ∷ middle) ≡ true
at_key k x key middle later Less e r p q more = absurd (true≢false (sym (ap (λ o. is_lt (ordering_then o (order middle key))) e) ∙ p))
at_key k x key middle later Greater e r p q more = absurd (true≢false (sym (ap (λ o. is_lt (ordering_then o (order later middle))) (r ∙ ap ordering_reverse e)) ∙ q))
at_key k x key middle later Equal e r p q more =
    and_from (k == x) (begins key middle) (eq-eqb k x (sym (equal_is x k e)))
    (more (sym (ap (λ o. is_lt (ordering_then o (order middle key))) e) ∙ p) (sym (ap (λ o. is_lt (ordering_then o (order later middle))) (r ∙ ap ordering_reverse e)) ∙ q))

-- what stands between a key and what begins with it begins with it
pub between : (key middle later : List ℕ) → begins key later ≡ true → is_lt (order middle key) ≡ false → is_lt (order later middle) ≡ false → begins key middle ≡ true
between [] middle later h p q = refl
between (k ∷ key) middle [] h p q = absurd (true≢false (sym h))
between (k ∷ key) [] (y ∷ later) h p q = absurd (true≢false p)
between (k ∷ key) (x ∷ middle) (y ∷ later) h p q =
    let parts = and_parts (k == y) (begins key later) h in
    let at : is_lt (ordering_then (nat_cmp k x) (order later middle)) ≡ false = ap (λ (z : ℕ). is_lt (ordering_then (nat_cmp z x) (order later middle))) (eqb-true k y parts.0) ∙ q in
    at_key k x key middle later (nat_cmp x k) refl (nat_cmp_total.antisymm k x) p at (between key middle later parts.1)
