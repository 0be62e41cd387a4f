-- A list in order is told by its items.
use Rattle.std.proofs.Common.{◌≡◌, ◌↔◌, inl, inr, List, [], ◌∷◌, refl, sym, ap₂, subst, ◌∙◌, Contains, arith}
use Rattle.symbolic_check.proofs.Keying.{in_cons, at_front, behind}

-- each item stands before the next one
abbrev pub InOrder : {X : Type 0} → (X → X → Type 0) → List X → Type 0
InOrder Before [] = Unit {0}
InOrder Before (x ∷ []) = Unit {0}
InOrder Before (x ∷ y ∷ xs) = Before x y × InOrder Before (y ∷ xs)

-- no item stands before itself, and what stands before an item stands before all that it stands before
pub record IsStrict {X : Type 0} (Before : X → X → Type 0) : Type 0 where
  pub never : (x : X) → Before x x → ⊥
  pub along : (x y z : X) → Before x y → Before y z → Before x z

-- the same items
abbrev pub SameItems : {X : Type 0} → List X → List X → Type 0
SameItems {X} xs ys = (x : X) → Contains xs x ↔ Contains ys x

none_there : {X : Type 0} (x : X) → Contains {X = X} [] x → ⊥
none_there x none = omega (arith, none.1)

rest_in_order : {X : Type 0} (Before : X → X → Type 0) (x : X) (xs : List X) → InOrder Before (x ∷ xs) → InOrder Before xs
rest_in_order Before x [] h = tt
rest_in_order Before x (y ∷ xs) h = h.1

-- the first item stands before all others
before_all : {X : Type 0} (Before : X → X → Type 0) → IsStrict Before → (x : X) (xs : List X) → InOrder Before (x ∷ xs) → (y : X) → Contains xs y → Before x y
before_all Before strict x [] h y there = absurd (none_there y there)
before_all Before strict x (z ∷ xs) h y there = elim (in_cons z y xs there) [
  | inl here ↦ subst (λ u. Before x u) here h.0
  | inr later ↦ strict.along x z y h.0 (before_all Before strict z xs h.1 y later)
]

same_first : {X : Type 0} (Before : X → X → Type 0) → IsStrict Before → (x y : X) (xs ys : List X) → InOrder Before (x ∷ xs) → InOrder Before (y ∷ ys) → SameItems (x ∷ xs) (y ∷ ys) → x ≡ y
same_first Before strict x y xs ys hx hy same = elim (in_cons y x ys ((same x).0 (at_front x x xs refl))) [
  | inl here ↦ sym here
  | inr later ↦ elim (in_cons x y xs ((same y).1 (at_front y y ys refl))) [
    | inl here ↦ here
    | inr later' ↦ absurd (strict.never x (strict.along x y x (before_all Before strict x xs hx y later') (before_all Before strict y ys hy x later)))
  ]
]

in_rest : {X : Type 0} (Before : X → X → Type 0) → IsStrict Before → (x y : X) (xs ys : List X) → x ≡ y → InOrder Before (x ∷ xs)
    → ((z : X) → Contains (x ∷ xs) z → Contains (y ∷ ys) z) → (z : X) → Contains xs z → Contains ys z
in_rest Before strict x y xs ys first h same z there = elim (in_cons y z ys (same z (behind x z xs there))) [
  | inl here ↦ absurd (strict.never x (subst (λ u. Before x u) (sym (first ∙ here)) (before_all Before strict x xs h z there)))
  | inr later ↦ later
]

-- lists in order with the same items are equal
pub one_list : {X : Type 0} (Before : X → X → Type 0) → IsStrict Before → (xs ys : List X) → InOrder Before xs → InOrder Before ys → SameItems xs ys → xs ≡ ys
one_list Before strict [] [] hx hy same = refl
one_list Before strict [] (y ∷ ys) hx hy same = absurd (none_there y ((same y).1 (at_front y y ys refl)))
one_list Before strict (x ∷ xs) [] hx hy same = absurd (none_there x ((same x).0 (at_front x x xs refl)))
one_list {X} Before strict (x ∷ xs) (y ∷ ys) hx hy same =
    let first : x ≡ y = same_first Before strict x y xs ys hx hy same in
    ap₂ (λ (u : X) (us : List X). u ∷ us) first
    (one_list Before strict xs ys (rest_in_order Before x xs hx) (rest_in_order Before y ys hy)
    (λ z. (in_rest Before strict x y xs ys first hx (λ u. (same u).0) z, in_rest Before strict y x ys xs (sym first) hy (λ u. (same u).1) z)))
