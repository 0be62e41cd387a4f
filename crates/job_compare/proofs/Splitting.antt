-- The words before and behind `with`.
use Rattle.std.proofs.Common.{◌≡◌, ◌+◌, ◌-◌, ◌||◌, ◌∙◌, ℕ, suc, not, Bool, true, false, List, [], ◌∷◌, Option, Some, None, Result, IfOk, MatchOption, length, map, take, drop, cond, nat_lt, refl, sym, ap, subst, arith}
use Rattle.std.proofs.lemmas.List.{take_all, length-drop}
use Rattle.std.specs.List.{before_first, after_first, list_any, position, position_or_len, take-map, drop-map}
use Rattle.std.specs.declared.alloc.AllocError.{AllocError}
use Rattle.job_compare.specs.Words.{AreGroups, AreGroupsBy, AreTwoGroups, is_with}
use Rattle.job_compare.specs.declared.groups.Groups.{Groups}

shifted : (n l : ℕ) → nat_lt n l ≡ nat_lt (1 + n) (suc l)
shifted n l = grind arith

none_below : (l : ℕ) → true ≡ nat_lt 0 (suc l)
none_below l = grind arith

any_step : (b rest : Bool) (n l : ℕ) → rest ≡ nat_lt n l → (b || rest) ≡ nat_lt (cond (not b) (1 + n) 0) (suc l)
any_step true rest n l same = none_below l
any_step false rest n l same = same ∙ shifted n l

module _ {X Y : Type 0} (h : X → Y) (p : Y → Bool) where
  -- the first place is the same in the list of the values
  place_of_values : (xs : List X) → position_or_len p (map h xs) ≡ position_or_len (λ x. p (h x)) xs
  place_of_values [] = refl
  place_of_values (x ∷ xs) = ap (λ (n : ℕ). cond (not (p (h x))) (1 + n) 0) (place_of_values xs)

  -- whether one passes, by the first place
  any_by_place : (xs : List X) → list_any p (map h xs) ≡ nat_lt (position_or_len (λ x. p (h x)) xs) (length xs)
  any_by_place [] = refl
  any_by_place (x ∷ xs) =
      any_step (p (h x)) (list_any p (map h xs)) (position_or_len (λ y. p (h y)) xs) (length xs) (any_by_place xs)

  found_by : (b : Bool) (n i : ℕ) → cond b (Some n) None ≡ Some i → (b ≡ true) × (n ≡ i)
  found_by true n i e = (refl, cc)
  found_by false n i e = absurd cc

  none_by : (b : Bool) (n : ℕ) → cond b (Some n) None ≡ None → b ≡ false
  none_by true n e = absurd cc
  none_by false n e = refl

  pub none_of : (xs : List X) → position (λ x. p (h x)) xs ≡ None → list_any p (map h xs) ≡ false
  none_of xs e =
      any_by_place xs ∙ none_by (nat_lt (position_or_len (λ x. p (h x)) xs) (length xs)) (position_or_len (λ x. p (h x)) xs) e

  -- all that stands behind a place
  rest_of : (xs : List X) (i : ℕ) → map h (take (length xs - i) (drop i xs)) ≡ drop i (map h xs)
  rest_of xs i =
      ap (map h) (take_all (length xs - i) (drop i xs) (omega (arith, length-drop i xs))) ∙ sym (drop-map h i xs)

  pub found_at : (xs : List X) (i : ℕ) → position (λ x. p (h x)) xs ≡ Some i
      → (list_any p (map h xs) ≡ true) × (map h (take i xs) ≡ before_first p (map h xs))
      × (map h (take (length xs - (i + 1)) (drop (i + 1) xs)) ≡ after_first p (map h xs))
  found_at xs i e =
      let first : ℕ = position_or_len (λ x. p (h x)) xs in
      let found = found_by (nat_lt first (length xs)) first i e in
      let place : i ≡ position_or_len p (map h xs) = sym found.1 ∙ sym (place_of_values xs) in (
        any_by_place xs ∙ found.0,
        sym (take-map h i xs) ∙ ap (λ (n : ℕ). take n (map h xs)) place,
        rest_of xs (i + 1) ∙ ap (λ (n : ℕ). drop (n + 1) (map h xs)) place,
      )

-- ---- reading
abbrev pub Named : (Groups → Type 0) → Result (Option Groups) AllocError → Type 0
Named P r = IfOk r (λ groups. MatchOption groups ((any : Groups) → ¬ P any) P)

pub one_named : (words : List (List ℕ)) (r : Result (Option Groups) AllocError) → list_any is_with words ≡ false
    → Named (AreGroupsBy false words) r → Named (AreGroups words) r
one_named words r none named = subst (λ (with : Bool). Named (AreGroupsBy with words) r) (sym none) named

pub two_named : (words first others : List (List ℕ)) (r : Result (Option Groups) AllocError)
    → (list_any is_with words ≡ true) × (first ≡ before_first is_with words) × (others ≡ after_first is_with words)
    → Named (AreTwoGroups first others) r → Named (AreGroups words) r
two_named words first others r parts named =
    let front = subst (λ (w : List (List ℕ)). Named (AreTwoGroups w others) r) parts.1 named in
    let both = subst (λ (w : List (List ℕ)). Named (AreTwoGroups (before_first is_with words) w) r) parts.2 front in
    subst (λ (with : Bool). Named (AreGroupsBy with words) r) (sym parts.0) both
