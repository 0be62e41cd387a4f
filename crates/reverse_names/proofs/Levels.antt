-- The deepest node on a path.
use Rattle.std.proofs.Common.{◌≡◌, ℕ, zero, suc, ◌+◌, ◌<◌, ◌≤◌, ◌⊎◌, inl, inr, Bool, true, false, refl, sym, ap, ◌∙◌, arith}
use Rattle.std.specs.Prelude.{if◌then◌else◌}
use Rattle.reverse_names.specs.Tree.{deepest}

choice : {C : Type 0} (t : Bool) (x y z : C) → (t ≡ true → x ≡ z) → (t ≡ false → y ≡ z) → (if t then x else y) ≡ z
choice true x y z e f = e refl
choice false x y z e f = f refl

-- one class for all deepest nodes
pub deepest_is : {C : Type 0} (on : ℕ → Bool) (class : ℕ → C) (target : C) (count : ℕ) → 0 < count → ((d : ℕ) → d < count → on (suc d) ≡ false → class d ≡ target) → class count ≡ target
    → deepest on class count ≡ target
deepest_is {C} on class target count some bare full = by count (omega arith) (inl refl)
  where
    here : (d : ℕ) → d ≤ count → (d ≡ count) ⊎ (on (suc d) ≡ false) → class d ≡ target
    here d h (inl e) = ap class e ∙ full
    here d h (inr none) = at d h none (last d count h)
      where
        last : (d count : ℕ) → d ≤ count → (d ≡ count) ⊎ (d < count)
        last zero zero h = inl refl
        last zero (suc count) h = inr (omega arith)
        last (suc d) zero h = absurd (omega arith)
        last (suc d) (suc count) h = elim (last d count (omega arith)) [ inl e ↦ inl (ap suc e) | inr l ↦ inr (omega arith) ]

        at : (d : ℕ) → d ≤ count → on (suc d) ≡ false → (d ≡ count) ⊎ (d < count) → class d ≡ target
        at d h none (inl e) = ap class e ∙ full
        at d h none (inr l) = bare d l none

    by : (d : ℕ) → d ≤ count → (d ≡ count) ⊎ (on (suc d) ≡ false) → deepest on class d ≡ target
    by zero h end = here zero h end
    by (suc d) h end = choice (on (suc d)) (class (suc d)) (deepest on class d) target (λ _. here (suc d) h end) (λ none. by d (omega arith) (inr none))

-- the class at a node that is on a path
pub deepest_on : {C : Type 0} (on : ℕ → Bool) (class : ℕ → C) (d : ℕ) → on d ≡ true → deepest on class d ≡ class d
deepest_on on class zero h = refl
deepest_on on class (suc d) h = choice (on (suc d)) (class (suc d)) (deepest on class d) (class (suc d)) (λ _. refl) (λ no. absurd (apart (on (suc d)) h no))
  where
    apart : (b : Bool) → b ≡ true → b ≡ false → ⊥
    apart b e f = let g : true ≡ false = sym e ∙ f in cc

-- one level more, where the code counts by `+`
pub deepest_more : {C : Type 0} (on : ℕ → Bool) (class : ℕ → C) (d e : ℕ) → e ≡ d + 1 → deepest on class e ≡ (if on e then class e else deepest on class d)
deepest_more on class d zero h = absurd (omega arith)
deepest_more on class d (suc e) h = let same : e ≡ d = omega arith in ap (λ (n : ℕ). if on (suc e) then class (suc e) else deepest on class n) same
