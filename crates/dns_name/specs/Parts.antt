-- The last element of a list.
use Rattle.std.specs.Prelude.{Bool, false, List, [], ◌∷◌, if◌then◌else◌}

-- without the last element, if that passes the test
abbrev pub without_final : {A : Type 0} → (A → Bool) → List A → List A
without_final test [] = []
without_final test (x ∷ []) = if test x then [] else x ∷ []
without_final test (x ∷ y ∷ xs) = x ∷ without_final test (y ∷ xs)

-- whether there is a last element, and it passes the test
abbrev pub ends_so : {A : Type 0} → (A → Bool) → List A → Bool
ends_so test [] = false
ends_so test (x ∷ []) = test x
ends_so test (x ∷ y ∷ xs) = ends_so test (y ∷ xs)
