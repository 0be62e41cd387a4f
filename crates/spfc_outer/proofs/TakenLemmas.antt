-- What is taken of a file.
use Rattle.std.proofs.Common.{◌≡◌, ◌≤◌, ◌+◌, ◌-◌, ◌++◌, ℕ, Bool, List, length, Option, Some, sym, ap, ◌∙◌, append_assoc, length-append, arith}
use Rattle.spfc_outer.specs.Moved.{TakesAtMost, Takes, some}

-- what is taken behind what was taken
pub taken_behind : (most room : ℕ) (all first left behind : List ℕ) → first ++ left ≡ all → length first + room ≤ most
    → TakesAtMost room left behind → TakesAtMost most all behind
taken_behind most room all first left behind is fits takes =
    record {
      taken = first ++ takes.taken;
      whole = sym is ∙ (ap (λ (l : List ℕ). first ++ l) takes.whole ∙ sym (append_assoc first takes.taken behind));
      few = omega (arith, length-append first takes.taken, takes.few, fits);
    }

-- what is taken of a file that was chosen
pub taken_of : (most : ℕ) (held : Option (List ℕ)) (Same : Type 0) (chosen : Bool) (contents left : List ℕ) → held ≡ Some contents
    → TakesAtMost most contents left → Takes most held Same chosen left
taken_of most held Same chosen contents left is takes = some contents is takes
