-- Texts by names: one more.
use Rattle.std.specs.Prelude.{IfSome}
use Rattle.std.specs.Map.{lookup}
use Rattle.std.proofs.Common.{◌≡◌, ℕ, Bool, true, false, cond, List, Option, Some, refl, sym, subst}
use Rattle.addr_bits.specs.declared.address.Family.{Family}
use Rattle.zone_answers.specs.Same.{same_name}
use Rattle.zone_answers.specs.Zone.{Zone}
use Rattle.zone_answers.proofs.Nodes.{same_true}
use Rattle.deps_watch.specs.Alike.{IsReversedText}
use Rattle.deps_watch.specs.Reversals.{AreTexts}

abbrev Rows : Type 0
Rows = List (List (List ℕ) × List ℕ)

pub text_at : (zones : List Zone) (f : Family) (texts : Rows) (name : List (List ℕ)) (text : List ℕ) → AreTexts zones f texts → lookup (same_name name) texts ≡ Some text → IsReversedText zones name f text
text_at zones f texts name text are at = subst (λ (o : Option (List ℕ)). IfSome o (IsReversedText zones name f)) at (are name)

pub texts_more : (zones : List Zone) (f : Family) (texts more : Rows) (added : List (List ℕ)) (text : List ℕ) → AreTexts zones f texts → IsReversedText zones added f text
    → ((name : List (List ℕ)) → lookup (same_name name) more ≡ cond (same_name added name) (Some text) (lookup (same_name name) texts)) → AreTexts zones f more
texts_more zones f texts more added text are is at name = subst (λ (o : Option (List ℕ)). IfSome o (IsReversedText zones name f)) (sym (at name)) (by (same_name added name) refl)
  where
    by : (t : Bool) → same_name added name ≡ t → IfSome (cond t (Some text) (lookup (same_name name) texts)) (IsReversedText zones name f)
    by true e = subst (λ (n : List (List ℕ)). IsReversedText zones n f text) (same_true added name e) is
    by false e = are name
