-- What zones say at reversed names, as far as it was asked.
use Rattle.std.specs.Prelude.{◌≡◌, ◌↔◌, ℕ, Bool, true, List, IfSome}
use Rattle.std.specs.Map.{lookup}
use Rattle.addr_bits.specs.declared.address.Family.{Family}
use Rattle.addr_bits.specs.declared.address.Family.TheVariants.{V4, V6}
use Rattle.zone_answers.specs.Same.{same_name}
use Rattle.zone_answers.specs.Zone.{Zone}
use Rattle.deps_watch.specs.Alike.{IsReversedText}
use Rattle.deps_watch.specs.declared.reversals.Reversals.{Reversals}

-- each text is what the zones say at the reversed names of the family below its name
abbrev pub AreTexts : List Zone → Family → List (List (List ℕ) × List ℕ) → Type 0
AreTexts zones f texts = (name : List (List ℕ)) → IfSome (lookup (same_name name) texts) (IsReversedText zones name f)

-- the same of both families
pub record AreReversals (zones : List Zone) (reversals : Reversals) : Type 0 where
  pub four : AreTexts zones V4 reversals.four.entries
  pub six : AreTexts zones V6 reversals.six.entries

-- whether the answer is what the zones say there
pub record IsReversedAgreement (zones : List Zone) (f : Family) (name : List (List ℕ)) (answer : List ℕ)
    (same : Bool) : Type 0 where
  pub text : List ℕ
  pub is : IsReversedText zones name f text
  pub equal : (same ≡ true) ↔ (text ≡ answer)
