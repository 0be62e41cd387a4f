-- Whether the lines of a kept list agree with zones.
use Rattle.std.specs.Prelude.{◌≡◌, ◌≢◌, ℕ, ◌+◌, Bool, true, false, List, ◌∷◌, ◌++◌, length}
use Rattle.std.specs.List.{AllByRecursion}
use Rattle.zone_answers.specs.Zone.{Zone}
use Rattle.deps_watch.specs.declared.kept.KeptLine.{KeptLine}
use Rattle.deps_watch.specs.Alike.{IsText}
use Rattle.deps_watch.specs.Lists.{Agrees}
use Rattle.deps_watch.specs.declared.fresh.Freshness.{Freshness}
use Rattle.deps_watch.specs.declared.fresh.Freshness.TheVariants.{Fresh, Stale}

-- the zones say something else to the question of the line than its answer
pub record Differs (zones : List Zone) (line : KeptLine) : Type 0 where
  pub text : List ℕ
  pub is : IsText zones line.question text
  pub other : text ≢ line.answer

-- the first line that differs, by its place in the file, whose first line is the header
pub record IsFirstStale (zones : List Zone) (lines : List KeptLine) (place : ℕ) : Type 0 where
  pub front : List KeptLine
  pub line : KeptLine
  pub back : List KeptLine
  pub whole : lines ≡ front ++ line ∷ back
  pub agree : AllByRecursion (Agrees zones) front
  pub differs : Differs zones line
  pub at : place ≡ length front + 2

-- each line agrees, or the first one that differs is this one
abbrev pub IsFreshness : List Zone → List KeptLine → Freshness → Type 0
IsFreshness zones lines Fresh = AllByRecursion (Agrees zones) lines
IsFreshness zones lines (Stale place) = IsFirstStale zones lines place

-- whether the line agrees
abbrev pub IsAgreement : List Zone → KeptLine → Bool → Type 0
IsAgreement zones line true = Agrees zones line
IsAgreement zones line false = Differs zones line
