-- The laws of changes, as statements.
use Rattle.std.specs.Prelude.{ℕ, ◌≡◌, ◌^◌, ◌<◌, ◌↔◌, List, []}
use Rattle.spf_grammar.specs.declared.verdict.Verdict.{Verdict}
use Rattle.policy_compare.specs.Changes.{AreChanges}
use Rattle.policy_compare.specs.declared.change.Change.{Change}

-- the verdicts agree at each address of a family
abbrev pub Agree : (bits : ℕ) → (v w : ℕ → Verdict) → Type 0
Agree bits v w = (a : ℕ) → a < 2 ^ bits → v a ≡ w a

-- for the same verdicts of all addresses one list at most has the changes
abbrev pub OneListOfChanges : Type 0
OneListOfChanges = (v4 v6 w4 w6 x4 x6 y4 y6 : ℕ → Verdict) (p q : List Change)
    → Agree 32 v4 x4 → Agree 128 v6 x6 → Agree 32 w4 y4 → Agree 128 w6 y6
    → AreChanges v4 v6 w4 w6 p → AreChanges x4 x6 y4 y6 q → p ≡ q

-- there is no change exactly where each address has the same verdict by both
abbrev pub NoneWhereEqual : Type 0
NoneWhereEqual = (v4 v6 w4 w6 : ℕ → Verdict) (changes : List Change) → AreChanges v4 v6 w4 w6 changes
    → (changes ≡ []) ↔ (Agree 32 v4 w4 × Agree 128 v6 w6)
