-- The laws of strength, as statements.
use Rattle.std.specs.Prelude.{◌≡◌, ◌≤◌, ◌↔◌, Bool, true, false, List, ◌∷◌, Contains}
use Rattle.spf_grammar.specs.declared.verdict.Verdict.{Verdict}
use Rattle.policy_join.specs.Strength.{strength, joined}

-- of three the order of the steps does not matter
abbrev pub IsAssociative : (Verdict → Verdict → Verdict) → Type 0
IsAssociative f = (a b c : Verdict) → f (f a b) c ≡ f a (f b c)

-- nor of two the order
abbrev pub IsCommutative : (Verdict → Verdict → Verdict) → Type 0
IsCommutative f = (a b : Verdict) → f a b ≡ f b a

-- of one and the same it is that one
abbrev pub IsIdempotent : (Verdict → Verdict → Verdict) → Type 0
IsIdempotent f = (a : Verdict) → f a a ≡ a

-- the verdict is at least as strong as the other, or at least as weak
abbrev pub IsAtLeast : (weak : Bool) → (v other : Verdict) → Type 0
IsAtLeast false v other = strength other ≤ strength v
IsAtLeast true v other = strength v ≤ strength other

-- one of the verdicts, and none of them is stronger, or weaker
pub record IsStrongest (weak : Bool) (verdicts : List Verdict) (v : Verdict) : Type 0 where
  pub one : Contains verdicts v
  pub most : (other : Verdict) → Contains verdicts other → IsAtLeast weak v other

-- the strongest of some verdicts is that
abbrev pub OneOfAll : Type 0
OneOfAll = (weak : Bool) (v : Verdict) (verdicts : List Verdict)
    → IsStrongest weak (v ∷ verdicts) (joined weak (v ∷ verdicts))

-- the lists have the same members
abbrev pub HaveSame : {X : Type 0} → List X → List X → Type 0
HaveSame xs ys = (x : _) → Contains xs x ↔ Contains ys x

-- the strongest is the same for lists with the same members
abbrev pub InAnyOrder : Type 0
InAnyOrder = (weak : Bool) (xs ys : List Verdict) → HaveSame xs ys → joined weak xs ≡ joined weak ys
