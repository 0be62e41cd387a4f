-- Parts that every address of a family has alike, one after the other.
use Rattle.std.proofs.Common.{List, inl, inr, Contains}
use Rattle.zone_answers.specs.declared.answer.Question.{Question}
use Rattle.spf_model.specs.declared.outcome.Outcome.{Outcome}
use Rattle.spf_model.specs.Run.{Ends, Answering}
use Rattle.spf_model.specs.Settling.{PartOf, Passes, Stops, Adds}
use Rattle.spf_model.proofs.Following.{follows_twice, follows_more}

-- all questions of one list are in another
abbrev pub Within : List Question → List Question → Type 0
Within asked more = (q : Question) → Contains asked q → Contains more q

-- ---- parts one after the other

-- a part, and then what goes on with what it hands on
abbrev pub then_part : {A B : Type 0} → PartOf A → (A → PartOf B) → PartOf B
then_part {A} first next counts go = first counts (λ (x : A). next x counts go)

-- both pass
pub passes_twice : {A B : Type 0} (zones : Answering) (mid more : List Question) (first : PartOf A) (next : A → PartOf B) (x : A) (y : B)
    → Within mid more → Passes zones mid first x → Passes zones more (next x) y → Passes zones more (then_part first next) y
passes_twice {A} zones mid more first next x y within f g = λ counts go.
    follows_twice zones more (first counts (λ (z : A). next z counts go)) (next x counts go) (go y)
    (follows_more zones mid more (first counts (λ (z : A). next z counts go)) (next x counts go) within (f counts (λ (z : A). next z counts go)))
    (g counts go)

-- the second one stops
pub stops_next : {A B : Type 0} (zones : Answering) (mid more : List Question) (first : PartOf A) (next : A → PartOf B) (x : A) (outcome : Outcome)
    → Within mid more → Passes zones mid first x → Stops zones more (next x) outcome → Stops zones more (then_part first next) outcome
stops_next {A} zones mid more first next x outcome within f g = (
  g.0,
  λ counts go.
      follows_twice zones more (first counts (λ (z : A). next z counts go)) (next x counts go) (Ends outcome counts)
      (follows_more zones mid more (first counts (λ (z : A). next z counts go)) (next x counts go) within (f counts (λ (z : A). next z counts go)))
      (g.1 counts go),
)

-- the first one stops
pub stops_first : {A B : Type 0} (zones : Answering) (asked : List Question) (first : PartOf A) (next : A → PartOf B) (outcome : Outcome)
    → Stops zones asked first outcome → Stops zones asked (then_part first next) outcome
stops_first {A} zones asked first next outcome f = (f.0, λ counts go. f.1 counts (λ (z : A). next z counts go))

-- nothing is added
pub adds_none : {A : Type 0} (zones : Answering) (part : PartOf A) (asked : List Question) → Adds zones part asked asked
adds_none zones part asked = record { kept = λ q h. h; only = λ q h. inl h }

-- the first one alone adds
pub adds_first : {A B : Type 0} (zones : Answering) (asked mid : List Question) (first : PartOf A) (next : A → PartOf B)
    → Adds zones first asked mid → Adds zones (then_part first next) asked mid
adds_first {A} zones asked mid first next f = record {
  kept = f.kept;
  only = λ q h. elim (f.only q h) [
    | inl here ↦ inl here
    | inr by ↦ inr (λ counts go. by counts (λ (z : A). next z counts go))
  ];
}

-- both add
pub adds_twice : {A B : Type 0} (zones : Answering) (asked mid more : List Question) (first : PartOf A) (next : A → PartOf B) (x : A)
    → Passes zones mid first x → Adds zones first asked mid → Adds zones (next x) mid more → Adds zones (then_part first next) asked more
adds_twice {A} zones asked mid more first next x passes f g = record {
  kept = λ q h. g.kept q (f.kept q h);
  only = λ q h. elim (g.only q h) [
    | inl here ↦ elim (f.only q here) [
      | inl there ↦ inl there
      | inr by ↦ inr (λ counts go. by counts (λ (z : A). next z counts go))
    ]
    | inr by ↦ inr (λ counts go. (passes counts (λ (z : A). next z counts go)).asks q (by counts go))
  ];
}
