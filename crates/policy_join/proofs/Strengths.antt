-- How the strongest verdict of a list stands to its members.
use Rattle.std.proofs.Common.{◌≡◌, ◌≤◌, ◌<◌, ◌++◌, ◌⊎◌, inl, inr, ℕ, zero, suc, nat_lt, Bool, true, false, List, [], ◌∷◌, Contains, refl, sym, ap, ◌∙◌, subst, arith}
use Rattle.std.specs.Prelude.{if◌then◌else◌}
use Rattle.std.proofs.lemmas.Bool.{ltb-true, ltb-false}
use Rattle.spf_grammar.specs.declared.verdict.Verdict.{Verdict}
use Rattle.spf_grammar.specs.declared.verdict.Verdict.TheVariants.{Fail, SoftFail, Pass, Neutral}
use Rattle.policy_join.specs.Strength.{strength, strongest, weakest, chosen, of_none, joined}
use Rattle.policy_join.specs.Laws.{IsAtLeast, IsStrongest, HaveSame, OneOfAll, InAnyOrder}

-- ---- lists
pub in_cons : {X : Type 0} (x y : X) (xs : List X) → Contains (x ∷ xs) y → (x ≡ y) ⊎ Contains xs y
in_cons x y xs (zero, within, is) = inl is
in_cons x y xs (suc k, within, is) = inr (k, omega (arith, within), is)

pub at_front : {X : Type 0} (x : X) (xs : List X) → Contains (x ∷ xs) x
at_front x xs = (0, omega arith, refl)

pub behind : {X : Type 0} (x y : X) (xs : List X) → Contains xs y → Contains (x ∷ xs) y
behind x y xs has = (suc has.0, omega (arith, has.1), has.2)

pub in_none : {X : Type 0} (y : X) → Contains [] y → ⊥
in_none y has = omega (arith, has.1)

-- ---- two verdicts
abbrev verdict_of : ℕ → Verdict
verdict_of zero = Fail
verdict_of (suc zero) = SoftFail
verdict_of (suc (suc zero)) = Neutral
verdict_of (suc (suc (suc n))) = Pass

of_strength : (v : Verdict) → verdict_of (strength v) ≡ v
of_strength Pass = refl
of_strength Neutral = refl
of_strength SoftFail = refl
of_strength Fail = refl

same_strength : (v w : Verdict) → strength v ≡ strength w → v ≡ w
same_strength v w e = sym (of_strength v) ∙ (ap verdict_of e ∙ of_strength w)

most : (v : Verdict) → strength v ≤ 3
most Pass = omega arith
most Neutral = omega arith
most SoftFail = omega arith
most Fail = omega arith

picked_left : (v w : Verdict) (b : Bool) → nat_lt (strength v) (strength w) ≡ b → strength v ≤ strength (if b then w else v)
picked_left v w true e = omega (arith, ltb-true (strength v) (strength w) e)
picked_left v w false e = omega arith

picked_right : (v w : Verdict) (b : Bool) → nat_lt (strength v) (strength w) ≡ b → strength w ≤ strength (if b then w else v)
picked_right v w true e = omega arith
picked_right v w false e = omega (arith, ltb-false (strength v) (strength w) e)

passed_left : (v w : Verdict) (b : Bool) → nat_lt (strength w) (strength v) ≡ b → strength (if b then w else v) ≤ strength v
passed_left v w true e = omega (arith, ltb-true (strength w) (strength v) e)
passed_left v w false e = omega arith

passed_right : (v w : Verdict) (b : Bool) → nat_lt (strength w) (strength v) ≡ b → strength (if b then w else v) ≤ strength w
passed_right v w true e = omega arith
passed_right v w false e = omega (arith, ltb-false (strength w) (strength v) e)

left : (weak : Bool) (v w : Verdict) → IsAtLeast weak (chosen weak v w) v
left false v w = picked_left v w (nat_lt (strength v) (strength w)) refl
left true v w = passed_left v w (nat_lt (strength w) (strength v)) refl

right : (weak : Bool) (v w : Verdict) → IsAtLeast weak (chosen weak v w) w
right false v w = picked_right v w (nat_lt (strength v) (strength w)) refl
right true v w = passed_right v w (nat_lt (strength w) (strength v)) refl

one_by : (v w : Verdict) (b : Bool) → ((if b then w else v) ≡ v) ⊎ ((if b then w else v) ≡ w)
one_by v w true = inr refl
one_by v w false = inl refl

one_of_two : (weak : Bool) (v w : Verdict) → (chosen weak v w ≡ v) ⊎ (chosen weak v w ≡ w)
one_of_two false v w = one_by v w (nat_lt (strength v) (strength w))
one_of_two true v w = one_by v w (nat_lt (strength w) (strength v))

-- ---- the order
pub through : (weak : Bool) (a b c : Verdict) → IsAtLeast weak a b → IsAtLeast weak b c → IsAtLeast weak a c
through false a b c x y = omega (arith, x, y)
through true a b c x y = omega (arith, x, y)

both_ways : (weak : Bool) (a b : Verdict) → IsAtLeast weak a b → IsAtLeast weak b a → a ≡ b
both_ways false a b x y = same_strength a b (omega (arith, x, y))
both_ways true a b x y = same_strength a b (omega (arith, x, y))

above_none : (weak : Bool) (v : Verdict) → IsAtLeast weak v (of_none weak)
above_none false v = omega arith
above_none true v = most v

above_both : (weak : Bool) (c a b : Verdict) → IsAtLeast weak c a → IsAtLeast weak c b → IsAtLeast weak c (chosen weak a b)
above_both weak c a b x y = elim (one_of_two weak a b) [
  | inl e ↦ subst (λ (v : Verdict). IsAtLeast weak c v) (sym e) x
  | inr e ↦ subst (λ (v : Verdict). IsAtLeast weak c v) (sym e) y
]

pub commutes : (weak : Bool) (a b : Verdict) → chosen weak a b ≡ chosen weak b a
commutes weak a b =
    both_ways weak (chosen weak a b) (chosen weak b a) (above_both weak (chosen weak a b) b a (right weak a b) (left weak a b))
    (above_both weak (chosen weak b a) a b (right weak b a) (left weak b a))

pub associates : (weak : Bool) (a b c : Verdict) → chosen weak (chosen weak a b) c ≡ chosen weak a (chosen weak b c)
associates weak a b c =
    let ab : Verdict = chosen weak a b in
    let bc : Verdict = chosen weak b c in
    let whole : Verdict = chosen weak ab c in
    let other : Verdict = chosen weak a bc in
    let on_ab : IsAtLeast weak whole ab = left weak ab c in
    let on_bc : IsAtLeast weak other bc = right weak a bc in
    both_ways weak whole other
    (above_both weak whole a bc (through weak whole ab a on_ab (left weak a b))
    (above_both weak whole b c (through weak whole ab b on_ab (right weak a b)) (right weak ab c)))
    (above_both weak other ab c
    (above_both weak other a b (left weak a bc) (through weak other bc b on_bc (left weak b c)))
    (through weak other bc c on_bc (right weak b c)))

pub repeats : (weak : Bool) (a : Verdict) → chosen weak a a ≡ a
repeats weak a = elim (one_of_two weak a a) [ inl e ↦ e | inr e ↦ e ]

beside_none : (weak : Bool) (v : Verdict) → chosen weak v (of_none weak) ≡ v
beside_none weak v = elim (one_of_two weak v (of_none weak)) [
  | inl e ↦ e
  | inr e ↦ both_ways weak (chosen weak v (of_none weak)) v (left weak v (of_none weak))
      (subst (λ (w : Verdict). IsAtLeast weak v w) (sym e) (above_none weak v))
]

-- ---- a list
above_all : (weak : Bool) (vs : List Verdict) (other : Verdict) → Contains vs other → IsAtLeast weak (joined weak vs) other
above_all weak [] other has = absurd (in_none other has)
above_all weak (v ∷ vs) other has = elim (in_cons v other vs has) [
  | inl e ↦ subst (λ (w : Verdict). IsAtLeast weak (joined weak (v ∷ vs)) w) e (left weak v (joined weak vs))
  | inr h ↦ through weak (joined weak (v ∷ vs)) (joined weak vs) other (right weak v (joined weak vs)) (above_all weak vs other h)
]

one_of : (weak : Bool) (v : Verdict) (vs : List Verdict) → Contains (v ∷ vs) (joined weak (v ∷ vs))
one_of weak v [] = subst (λ (w : Verdict). Contains (v ∷ []) w) (sym (beside_none weak v)) (at_front v [])
one_of weak v (w ∷ ws) = elim (one_of_two weak v (joined weak (w ∷ ws))) [
  | inl e ↦ subst (λ (x : Verdict). Contains (v ∷ w ∷ ws) x) (sym e) (at_front v (w ∷ ws))
  | inr e ↦ subst (λ (x : Verdict). Contains (v ∷ w ∷ ws) x) (sym e) (behind v (joined weak (w ∷ ws)) (w ∷ ws) (one_of weak w ws))
]

pub one_of_all : OneOfAll
one_of_all weak v vs = record { one = one_of weak v vs; most = λ other has. above_all weak (v ∷ vs) other has }

pub in_any_order : InAnyOrder
in_any_order weak [] [] same = refl
in_any_order weak [] (y ∷ ys) same = absurd (in_none y ((same y).1 (at_front y ys)))
in_any_order weak (x ∷ xs) [] same = absurd (in_none x ((same x).0 (at_front x xs)))
in_any_order weak (x ∷ xs) (y ∷ ys) same =
    let one : Verdict = joined weak (x ∷ xs) in
    let other : Verdict = joined weak (y ∷ ys) in
    both_ways weak one other (above_all weak (x ∷ xs) other ((same other).1 (one_of weak y ys)))
    (above_all weak (y ∷ ys) one ((same one).0 (one_of weak x xs)))

-- one more
pub joined_more : (weak : Bool) (vs : List Verdict) (v : Verdict) → joined weak (vs ++ v ∷ []) ≡ chosen weak (joined weak vs) v
joined_more weak [] v = commutes weak v (of_none weak)
joined_more weak (w ∷ vs) v =
    ap (λ (x : Verdict). chosen weak w x) (joined_more weak vs v) ∙ sym (associates weak w (joined weak vs) v)
