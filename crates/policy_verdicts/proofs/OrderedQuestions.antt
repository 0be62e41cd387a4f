-- One list has the questions that are asked.
use Rattle.std.proofs.Common.{◌≡◌, inl, inr, ℕ, List, [], ◌∷◌, sym, ap, subst, ◌∙◌, arith}
use Rattle.std.specs.Ordering.{is_le}
use Rattle.std.specs.declared.cmp.Ordering.TheVariants.{Less, Equal}
use Rattle.std.specs.BTreeMap.Comparable.{le_lt_trans}
use Rattle.std.proofs.lemmas.Cmp.{nat_list_cmp_total, tied_itself}
use Rattle.dns_name.specs.Printed.{name_cmp, printed_name}
use Rattle.zone_answers.specs.declared.answer.Question.{Question}
use Rattle.spf_model.specs.Result.{IsBefore, IsInOrder}
use Rattle.policy_verdicts.specs.Laws.{OneListAsked}
use Rattle.policy_verdicts.proofs.OrderedLists.{InOrder, IsStrict, one_list}

less_trans : (a b c : List (List ℕ)) → name_cmp a b ≡ Less → name_cmp b c ≡ Less → name_cmp a c ≡ Less
less_trans a b c x y = le_lt_trans nat_list_cmp_total (printed_name a) (printed_name b) (printed_name c) (ap is_le x) y

not_itself : (p : Question) → IsBefore p p → ⊥
not_itself p (inl less) =
    let tied : name_cmp p.name p.name ≡ Equal = tied_itself nat_list_cmp_total (printed_name p.name) in
    absurd cc
not_itself p (inr (same, less)) = omega (arith, less)

before_along : (p q r : Question) → IsBefore p q → IsBefore q r → IsBefore p r
before_along p q r (inl x) (inl y) = inl (less_trans p.name q.name r.name x y)
before_along p q r (inl x) (inr (same, y)) = inl (subst (λ (n : List (List ℕ)). name_cmp p.name n ≡ Less) same x)
before_along p q r (inr (same, x)) (inl y) = inl (subst (λ (n : List (List ℕ)). name_cmp n r.name ≡ Less) (sym same) y)
before_along p q r (inr (same, x)) (inr (same', y)) = inr (same ∙ same', omega (arith, x, y))

before_strict : IsStrict IsBefore
before_strict = record { never = not_itself; along = before_along }

ordered : (questions : List Question) → IsInOrder questions → InOrder IsBefore questions
ordered [] h = tt
ordered (p ∷ []) h = tt
ordered (p ∷ q ∷ questions) h = (h.0, ordered (q ∷ questions) h.1)

pub one_list_asked : OneListAsked
one_list_asked zones limits domain ps qs x y =
    one_list IsBefore before_strict ps qs (ordered ps x.in_order) (ordered qs y.in_order)
    (λ q. (λ h. (y.same q).1 ((x.same q).0 h), λ h. (x.same q).1 ((y.same q).0 h)))
