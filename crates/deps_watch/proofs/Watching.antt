-- Lines agree with zones, or one of them is the first that differs.
use Rattle.std.proofs.Common.{◌≡◌, ◌≢◌, ℕ, suc, ◌+◌, Bool, true, false, List, [], ◌∷◌, ◌++◌, length, sym, ap, ◌∙◌, subst}
use Rattle.std.specs.List.{AllByRecursion}
use Rattle.dns_name.proofs.Octets.{all_back}
use Rattle.zone_answers.specs.Zone.{Zone}
use Rattle.deps_watch.specs.declared.kept.KeptLine.{KeptLine}
use Rattle.deps_watch.specs.Lists.{Agrees}
use Rattle.deps_watch.proofs.Tell.{one_text}
use Rattle.deps_watch.specs.declared.fresh.Freshness.{Freshness}
use Rattle.deps_watch.specs.declared.fresh.Freshness.TheVariants.{Fresh, Stale}
use Rattle.deps_watch.specs.Freshness.{Differs, IsFirstStale, IsFreshness}

-- no line does both
not_both : (zones : List Zone) (line : KeptLine) → Agrees zones line → Differs zones line → ⊥
not_both zones line agrees d = d.other (one_text zones line.question d.text line.answer d.is agrees)

pub fresh_or_stale : (zones : List Zone) (lines : List KeptLine) (place : ℕ) → AllByRecursion (Agrees zones) lines → IsFirstStale zones lines place → ⊥
fresh_or_stale zones lines place all x =
    let rest = all_back (Agrees zones) x.front (x.line ∷ x.back) (subst (AllByRecursion (Agrees zones)) x.whole all) in
    not_both zones x.line rest.0 x.differs

-- two lists that begin with lines that agree, and go on with one that differs
same_place : (zones : List Zone) (front other : List KeptLine) (line next : KeptLine) (back behind : List KeptLine) → AllByRecursion (Agrees zones) front → AllByRecursion (Agrees zones) other → Differs zones line → Differs zones next
    → front ++ line ∷ back ≡ other ++ next ∷ behind → (length front ≡ length other) × (line ≡ next)
same_place zones [] [] line next back behind h k d e is = let first : line ≡ next = cc in (λ i. 0, first)
same_place zones [] (o ∷ other) line next back behind h k d e is = let first : line ≡ o = cc in absurd (not_both zones o k.0 (subst (Differs zones) first d))
same_place zones (f ∷ front) [] line next back behind h k d e is = let first : f ≡ next = cc in absurd (not_both zones next (subst (Agrees zones) first h.0) e)
same_place zones (f ∷ front) (o ∷ other) line next back behind h k d e is =
    let rest : front ++ line ∷ back ≡ other ++ next ∷ behind = cc in
    let same = same_place zones front other line next back behind h.1 k.1 d e rest in (ap (λ (n : ℕ). suc n) same.0, same.1)

pub first_stale : (zones : List Zone) (lines : List KeptLine) (a b : ℕ) (x : IsFirstStale zones lines a) (y : IsFirstStale zones lines b) → (a ≡ b) × (x.line ≡ y.line)
first_stale zones lines a b x y =
    let same = same_place zones x.front y.front x.line y.line x.back y.back x.agree y.agree x.differs y.differs (sym x.whole ∙ y.whole) in
    (x.at ∙ ap (λ (n : ℕ). n + 2) same.0 ∙ sym y.at, same.1)

pub one_freshness : (zones : List Zone) (lines : List KeptLine) (a b : Freshness) → IsFreshness zones lines a → IsFreshness zones lines b → a ≡ b
one_freshness zones lines Fresh Fresh x y = λ i. Fresh
one_freshness zones lines Fresh (Stale b) x y = absurd (fresh_or_stale zones lines b x y)
one_freshness zones lines (Stale a) Fresh x y = absurd (fresh_or_stale zones lines a y x)
one_freshness zones lines (Stale a) (Stale b) x y = ap (λ (n : ℕ). Stale n) (first_stale zones lines a b x y).0
