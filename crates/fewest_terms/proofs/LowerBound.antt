-- No list spends less than a prefix needs.
use Rattle.std.proofs.Common.{ℕ, zero, suc, ◌≡◌, ◌+◌, ◌*◌, ◌/◌, ◌^◌, ◌≤◌, true, false, List, [], ◌∷◌, ◌⊎◌, inl, inr, refl, sym, ◌∙◌, ap, subst, arith, cond, eq-zero-or-pos, le_refl, div-one}
use Rattle.std.proofs.lemmas.Bool.{cond-true, cond-false, cond_both, cases_Bool, false_from_ne_true, both_ways}
use Rattle.spf_grammar.specs.declared.verdict.Verdict.{Verdict}
use Rattle.spf_grammar.specs.declared.verdict.Verdict.TheVariants.{Neutral}
use Rattle.fewest_terms.specs.Verdicts.{cost}
use Rattle.addr_bits.specs.Blocks.{lowest}
use Rattle.spf_grammar.specs.FirstMatch.{Reach, Rule, first_rule, reaches, is_above, is_within, inherited, spent}
use Rattle.fewest_terms.specs.Needs.{NoListSpendsLess, need, at_mixed, is_mixed}
use Rattle.fewest_terms.proofs.VerdictLemmas.{cost-self, cost-le, least-le}
use Rattle.fewest_terms.proofs.Places.{Place, over_it, at_it, in_low, in_high, elsewhere, place, reaches-place, reaches-above, lies-half, lies-lowest}

-- a term at the head of a list, case by case
inherited-over : (t : Rule) (ts : List Rule) (k n : ℕ) → is_above t.reach k n ≡ true → inherited (t ∷ ts) k n ≡ t.verdict
inherited-over t ts k n e = cond-true (is_above t.reach k n) t.verdict (inherited ts k n) e

pub inherited-past : (t : Rule) (ts : List Rule) (k n : ℕ) → is_above t.reach k n ≡ false → inherited (t ∷ ts) k n ≡ inherited ts k n
inherited-past t ts k n e = cond-false (is_above t.reach k n) t.verdict (inherited ts k n) e

spent-over : (t : Rule) (ts : List Rule) (k n : ℕ) → is_above t.reach k n ≡ true → spent (t ∷ ts) k n ≡ 0
spent-over t ts k n e = cond-true (is_above t.reach k n) 0 (cond (is_within t.reach k n) (1 + spent ts k n) (spent ts k n)) e

pub spent-in : (t : Rule) (ts : List Rule) (k n : ℕ) → is_above t.reach k n ≡ false → is_within t.reach k n ≡ true → spent (t ∷ ts) k n ≡ 1 + spent ts k n
spent-in t ts k n e f =
    cond-false (is_above t.reach k n) 0 (cond (is_within t.reach k n) (1 + spent ts k n) (spent ts k n)) e
    ∙ cond-true (is_within t.reach k n) (1 + spent ts k n) (spent ts k n) f

pub spent-past : (t : Rule) (ts : List Rule) (k n : ℕ) → is_above t.reach k n ≡ false → is_within t.reach k n ≡ false → spent (t ∷ ts) k n ≡ spent ts k n
spent-past t ts k n e f =
    cond-false (is_above t.reach k n) 0 (cond (is_within t.reach k n) (1 + spent ts k n) (spent ts k n)) e
    ∙ cond-false (is_within t.reach k n) (1 + spent ts k n) (spent ts k n) f

-- what is spent on a prefix, beside what is spent on its halves
pub record Split (list : List Rule) (k n : ℕ) : Type 0 where
  pub under : Verdict
  pub low : inherited list k (2 * n) ≡ under
  pub high : inherited list k (2 * n + 1) ≡ under
  pub counts : ((inherited list (suc k) n ≡ under) × (spent list k (2 * n) + spent list k (2 * n + 1) ≤ spent list (suc k) n)) ⊎ (1 + (spent list k (2 * n) + spent list k (2 * n + 1)) ≤ spent list (suc k) n)

-- a term not above the prefix raises what is spent on it and on its halves alike
more : (t : Rule) (ts : List Rule) (k n : ℕ) → is_above t.reach (suc k) n ≡ false
    → (spent (t ∷ ts) k (2 * n) + spent (t ∷ ts) k (2 * n + 1)) + spent ts (suc k) n ≡ (spent ts k (2 * n) + spent ts k (2 * n + 1)) + spent (t ∷ ts) (suc k) n
    → (s : Split ts k n)
    → ((inherited (t ∷ ts) (suc k) n ≡ s.under) × (spent (t ∷ ts) k (2 * n) + spent (t ∷ ts) k (2 * n + 1) ≤ spent (t ∷ ts) (suc k) n)) ⊎ (1 + (spent (t ∷ ts) k (2 * n) + spent (t ∷ ts) k (2 * n + 1)) ≤ spent (t ∷ ts) (suc k) n)
more t ts k n p e s = elim s.counts [
  | inl h ↦ inl (inherited-past t ts (suc k) n p ∙ h.0, omega arith)
  | inr h ↦ inr (omega arith)
]

split_at : (t : Rule) (ts : List Rule) (k n : ℕ) → Place t.reach k n → Split ts k n → Split (t ∷ ts) k n
split_at t ts k n (over_it p l h) s = record {
  under = t.verdict;
  low = inherited-over t ts k (2 * n) l;
  high = inherited-over t ts k (2 * n + 1) h;
  counts = inl (inherited-over t ts (suc k) n p, omega (arith, spent-over t ts k (2 * n) l, spent-over t ts k (2 * n + 1) h));
}
split_at t ts k n (at_it p w l h) s = record {
  under = t.verdict;
  low = inherited-over t ts k (2 * n) l;
  high = inherited-over t ts k (2 * n + 1) h;
  counts = inr (omega (arith, spent-over t ts k (2 * n) l, spent-over t ts k (2 * n + 1) h, spent-in t ts (suc k) n p w));
}
split_at t ts k n (in_low p w l lw h hw) s = record {
  under = s.under;
  low = inherited-past t ts k (2 * n) l ∙ s.low;
  high = inherited-past t ts k (2 * n + 1) h ∙ s.high;
  counts = more t ts k n p (omega (arith, spent-in t ts k (2 * n) l lw, spent-past t ts k (2 * n + 1) h hw, spent-in t ts (suc k) n p w)) s;
}
split_at t ts k n (in_high p w l lw h hw) s = record {
  under = s.under;
  low = inherited-past t ts k (2 * n) l ∙ s.low;
  high = inherited-past t ts k (2 * n + 1) h ∙ s.high;
  counts = more t ts k n p (omega (arith, spent-past t ts k (2 * n) l lw, spent-in t ts k (2 * n + 1) h hw, spent-in t ts (suc k) n p w)) s;
}
split_at t ts k n (elsewhere p w l lw h hw) s = record {
  under = s.under;
  low = inherited-past t ts k (2 * n) l ∙ s.low;
  high = inherited-past t ts k (2 * n + 1) h ∙ s.high;
  counts = more t ts k n p (omega (arith, spent-past t ts k (2 * n) l lw, spent-past t ts k (2 * n + 1) h hw, spent-past t ts (suc k) n p w)) s;
}

pub split : (list : List Rule) (k n : ℕ) → Split list k n
split [] k n = record { under = Neutral; low = refl; high = refl; counts = inl (refl, le_refl 0) }
split (t ∷ ts) k n = split_at t ts k n (place t.reach k n) (split ts k n)

not_covered : (r : Reach) (k n a : ℕ) → a / 2 ^ k ≡ n → is_above r k n ≡ false → is_within r k n ≡ false → reaches r a ≡ false
not_covered r k n a e p w = false_from_ne_true (reaches r a) (λ h. elim (reaches-place r k n a e h) [
  | inl q ↦ both_ways (is_above r k n) p q
  | inr q ↦ both_ways (is_within r k n) w q
])

-- where nothing is spent, each address of the prefix gets the verdict from above
first_rule-inherited : (list : List Rule) (k n a : ℕ) → a / 2 ^ k ≡ n → spent list k n ≡ 0 → first_rule list a ≡ inherited list k n
first_rule-inherited [] k n a e z = refl
first_rule-inherited (t ∷ ts) k n a e z = elim (cases_Bool (is_above t.reach k n)) [
  | inl p ↦ cond-true (reaches t.reach a) t.verdict (first_rule ts a) (reaches-above t.reach k n a e p) ∙ sym (inherited-over t ts k n p)
  | inr p ↦ elim (cases_Bool (is_within t.reach k n)) [
    | inl w ↦ absurd (omega (arith, spent-in t ts k n p w))
    | inr w ↦ cond-false (reaches t.reach a) t.verdict (first_rule ts a) (not_covered t.reach k n a e p w)
        ∙ first_rule-inherited ts k n a e (sym (spent-past t ts k n p w) ∙ z) ∙ sym (inherited-past t ts k n p)
  ]
]

cost-spent : (list : List Rule) (k n a : ℕ) → a / 2 ^ k ≡ n → cost (first_rule list a) (inherited list k n) ≤ spent list k n
cost-spent list k n a e = elim (eq-zero-or-pos (spent list k n)) [
  | inl z ↦ omega (arith, ap (λ d. cost d (inherited list k n)) (first_rule-inherited list k n a e z), cost-self (inherited list k n))
  | inr p ↦ omega (arith, cost-le (first_rule list a) (inherited list k n))
]

-- both halves under one verdict, and the rule
need_mixed : (v : ℕ → Verdict) (list : List Rule) (k n : ℕ) → (s : Split list k n)
    → need v k (2 * n) (inherited list k (2 * n)) ≤ spent list k (2 * n)
    → need v k (2 * n + 1) (inherited list k (2 * n + 1)) ≤ spent list k (2 * n + 1)
    → at_mixed (λ x. need v k (2 * n) x + need v k (2 * n + 1) x) (inherited list (suc k) n) ≤ spent list (suc k) n
need_mixed v list k n s l h =
    let both : Verdict → ℕ = λ x. need v k (2 * n) x + need v k (2 * n + 1) x in
    let low : need v k (2 * n) s.under ≤ spent list k (2 * n) = subst (λ d. need v k (2 * n) d ≤ spent list k (2 * n)) s.low l in
    let high : need v k (2 * n + 1) s.under ≤ spent list k (2 * n + 1) = subst (λ d. need v k (2 * n + 1) d ≤ spent list k (2 * n + 1)) s.high h in
    elim s.counts [
      | inl c ↦ let e : both (inherited list (suc k) n) ≡ both s.under = ap both c.0 in omega arith
      | inr c ↦ omega (arith, least-le both s.under)
    ]

pub need-le : NoListSpendsLess
unfolding need
need-le v list zero n same =
    subst (λ d. cost d (inherited list 0 n) ≤ spent list 0 n) (same n (div-one n)) (cost-spent list 0 n n (div-one n))
need-le v list (suc k) n same =
    cond_both (is_mixed v (suc k) n) (at_mixed (λ x. need v k (2 * n) x + need v k (2 * n + 1) x) (inherited list (suc k) n)) (cost (v (lowest (suc k) n)) (inherited list (suc k) n))
    (λ x. x ≤ spent list (suc k) n)
    (λ _. need_mixed v list k n (split list k n)
    (need-le v list k (2 * n) (λ a h. same a (lies-half (2 * n) k n a (omega arith) h)))
    (need-le v list k (2 * n + 1) (λ a h. same a (lies-half (2 * n + 1) k n a (omega arith) h))))
    (λ _. subst (λ d. cost d (inherited list (suc k) n) ≤ spent list (suc k) n) (same (lowest (suc k) n) (lies-lowest (suc k) n))
    (cost-spent list (suc k) n (lowest (suc k) n) (lies-lowest (suc k) n)))
