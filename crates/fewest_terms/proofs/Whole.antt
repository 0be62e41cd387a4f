-- No list for both families is shorter than the total.
use Rattle.std.proofs.Common.{ℕ, ◌≡◌, ◌+◌, ◌-◌, ◌*◌, ◌/◌, ◌^◌, ◌<◌, ◌≤◌, false, List, [], ◌∷◌, length, ◌⊎◌, inl, inr, refl, ◌∙◌, ap, subst, arith, le_refl, div-lt_iff_lt-mul, pow_pos}
use Rattle.std.proofs.lemmas.Bool.{cases_Bool}
use Rattle.spf_grammar.specs.declared.verdict.Verdict.{Verdict}
use Rattle.spf_grammar.specs.declared.verdict.Verdict.TheVariants.{Neutral}
use Rattle.addr_bits.specs.declared.address.Family.TheVariants.{V4, V6}
use Rattle.spf_grammar.specs.declared.flat.Net.{Net}
use Rattle.spf_grammar.specs.declared.flat.Net.TheVariants.{V4 as Net4, V6 as Net6, All}
use Rattle.spf_grammar.specs.declared.flat.FlatTerm.{FlatTerm}
use Rattle.spf_grammar.specs.FirstMatch.{Reach, nothing, Rule, is_above, is_within, inherited, spent}
use Rattle.spf_grammar.specs.Lists.{IsSame, seen, reach}
use Rattle.fewest_terms.specs.Needs.{need}
use Rattle.fewest_terms.specs.Totals.{NoListIsShorter, total, need_of_both}
use Rattle.fewest_terms.proofs.VerdictLemmas.{least_with_all-neutral, least_with_all-le}
use Rattle.fewest_terms.proofs.Places.{above_short}
use Rattle.fewest_terms.proofs.LowerBound.{need-le, inherited-past, spent-in, spent-past}

-- what is spent on all addresses of each family, and the verdict of the first `all`
pub record Whole (list : List FlatTerm) : Type 0 where
  pub under : Verdict
  pub four : inherited (seen V4 list) 32 0 ≡ under
  pub six : inherited (seen V6 list) 128 0 ≡ under
  pub counts : ((under ≡ Neutral) × (spent (seen V4 list) 32 0 + spent (seen V6 list) 128 0 ≤ length list)) ⊎ (1 + (spent (seen V4 list) 32 0 + spent (seen V6 list) 128 0) ≤ length list)

spent-most : (t : Rule) (ts : List Rule) (k n : ℕ) → is_above t.reach k n ≡ false → spent (t ∷ ts) k n ≤ 1 + spent ts k n
spent-most t ts k n e = elim (cases_Bool (is_within t.reach k n)) [
  | inl w ↦ omega (arith, spent-in t ts k n e w)
  | inr w ↦ omega (arith, spent-past t ts k n e w)
]

-- one more term that covers no whole family
whole_past : (t : FlatTerm) (ts : List FlatTerm) → is_above (reach V4 t.net) 32 0 ≡ false → is_above (reach V6 t.net) 128 0 ≡ false
    → spent (seen V4 (t ∷ ts)) 32 0 + spent (seen V6 (t ∷ ts)) 128 0 ≤ 1 + (spent (seen V4 ts) 32 0 + spent (seen V6 ts) 128 0) → Whole ts → Whole (t ∷ ts)
whole_past t ts a b e w = record {
  under = w.under;
  four = inherited-past (record { verdict = t.verdict; reach = reach V4 t.net }) (seen V4 ts) 32 0 a ∙ w.four;
  six = inherited-past (record { verdict = t.verdict; reach = reach V6 t.net }) (seen V6 ts) 128 0 b ∙ w.six;
  counts = elim w.counts [ inl h ↦ inl (h.0, omega (arith, h.1)) | inr h ↦ inr (omega arith) ];
}

whole_step : (d : Verdict) (net : Net) (ts : List FlatTerm) → Whole ts → Whole (record { verdict = d; net = net } ∷ ts)
whole_step d All ts w = record { under = d; four = refl; six = refl; counts = inr (omega arith) }
whole_step d (Net4 p) ts w =
    let r : Reach = reach V4 (Net4 p) in
    let four : is_above r 32 0 ≡ false = above_short (32 - p.len) (p.start / 2 ^ (32 - p.len)) 32 0 (omega arith) in
    whole_past (record { verdict = d; net = Net4 p }) ts four refl
    (omega (
      arith,
      spent-most (record { verdict = d; reach = r }) (seen V4 ts) 32 0 four,
      spent-past (record { verdict = d; reach = nothing }) (seen V6 ts) 128 0 refl refl,
    )) w
whole_step d (Net6 p) ts w =
    let r : Reach = reach V6 (Net6 p) in
    let six : is_above r 128 0 ≡ false = above_short (128 - p.len) (p.start / 2 ^ (128 - p.len)) 128 0 (omega arith) in
    whole_past (record { verdict = d; net = Net6 p }) ts refl six
    (omega (
      arith,
      spent-most (record { verdict = d; reach = r }) (seen V6 ts) 128 0 six,
      spent-past (record { verdict = d; reach = nothing }) (seen V4 ts) 32 0 refl refl,
    )) w

pub whole : (list : List FlatTerm) → Whole list
whole [] = record { under = Neutral; four = refl; six = refl; counts = inl (refl, le_refl 0) }
whole (t ∷ ts) = whole_step t.verdict t.net ts (whole ts)

-- an address that lies in the prefix of all is below 2 ^ k
pub below_all : (k a : ℕ) → a / 2 ^ k ≡ 0 → a < 2 ^ k
below_all k a e = let h : a < 1 * 2 ^ k = (div-lt_iff_lt-mul (pow_pos k)).0 (omega arith) in omega arith

needs_spent : (v4 v6 : ℕ → Verdict) (list : List FlatTerm) (w : Whole list) → IsSame v4 v6 list → need_of_both v4 v6 w.under ≤ spent (seen V4 list) 32 0 + spent (seen V6 list) 128 0
unfolding need_of_both
needs_spent v4 v6 list w s =
    let four : need v4 32 0 w.under ≤ spent (seen V4 list) 32 0 = subst (λ d. need v4 32 0 d ≤ spent (seen V4 list) 32 0) w.four (need-le v4 (seen V4 list) 32 0 (λ a h. s.four a (below_all 32 a h))) in
    let six : need v6 128 0 w.under ≤ spent (seen V6 list) 128 0 = subst (λ d. need v6 128 0 d ≤ spent (seen V6 list) 128 0) w.six (need-le v6 (seen V6 list) 128 0 (λ a h. s.six a (below_all 128 a h))) in
    omega arith

pub total-le : NoListIsShorter
unfolding total
total-le v4 v6 list s =
    let w : Whole list = whole list in
    let h : need_of_both v4 v6 w.under ≤ spent (seen V4 list) 32 0 + spent (seen V6 list) 128 0 = needs_spent v4 v6 list w s in
    elim w.counts [
      | inl c ↦ let e : need_of_both v4 v6 w.under ≡ need_of_both v4 v6 Neutral = ap (need_of_both v4 v6) c.0 in omega (arith, least_with_all-neutral (need_of_both v4 v6), c.1)
      | inr c ↦ omega (arith, least_with_all-le (need_of_both v4 v6) w.under)
    ]
