-- Verdicts that agree on the addresses of a prefix give it the same needs, rows and terms.
use Rattle.std.proofs.Common.{◌≡◌, ◌+◌, ◌*◌, ◌/◌, ◌^◌, ℕ, zero, suc, Bool, List, [], ◌∷◌, ◌++◌, map, refl, ap, ap₂, ◌∙◌, arith, nat_le, not, ◌||◌}
use Rattle.std.specs.Prelude.{if◌then◌else◌}
use mathlib.Core.Path.{fun_ext}
use Rattle.addr_bits.specs.Prefix.{Cidr}
use Rattle.addr_bits.specs.Blocks.{lowest, prefix_of}
use Rattle.addr_bits.specs.declared.address.Family.TheVariants.{V4, V6}
use Rattle.spf_grammar.specs.declared.verdict.Verdict.{Verdict}
use Rattle.spf_grammar.specs.declared.verdict.Verdict.TheVariants.{Fail, SoftFail, Pass, Neutral}
use Rattle.spf_grammar.specs.declared.flat.FlatTerm.{FlatTerm}
use Rattle.fewest_terms.specs.Row.{NeedRow}
use Rattle.fewest_terms.specs.Verdicts.{cost, least, is_same}
use Rattle.fewest_terms.specs.Needs.{is_mixed, need, need_of_halves, at_mixed}
use Rattle.fewest_terms.specs.Tables.{need_rows}
use Rattle.fewest_terms.specs.Totals.{need_of_both, total, least_with_all, verdict_of_all}
use Rattle.fewest_terms.specs.Chosen.{best, chosen, chosen_list, one_term, flat, all_term}
use Rattle.fewest_terms.proofs.Places.{lies-half, lies-lowest, drop_none}

-- the verdicts agree at each address of the prefix
pub record Agree (v w : ℕ → Verdict) (k n : ℕ) : Type 0 where
  pub agree : (a : ℕ) → a / 2 ^ k ≡ n → v a ≡ w a

lower : {v w : ℕ → Verdict} (k n : ℕ) → Agree v w (suc k) n → Agree v w k (2 * n)
lower k n h = record { agree = λ a e. h.agree a (lies-half (2 * n) k n a (omega arith) e) }

upper : {v w : ℕ → Verdict} (k n : ℕ) → Agree v w (suc k) n → Agree v w k (2 * n + 1)
upper k n h = record { agree = λ a e. h.agree a (lies-half (2 * n + 1) k n a (omega arith) e) }

at_lowest : {v w : ℕ → Verdict} (k n : ℕ) → Agree v w k n → v (lowest k n) ≡ w (lowest k n)
at_lowest k n h = h.agree (lowest k n) (lies-lowest k n)

-- two numbers for each verdict, added
abbrev plus : (Verdict → ℕ) → (Verdict → ℕ) → Verdict → ℕ
plus a b c = a c + b c

mixed_same : (v w : ℕ → Verdict) (k n : ℕ) → Agree v w k n → is_mixed v k n ≡ is_mixed w k n
unfolding is_mixed
mixed_same v w zero n h = refl
mixed_same v w (suc k) n h =
    ap₂ (λ a b. a || b) (mixed_same v w k (2 * n) (lower k n h))
    (ap₂ (λ a b. a || b) (mixed_same v w k (2 * n + 1) (upper k n h))
    (ap₂ (λ a b. not (is_same a b)) (at_lowest k (2 * n) (lower k n h)) (at_lowest k (2 * n + 1) (upper k n h))))

need_same : (v w : ℕ → Verdict) (k n : ℕ) → Agree v w k n → need v k n ≡ need w k n
unfolding need
need_same v w zero n h = fun_ext (λ c. ap (λ d. cost d c) (h.agree n (drop_none n 0 refl)))
need_same v w (suc k) n h =
    let mixed : is_mixed v (suc k) n ≡ is_mixed w (suc k) n = mixed_same v w (suc k) n h in
    let halves : need_of_halves v k n ≡ need_of_halves w k n = ap₂ plus (need_same v w k (2 * n) (lower k n h)) (need_same v w k (2 * n + 1) (upper k n h)) in
    let first : v (lowest (suc k) n) ≡ w (lowest (suc k) n) = at_lowest (suc k) n h in
    let F : Bool → (Verdict → ℕ) → Verdict → Verdict → ℕ = λ b s d c. if b then at_mixed s c else cost d c in
    ap (λ (b : Bool). F b (need_of_halves v k n) (v (lowest (suc k) n))) mixed
    ∙ ap (λ (s : Verdict → ℕ). F (is_mixed w (suc k) n) s (v (lowest (suc k) n))) halves
    ∙ ap (λ (d : Verdict). F (is_mixed w (suc k) n) (need_of_halves w k n) d) first

pub rows_same : (bits : ℕ) (v w : ℕ → Verdict) (k n : ℕ) → Agree v w k n → need_rows bits v k n ≡ need_rows bits w k n
unfolding need_rows
rows_same bits v w zero n h = refl
rows_same bits v w (suc k) n h =
    let F : Bool → (Verdict → ℕ) → List NeedRow → List NeedRow =
    λ b s below. if b then record { prefix = prefix_of bits (suc k) n; needs = record { fail = s Fail; softfail = s SoftFail; pass = s Pass; neutral = s Neutral } } ∷ below else [] in
    let below : need_rows bits v k (2 * n) ++ need_rows bits v k (2 * n + 1) ≡ need_rows bits w k (2 * n) ++ need_rows bits w k (2 * n + 1) =
    ap₂ (λ (a b : List NeedRow). a ++ b) (rows_same bits v w k (2 * n) (lower k n h)) (rows_same bits v w k (2 * n + 1) (upper k n h)) in
    ap (λ (b : Bool). F b (need v (suc k) n) (need_rows bits v k (2 * n) ++ need_rows bits v k (2 * n + 1))) (mixed_same v w (suc k) n h)
    ∙ ap (λ (s : Verdict → ℕ). F (is_mixed w (suc k) n) s (need_rows bits v k (2 * n) ++ need_rows bits v k (2 * n + 1))) (need_same v w (suc k) n h)
    ∙ ap (λ (rows : List NeedRow). F (is_mixed w (suc k) n) (need w (suc k) n) rows) below

chosen_same : (bits : ℕ) (v w : ℕ → Verdict) (k n : ℕ) → Agree v w k n → chosen bits v k n ≡ chosen bits w k n
unfolding chosen
chosen_same bits v w zero n h = fun_ext (λ c. ap (λ (d : Verdict). one_term bits zero n d c) (h.agree n (drop_none n 0 refl)))
chosen_same bits v w (suc k) n h =
    let mixed : is_mixed v (suc k) n ≡ is_mixed w (suc k) n = mixed_same v w (suc k) n h in
    let halves : need_of_halves v k n ≡ need_of_halves w k n = ap₂ plus (need_same v w k (2 * n) (lower k n h)) (need_same v w k (2 * n + 1) (upper k n h)) in
    let first : v (lowest (suc k) n) ≡ w (lowest (suc k) n) = at_lowest (suc k) n h in
    let low : chosen bits v k (2 * n) ≡ chosen bits w k (2 * n) = chosen_same bits v w k (2 * n) (lower k n h) in
    let high : chosen bits v k (2 * n + 1) ≡ chosen bits w k (2 * n + 1) = chosen_same bits v w k (2 * n + 1) (upper k n h) in
    let F : Bool → (Verdict → ℕ) → (Verdict → List (Cidr × Verdict)) → (Verdict → List (Cidr × Verdict)) → Verdict → Verdict → List (Cidr × Verdict) =
    λ b s lo up d c. if b then (if nat_le (s c) (1 + least s) then lo c ++ up c else lo (best s) ++ (up (best s) ++ (prefix_of bits (suc k) n, best s) ∷ [])) else one_term bits (suc k) n d c in
    ap (λ (b : Bool). F b (need_of_halves v k n) (chosen bits v k (2 * n)) (chosen bits v k (2 * n + 1)) (v (lowest (suc k) n))) mixed
    ∙ ap (λ (s : Verdict → ℕ). F (is_mixed w (suc k) n) s (chosen bits v k (2 * n)) (chosen bits v k (2 * n + 1)) (v (lowest (suc k) n))) halves
    ∙ ap (λ (lo : Verdict → List (Cidr × Verdict)). F (is_mixed w (suc k) n) (need_of_halves w k n) lo (chosen bits v k (2 * n + 1)) (v (lowest (suc k) n))) low
    ∙ ap (λ (up : Verdict → List (Cidr × Verdict)). F (is_mixed w (suc k) n) (need_of_halves w k n) (chosen bits w k (2 * n)) up (v (lowest (suc k) n))) high
    ∙ ap (λ (d : Verdict). F (is_mixed w (suc k) n) (need_of_halves w k n) (chosen bits w k (2 * n)) (chosen bits w k (2 * n + 1)) d) first

both_same : (v4 w4 v6 w6 : ℕ → Verdict) → Agree v4 w4 32 0 → Agree v6 w6 128 0 → need_of_both v4 v6 ≡ need_of_both w4 w6
unfolding need_of_both
both_same v4 w4 v6 w6 four six = ap₂ plus (need_same v4 w4 32 0 four) (need_same v6 w6 128 0 six)

pub total_same : (v4 w4 v6 w6 : ℕ → Verdict) → Agree v4 w4 32 0 → Agree v6 w6 128 0 → total v4 v6 ≡ total w4 w6
unfolding total
total_same v4 w4 v6 w6 four six = ap least_with_all (both_same v4 w4 v6 w6 four six)

pub chosen_list_same : (v4 w4 v6 w6 : ℕ → Verdict) → Agree v4 w4 32 0 → Agree v6 w6 128 0 → chosen_list v4 v6 ≡ chosen_list w4 w6
unfolding chosen_list
chosen_list_same v4 w4 v6 w6 four six =
    let F : (Verdict → ℕ) → (Verdict → List (Cidr × Verdict)) → (Verdict → List (Cidr × Verdict)) → List FlatTerm =
    λ s a b. map (flat V4) (a (verdict_of_all s)) ++ (map (flat V6) (b (verdict_of_all s)) ++ all_term (verdict_of_all s)) in
    ap (λ (s : Verdict → ℕ). F s (chosen 32 v4 32 0) (chosen 128 v6 128 0)) (both_same v4 w4 v6 w6 four six)
    ∙ ap (λ (a : Verdict → List (Cidr × Verdict)). F (need_of_both w4 w6) a (chosen 128 v6 128 0)) (chosen_same 32 v4 w4 32 0 four)
    ∙ ap (λ (b : Verdict → List (Cidr × Verdict)). F (need_of_both w4 w6) (chosen 32 w4 32 0) b) (chosen_same 128 v6 w6 128 0 six)
