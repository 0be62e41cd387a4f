-- The prefixes of the chosen list are prefixes of addresses.
use Rattle.std.proofs.Common.{ℕ, zero, suc, ◌≡◌, ◌+◌, ◌*◌, ◌^◌, ◌≤◌, Bool, true, false, cond, List, [], ◌∷◌, ◌++◌, map, refl, sym, subst, arith}
use Rattle.addr_bits.specs.Address.{bits_of}
use Rattle.addr_bits.specs.Prefix.{Cidr, IsCidr}
use Rattle.addr_bits.specs.Blocks.{lowest, prefix_of}
use Rattle.addr_bits.specs.declared.address.Family.{Family}
use Rattle.addr_bits.specs.declared.address.Family.TheVariants.{V4, V6}
use Rattle.spf_grammar.specs.declared.verdict.Verdict.{Verdict}
use Rattle.spf_grammar.specs.declared.verdict.Verdict.TheVariants.{Fail, SoftFail, Pass, Neutral}
use Rattle.spf_grammar.specs.declared.flat.FlatTerm.{FlatTerm}
use Rattle.spf_grammar.specs.Families.{HavePrefixes}
use Rattle.fewest_terms.specs.Verdicts.{is_same}
use Rattle.fewest_terms.specs.Needs.{need_of_halves}
use Rattle.fewest_terms.specs.Totals.{need_of_both, verdict_of_all}
use Rattle.fewest_terms.specs.Chosen.{one_term, best, chosen, flat, all_term, chosen_list}
use Rattle.fewest_terms.proofs.ChosenLemmas.{OwnChoice, own_plain, own_kept, own_fresh, own_choice, chosen-zero}
use Rattle.fewest_terms.proofs.TrieLeaves.{lowest-next, lowest-both, prefix_of-IsCidr}

-- each term's prefix is one of addresses of this many bits
abbrev AreCidrs : (w : ℕ) → List (Cidr × Verdict) → Type 0
AreCidrs w [] = Unit {0}
AreCidrs w (t ∷ ts) = IsCidr w t.0 × AreCidrs w ts

AreCidrs-append : (w : ℕ) (xs ys : List (Cidr × Verdict)) → AreCidrs w xs → AreCidrs w ys → AreCidrs w (xs ++ ys)
AreCidrs-append w [] ys a b = b
AreCidrs-append w (x ∷ xs) ys a b = (a.0, AreCidrs-append w xs ys a.1 b)

AreCidrs-one_term : (w k n : ℕ) (d c : Verdict) → k ≤ w → lowest k (n + 1) ≤ 2 ^ w → AreCidrs w (one_term w k n d c)
AreCidrs-one_term w k n d c h l = go (is_same d c)
  where
    go : (b : Bool) → AreCidrs w (cond b [] ((prefix_of w k n, d) ∷ []))
    go true = tt
    go false = (prefix_of-IsCidr w k n h l, tt)

by_choice : (w : ℕ) (v : ℕ → Verdict) (k n : ℕ) (c : Verdict) → suc k ≤ w → lowest (suc k) (n + 1) ≤ 2 ^ w
    → ((d : Verdict) → AreCidrs w (chosen w v k (2 * n) d)) → ((d : Verdict) → AreCidrs w (chosen w v k (2 * n + 1) d)) → OwnChoice w v k n c → AreCidrs w (chosen w v (suc k) n c)
by_choice w v k n c h l low high (own_plain m e) = subst (AreCidrs w) (sym e) (AreCidrs-one_term w (suc k) n (v (lowest (suc k) n)) c h l)
by_choice w v k n c h l low high (own_kept m le e) = subst (AreCidrs w) (sym e) (AreCidrs-append w (chosen w v k (2 * n) c) (chosen w v k (2 * n + 1) c) (low c) (high c))
by_choice w v k n c h l low high (own_fresh m lt e) =
    let d : Verdict = best (need_of_halves v k n) in
    let own : List (Cidr × Verdict) = (prefix_of w (suc k) n, d) ∷ [] in
    subst (AreCidrs w) (sym e) (AreCidrs-append w (chosen w v k (2 * n) d) (chosen w v k (2 * n + 1) d ++ own) (low d) (AreCidrs-append w (chosen w v k (2 * n + 1) d) own (high d) (prefix_of-IsCidr w (suc k) n h l, tt)))

AreCidrs-chosen : (w : ℕ) (v : ℕ → Verdict) (k n : ℕ) (c : Verdict) → k ≤ w → lowest k (n + 1) ≤ 2 ^ w → AreCidrs w (chosen w v k n c)
AreCidrs-chosen w v zero n c h l = subst (AreCidrs w) (sym (chosen-zero w v n c)) (AreCidrs-one_term w zero n (v n) c h l)
AreCidrs-chosen w v (suc k) n c h l =
    by_choice w v k n c h l (λ d. AreCidrs-chosen w v k (2 * n) d (omega arith) (omega (arith, lowest-both k n, lowest-next k (2 * n + 1))))
    (λ d. AreCidrs-chosen w v k (2 * n + 1) d (omega arith) (omega (arith, lowest-both k n))) (own_choice w v k n c)

HavePrefixes-flat : (f : Family) (ts : List (Cidr × Verdict)) → AreCidrs (bits_of f) ts → HavePrefixes (map (flat f) ts)
HavePrefixes-flat V4 [] h = tt
HavePrefixes-flat V4 (t ∷ ts) h = (h.0, HavePrefixes-flat V4 ts h.1)
HavePrefixes-flat V6 [] h = tt
HavePrefixes-flat V6 (t ∷ ts) h = (h.0, HavePrefixes-flat V6 ts h.1)

HavePrefixes-append : (xs ys : List FlatTerm) → HavePrefixes xs → HavePrefixes ys → HavePrefixes (xs ++ ys)
HavePrefixes-append [] ys a b = b
HavePrefixes-append (x ∷ xs) ys a b = (a.0, HavePrefixes-append xs ys a.1 b)

HavePrefixes-all_term : (c : Verdict) → HavePrefixes (all_term c)
HavePrefixes-all_term Fail = (tt, tt)
HavePrefixes-all_term SoftFail = (tt, tt)
HavePrefixes-all_term Pass = (tt, tt)
HavePrefixes-all_term Neutral = tt

-- all addresses of a family
HavePrefixes-family : (f : Family) (w : ℕ) (v : ℕ → Verdict) (c : Verdict) → w ≡ bits_of f → HavePrefixes (map (flat f) (chosen w v w 0 c))
HavePrefixes-family f w v c e =
    HavePrefixes-flat f (chosen w v w 0 c) (subst (λ b. AreCidrs b (chosen w v w 0 c)) e (AreCidrs-chosen w v w 0 c (omega arith) (omega (arith, one w))))
  where
    one : (w : ℕ) → lowest w (0 + 1) ≡ 2 ^ w
    one w = grind arith

pub HavePrefixes-chosen_list : (v4 v6 : ℕ → Verdict) → HavePrefixes (chosen_list v4 v6)
unfolding chosen_list
HavePrefixes-chosen_list v4 v6 =
    let c : Verdict = verdict_of_all (need_of_both v4 v6) in
    let four : List FlatTerm = map (flat V4) (chosen 32 v4 32 0 c) in
    let six : List FlatTerm = map (flat V6) (chosen 128 v6 128 0 c) in
    HavePrefixes-append four (six ++ all_term c) (HavePrefixes-family V4 32 v4 c refl) (HavePrefixes-append six (all_term c) (HavePrefixes-family V6 128 v6 c refl) (HavePrefixes-all_term c))
