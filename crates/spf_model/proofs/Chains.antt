-- Chains of flat records.
use Rattle.std.proofs.Common.{◌≡◌, ℕ, zero, suc, ◌+◌, ◌<◌, ◌≤◌, Bool, true, false, cond, List, [], ◌∷◌, ◌++◌, length, refl, sym, subst, arith, Option, Some, None}
use Rattle.std.specs.Prelude.{nat_le}
use Rattle.std.proofs.Common.{le-leb}
use Rattle.addr_bits.specs.Address.{family_of}
use Rattle.addr_bits.specs.declared.address.Address.{Address}
use Rattle.spf_macros.specs.declared.piece.Piece.{Piece}
use Rattle.spf_grammar.specs.Flat.{covers, first}
use Rattle.spf_grammar.specs.declared.flat.FlatTerm.{FlatTerm}
use Rattle.spf_grammar.specs.declared.flat.Net.{Net}
use Rattle.spf_grammar.specs.declared.flat.Net.TheVariants as net
use Rattle.spf_grammar.specs.declared.verdict.Verdict.{Verdict}
use Rattle.spf_grammar.specs.declared.policy.Term.{Term}
use Rattle.spf_grammar.specs.declared.policy.Term.TheVariants.{Redirect}
use Rattle.spf_model.specs.declared.outcome.Counts.{Counts}
use Rattle.spf_model.specs.declared.outcome.Limits.{Limits}
use Rattle.spf_model.specs.declared.outcome.Cause.TheVariants as cause
use Rattle.spf_model.specs.declared.outcome.Outcome.TheVariants.{Is, Perm}
use Rattle.spf_model.specs.Run.{Run, Ends, Answering, EndsWith, then_do}
use Rattle.spf_model.specs.Judging.{Labels, Site, Sub, at, name_of, judge, go_if, judged_by, with_name, with_target, with_text, with_verdict}
use Rattle.spf_model.specs.Check.{check, default, evaluated, redirect_from, term_after, tried, unless_matched, with_answer, with_texts}
use Rattle.spf_model.specs.Chains.{all_terms, directives_of, mechanism_of, redirect_terms, IsChain, LeadsOn, StandsAt, GivesFlat}
use Rattle.spf_model.specs.Laws.{ChainsGiveFirst}
use Rattle.spf_model.proofs.RunLaws.{ends_after}

-- the run comes to this verdict, with fewer lookups than that and so many voids
abbrev pub Comes : Answering → Run → Verdict → (most voids : ℕ) → Type 0
Comes zones run verdict most voids = (after : Counts) × EndsWith zones run (Is verdict) after × (after.lookups < most) × (after.voids ≡ voids)

-- a network goes on with whether it covers the address
pub judge_flat : (site : Site) (a : Address) (sub : Sub) (t : ℕ) (n : Net) (counts : Counts) (go : Bool → Counts → Run)
    → judge site a sub t (mechanism_of n) counts go ≡ go (covers n a) counts
judge_flat site a sub t (net.V4 p) counts go = refl
judge_flat site a sub t (net.V6 p) counts go = refl
judge_flat site a sub t net.All counts go = refl

-- flat terms give the first verdict, or what the terms behind them come to
flat_comes : (zones : Answering) (site : Site) (a : Address) (sub : Sub) (t : ℕ) (terms : List FlatTerm) (behind : List Term) (tail : List FlatTerm) (counts : Counts)
    (last : Counts → Run) (most : ℕ) → counts.lookups < most
    → ((u : ℕ) → Comes zones (tried (judge site a sub) u behind counts last) (first tail a) most counts.voids)
    → Comes zones (tried (judge site a sub) t (directives_of terms behind) counts last) (first (terms ++ tail) a) most counts.voids
flat_comes zones site a sub t [] behind tail counts last most below rest = rest t
flat_comes zones site a sub t (term ∷ terms) behind tail counts last most below rest =
    subst (λ run. Comes zones run (first (term ∷ (terms ++ tail)) a) most counts.voids)
    (sym (judge_flat site a sub t term.net counts (unless_matched term.verdict next)))
    (by_test (flat_comes zones site a sub (term_after t) terms behind tail counts last most below rest) (covers term.net a))
  where
    next : Counts → Run
    next counts = tried (judge site a sub) (term_after t) (directives_of terms behind) counts last

    by_test : Comes zones (next counts) (first (terms ++ tail) a) most counts.voids
        → (b : Bool) → Comes zones (unless_matched term.verdict next b counts) (cond b term.verdict (first (terms ++ tail) a)) most counts.voids
    by_test later true = (counts, (refl, refl), below, refl)
    by_test later false = later

-- the redirect of a flat record
redirect_found : (t : ℕ) (terms : List FlatTerm) (spec : List Piece) → (n : ℕ) × (redirect_from t (directives_of terms (Redirect spec ∷ [])) ≡ Some (n, spec))
redirect_found t [] spec = (t, refl)
redirect_found t (term ∷ terms) spec = redirect_found (term_after t) terms spec

pub redirect_none : (t : ℕ) (terms : List FlatTerm) → redirect_from t (directives_of terms []) ≡ None
redirect_none t [] = refl
redirect_none t (term ∷ terms) = redirect_none (term_after t) terms

-- a record at a name gives what its terms come to
record_comes : (zones : Answering) (limits : Limits) (a : Address) (depth : ℕ) (domain : List ℕ) (name : Labels) (terms : List FlatTerm)
    (redirect : Option (List Piece)) (counts : Counts) (verdict : Verdict) (most voids : ℕ) → StandsAt zones name terms redirect
    → Comes zones (evaluated (record { limits = limits; family = family_of a; domain = domain; name = name }) a (check limits a depth) (directives_of terms (redirect_terms redirect)) counts) verdict most voids
    → Comes zones (check limits a (suc depth) domain name counts) verdict most voids
record_comes zones limits a depth domain [] terms redirect counts verdict most voids stands comes = absurd stands
record_comes zones limits a depth domain (label ∷ []) terms redirect counts verdict most voids stands comes = absurd stands
record_comes zones limits a depth domain (label ∷ other ∷ labels) terms redirect counts verdict most voids stands comes =
    subst (λ found. Comes zones (with_answer name counts found go) verdict most voids) (sym stands.is_found)
    (subst (λ texts. Comes zones (with_texts name counts texts go) verdict most voids) (sym stands.alone)
    (reads (subst (λ ts. Comes zones (go ts) verdict most voids) (sym stands.is_flat) comes)))
  where
    name : Labels
    name = label ∷ other ∷ labels

    go : List Term → Run
    go ts = evaluated (record { limits = limits; family = family_of a; domain = domain; name = name }) a (check limits a depth) ts counts

    reads : Comes zones (go stands.policy.terms) verdict most voids → Comes zones (with_texts name counts (stands.text ∷ []) go) verdict most voids
    reads h = (h.0, (Some stands.policy, stands.spells, h.1), h.2, h.3)

-- a count within the limit goes on
counts_on : (zones : Answering) (site : Site) (t : ℕ) (more : Counts) (go : Counts → Run) (verdict : Verdict) (most voids : ℕ) (test : Bool) → test ≡ true
    → Comes zones (go more) verdict most voids → Comes zones (go_if test (Perm cause.Lookups (at site t)) more go) verdict most voids
counts_on zones site t more go verdict most voids test within h =
    subst (λ b. Comes zones (go_if b (Perm cause.Lookups (at site t)) more go) verdict most voids) (sym within) h

-- a redirect comes to what the chain behind it comes to
leads_comes : (zones : Answering) (site : Site) (sub : Sub) (t : ℕ) (spec : List Piece) (text : List ℕ) (there : Labels) (counts : Counts)
    (verdict : Verdict) (most voids : ℕ) → LeadsOn site.domain spec text there → nat_le (counts.lookups + 1) site.limits.lookups ≡ true
    → Comes zones (sub text there (record counts { lookups = counts.lookups + 1 })) verdict most voids
    → Comes zones (with_verdict site sub t spec counts (λ found after. Ends (Is found) after)) verdict most voids
leads_comes zones site sub t spec text there counts verdict most voids leads within h =
    counts_on zones site t more onward verdict most voids (nat_le (counts.lookups + 1) site.limits.lookups) within
    (subst (λ out. Comes zones (with_text site t more out named) verdict most voids) (sym (leads.reached site.family))
    (subst (λ found. Comes zones (with_name (Perm cause.Missing (at site t)) more found below) verdict most voids) (sym leads.named)
    (h.0, ends_after zones (sub text there more) (judged_by site t (λ found after. Ends (Is found) after)) (Is verdict) h.0 (Is verdict) h.0 h.1 (refl, refl), h.2, h.3)))
  where
    more : Counts
    more = record counts { lookups = counts.lookups + 1 }

    below : Labels → Run
    below name = then_do (sub text name more) (judged_by site t (λ found after. Ends (Is found) after))

    named : List ℕ → Run
    named x = with_name (Perm cause.Missing (at site t)) more (name_of x) (λ name. then_do (sub x name more) (judged_by site t (λ found after. Ends (Is found) after)))

    onward : Counts → Run
    onward counts = with_target site t counts (Some spec) (λ x. with_name (Perm cause.Missing (at site t)) counts (name_of x)
        (λ name. then_do (sub x name counts) (judged_by site t (λ found after. Ends (Is found) after))))

-- a chain gives the verdict of the first of all its terms
chain_comes : (zones : Answering) (limits : Limits) (a : Address) (depth : ℕ) (domain : List ℕ) (name : Labels) (lists : List (List FlatTerm)) (counts : Counts)
    → IsChain zones domain name lists → length lists ≤ depth → counts.lookups + length lists ≤ suc limits.lookups
    → Comes zones (check limits a depth domain name counts) (first (all_terms lists) a) (counts.lookups + length lists) counts.voids
chain_comes zones limits a depth domain name [] counts chain deep few = absurd chain
chain_comes zones limits a zero domain name (terms ∷ lists) counts chain deep few = absurd (omega (arith, deep))
chain_comes zones limits a (suc depth) domain name (terms ∷ []) counts chain deep few =
    record_comes zones limits a depth domain name terms None counts (first (terms ++ []) a) (counts.lookups + 1) counts.voids chain
    (flat_comes zones site a sub 1 terms [] [] counts last (counts.lookups + 1) (omega arith)
    (λ u. subst (λ redirect. Comes zones (default site sub counts redirect) (first [] a) (counts.lookups + 1) counts.voids) (sym (redirect_none 1 terms))
    (counts, (refl, refl), omega arith, refl)))
  where
    site : Site
    site = record { limits = limits; family = family_of a; domain = domain; name = name }

    sub : Sub
    sub = check limits a depth

    last : Counts → Run
    last counts = default site sub counts (redirect_from 1 (directives_of terms []))
chain_comes zones limits a (suc depth) domain name (terms ∷ next ∷ lists) counts chain deep few =
    record_comes zones limits a depth domain name terms (Some spec) counts (first (terms ++ all_terms (next ∷ lists)) a) most counts.voids chain.3
    (flat_comes zones site a sub 1 terms (Redirect spec ∷ []) (all_terms (next ∷ lists)) counts last most (omega arith)
    (λ u. subst (λ redirect. Comes zones (default site sub counts redirect) (first (all_terms (next ∷ lists)) a) most counts.voids) (sym found.1)
    (leads_comes zones site sub found.0 spec chain.1 chain.2 counts (first (all_terms (next ∷ lists)) a) most counts.voids chain.4 (le-leb (counts.lookups + 1) limits.lookups (omega (arith, few)))
    (onward (chain_comes zones limits a depth chain.1 chain.2 (next ∷ lists) (record counts { lookups = counts.lookups + 1 }) chain.5 (omega (arith, deep)) (omega (arith, few)))))))
  where
    site : Site
    site = record { limits = limits; family = family_of a; domain = domain; name = name }

    sub : Sub
    sub = check limits a depth

    spec : List Piece
    spec = chain.0

    most : ℕ
    most = counts.lookups + length (terms ∷ next ∷ lists)

    found : (n : ℕ) × (redirect_from 1 (directives_of terms (Redirect spec ∷ [])) ≡ Some (n, spec))
    found = redirect_found 1 terms spec

    last : Counts → Run
    last counts = default site sub counts (redirect_from 1 (directives_of terms (Redirect spec ∷ [])))

    onward : Comes zones (sub chain.1 chain.2 (record counts { lookups = counts.lookups + 1 })) (first (all_terms (next ∷ lists)) a) ((counts.lookups + 1) + length (next ∷ lists)) counts.voids
        → Comes zones (sub chain.1 chain.2 (record counts { lookups = counts.lookups + 1 })) (first (all_terms (next ∷ lists)) a) most counts.voids
    onward h = (h.0, h.1, omega (arith, h.2), h.3)

pub chains_give_first : ChainsGiveFirst
unfolding Rattle.spf_model.specs.Check.check_host
chains_give_first zones limits a domain name lists chain few =
    given (chain_comes zones limits a (suc limits.lookups) domain name lists (record { lookups = 0; voids = 0 }) chain few (omega (arith, few)))
  where
    given : Comes zones (check limits a (suc limits.lookups) domain name (record { lookups = 0; voids = 0 })) (first (all_terms lists) a) (0 + length lists) 0
        → GivesFlat zones limits a domain name lists
    given h = record { counts = h.0; ends = h.1; lookups = omega (arith, h.2); voids = h.3 }
