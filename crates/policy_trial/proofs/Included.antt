-- A record that includes records of flat terms gives a verdict.
use Rattle.std.proofs.Common.{◌≡◌, ℕ, suc, ◌+◌, ◌≤◌, Bool, true, false, cond, List, [], ◌∷◌, length, refl, sym, subst, arith, Some, None}
use Rattle.std.specs.Prelude.{nat_le}
use Rattle.std.proofs.Common.{le-leb}
use Rattle.addr_bits.specs.Address.{family_of}
use Rattle.addr_bits.specs.declared.address.Address.{Address}
use Rattle.spf_macros.specs.declared.piece.Piece.{Piece}
use Rattle.spf_grammar.specs.Flat.{covers, first}
use Rattle.spf_grammar.specs.Grammar.{SpellsPolicy}
use Rattle.spf_grammar.specs.declared.flat.FlatTerm.{FlatTerm}
use Rattle.spf_grammar.specs.declared.policy.Mechanism.TheVariants.{Include}
use Rattle.spf_grammar.specs.declared.policy.Term.{Term}
use Rattle.spf_grammar.specs.declared.policy.Term.TheVariants.{Directive}
use Rattle.spf_grammar.specs.declared.verdict.Verdict.{Verdict}
use Rattle.spf_grammar.specs.declared.verdict.Verdict.TheVariants.{Pass, Neutral}
use Rattle.spf_model.specs.declared.outcome.Cause.TheVariants as cause
use Rattle.spf_model.specs.declared.outcome.Counts.{Counts}
use Rattle.spf_model.specs.declared.outcome.Limits.{Limits}
use Rattle.spf_model.specs.declared.outcome.Outcome.{Outcome}
use Rattle.spf_model.specs.declared.outcome.Outcome.TheVariants.{Is, Perm}
use Rattle.spf_model.specs.Run.{Run, Answering, EndsWith, then_do}
use Rattle.spf_model.specs.Judging.{Labels, Site, Sub, at, name_of, judge, go_if, is_pass, judged_by, with_name, with_target, with_text, with_verdict}
use Rattle.spf_model.specs.Check.{check, default, evaluated, redirect_from, term_after, tried, unless_matched, with_answer, with_texts}
use Rattle.spf_model.specs.Chains.{LeadsOn, directives_of}
use Rattle.spf_model.proofs.Chains.{judge_flat, redirect_none}
use Rattle.spf_model.proofs.RunLaws.{ends_after}
use Rattle.published_records.specs.Chain.{Holds}
use Rattle.policy_trial.specs.Verdicts.{first_included}

-- ---- a record that stands at a name

-- what the terms come to, the record comes to
pub record_ends : (zones : Answering) (limits : Limits) (a : Address) (depth : ℕ) (domain : List ℕ) (label next : List ℕ) (labels : Labels) (text : List ℕ) (terms : List Term) (counts after : Counts) (outcome : Outcome)
    → Holds zones (label ∷ next ∷ labels) text → SpellsPolicy text (record { terms = terms })
    → EndsWith zones (evaluated (record { limits = limits; family = family_of a; domain = domain; name = label ∷ next ∷ labels }) a (check limits a depth) terms counts) outcome after
    → EndsWith zones (check limits a (suc depth) domain (label ∷ next ∷ labels) counts) outcome after
record_ends zones limits a depth domain label next labels text terms counts after outcome holds spells ends =
    subst (λ found. EndsWith zones (with_answer name counts found go) outcome after) (sym holds.is_found)
    (subst (λ texts. EndsWith zones (with_texts name counts texts go) outcome after) (sym holds.alone)
    (Some (record { terms = terms }), spells, ends))
  where
    name : Labels
    name = label ∷ next ∷ labels

    go : List Term → Run
    go ts = evaluated (record { limits = limits; family = family_of a; domain = domain; name = name }) a (check limits a depth) ts counts

-- ---- flat terms

-- they give the first verdict, and neutral where none of them has the address
flat_ends : (zones : Answering) (site : Site) (a : Address) (sub : Sub) (t : ℕ) (terms : List FlatTerm) (counts : Counts) (last : Counts → Run)
    → EndsWith zones (last counts) (Is Neutral) counts → EndsWith zones (tried (judge site a sub) t (directives_of terms []) counts last) (Is (first terms a)) counts
flat_ends zones site a sub t [] counts last ends = ends
flat_ends zones site a sub t (term ∷ terms) counts last ends =
    subst (λ run. EndsWith zones run (Is (first (term ∷ terms) a)) counts) (sym (judge_flat site a sub t term.net counts (unless_matched term.verdict next)))
    (by_test (flat_ends zones site a sub (term_after t) terms counts last ends) (covers term.net a))
  where
    next : Counts → Run
    next more = tried (judge site a sub) (term_after t) (directives_of terms []) more last

    by_test : EndsWith zones (next counts) (Is (first terms a)) counts
        → (b : Bool) → EndsWith zones (unless_matched term.verdict next b counts) (Is (cond b term.verdict (first terms a))) counts
    by_test later true = (refl, refl)
    by_test later false = later

-- a record of flat terms gives the verdict of the first that has the address, and counts nothing
flat_record_ends : (zones : Answering) (limits : Limits) (a : Address) (depth : ℕ) (domain : List ℕ) (label next : List ℕ) (labels : Labels) (text : List ℕ) (terms : List FlatTerm) (counts : Counts)
    → Holds zones (label ∷ next ∷ labels) text → SpellsPolicy text (record { terms = directives_of terms [] })
    → EndsWith zones (check limits a (suc depth) domain (label ∷ next ∷ labels) counts) (Is (first terms a)) counts
flat_record_ends zones limits a depth domain label next labels text terms counts holds spells =
    record_ends zones limits a depth domain label next labels text (directives_of terms []) counts counts (Is (first terms a)) holds spells
    (flat_ends zones site a (check limits a depth) 1 terms counts (λ more. default site (check limits a depth) more (redirect_from 1 (directives_of terms [])))
    (subst (λ redirect. EndsWith zones (default site (check limits a depth) counts redirect) (Is Neutral) counts) (sym (redirect_none 1 terms)) (refl, refl)))
  where
    site : Site
    site = record { limits = limits; family = family_of a; domain = domain; name = label ∷ next ∷ labels }

-- ---- includes

-- includes, which pass, and then other terms
abbrev pub includes_of : List (List Piece) → (behind : List Term) → List Term
includes_of [] behind = behind
includes_of (spec ∷ specs) behind = Directive Pass (Include spec) ∷ includes_of specs behind

-- where an include of a record at a domain leads, and the flat terms of the record that stands there
pub record IsIncluded (zones : Answering) (domain : List ℕ) (spec : List Piece) (terms : List FlatTerm) : Type 0 where
  pub there : List ℕ
  pub label : List ℕ
  pub next : List ℕ
  pub labels : Labels
  pub text : List ℕ
  pub leads : LeadsOn domain spec there (label ∷ next ∷ labels)
  pub holds : Holds zones (label ∷ next ∷ labels) text
  pub spells : SpellsPolicy text (record { terms = directives_of terms [] })

-- so it is for each of them
abbrev pub AreIncluded : Answering → (domain : List ℕ) → List (List Piece) → List (List FlatTerm) → Type 0
AreIncluded zones domain [] [] = Unit {0}
AreIncluded zones domain [] (terms ∷ lists) = ⊥
AreIncluded zones domain (spec ∷ specs) [] = ⊥
AreIncluded zones domain (spec ∷ specs) (terms ∷ lists) = IsIncluded zones domain spec terms × AreIncluded zones domain specs lists

abbrev one_more : Counts → Counts
one_more counts = record counts { lookups = counts.lookups + 1 }

-- what a term that asks for a record comes to, by the verdict of this record
lookup_ends : (zones : Answering) (site : Site) (sub : Sub) (t : ℕ) (spec : List Piece) (there : List ℕ) (name : Labels) (counts after : Counts) (verdict : Verdict) (outcome : Outcome) (go : Verdict → Counts → Run)
    → LeadsOn site.domain spec there name → nat_le (counts.lookups + 1) site.limits.lookups ≡ true
    → EndsWith zones (sub there name (one_more counts)) (Is verdict) (one_more counts)
    → EndsWith zones (go verdict (one_more counts)) outcome after → EndsWith zones (with_verdict site sub t spec counts go) outcome after
lookup_ends zones site sub t spec there name counts after verdict outcome go leads within below ends =
    subst (λ b. EndsWith zones (go_if b (Perm cause.Lookups (at site t)) more onward) outcome after) (sym within)
    (subst (λ out. EndsWith zones (with_text site t more out named) outcome after) (sym (leads.reached site.family))
    (subst (λ found. EndsWith zones (with_name (Perm cause.Missing (at site t)) more found (reached there)) outcome after) (sym leads.named)
    (ends_after zones (sub there name more) (judged_by site t go) (Is verdict) more outcome after below ends)))
  where
    more : Counts
    more = one_more counts

    reached : List ℕ → Labels → Run
    reached text found = then_do (sub text found more) (judged_by site t go)

    named : List ℕ → Run
    named text = with_name (Perm cause.Missing (at site t)) more (name_of text) (reached text)

    onward : Counts → Run
    onward counted = with_target site t counted (Some spec) (λ text. with_name (Perm cause.Missing (at site t)) counted (name_of text)
        (λ found. then_do (sub text found counted) (judged_by site t go)))

-- the run comes to this verdict, with so many lookups at most and so many voids
abbrev pub Comes : Answering → Run → Verdict → (most voids : ℕ) → Type 0
Comes zones run verdict most voids = (after : Counts) × EndsWith zones run (Is verdict) after × (after.lookups ≤ most) × (after.voids ≡ voids)

-- includes give pass where a record that they include gives pass, and else go on to the terms behind them
includes_come : (zones : Answering) (limits : Limits) (a : Address) (depth : ℕ) (domain : List ℕ) (name : Labels) (t : ℕ) (specs : List (List Piece)) (lists : List (List FlatTerm)) (behind : List FlatTerm)
    (counts : Counts) (last : Counts → Run) → AreIncluded zones domain specs lists → counts.lookups + length specs ≤ limits.lookups
    → ((more : Counts) → EndsWith zones (last more) (Is Neutral) more)
    → Comes zones (tried (judge (record { limits = limits; family = family_of a; domain = domain; name = name }) a (check limits a (suc depth))) t (includes_of specs (directives_of behind [])) counts last)
    (first_included lists behind a) (counts.lookups + length specs) counts.voids
includes_come zones limits a depth domain name t [] [] behind counts last included few ends =
    (counts, flat_ends zones (record { limits = limits; family = family_of a; domain = domain; name = name }) a (check limits a (suc depth)) t behind counts last (ends counts), omega arith, refl)
includes_come zones limits a depth domain name t [] (terms ∷ lists) behind counts last included few ends = absurd included
includes_come zones limits a depth domain name t (spec ∷ specs) [] behind counts last included few ends = absurd included
includes_come zones limits a depth domain name t (spec ∷ specs) (terms ∷ lists) behind counts last included few ends =
    reach
    (by_pass (is_pass (first terms a)) (includes_come zones limits a depth domain name (term_after t) specs lists behind (one_more counts) last included.1 (omega (arith, few)) ends))
  where
    site : Site
    site = record { limits = limits; family = family_of a; domain = domain; name = name }

    more : Counts
    more = one_more counts

    next : Counts → Run
    next counted = tried (judge site a (check limits a (suc depth))) (term_after t) (includes_of specs (directives_of behind [])) counted last

    go : Verdict → Counts → Run
    go verdict = unless_matched Pass next (is_pass verdict)

    most : ℕ
    most = counts.lookups + length (spec ∷ specs)

    by_pass : (b : Bool) → Comes zones (next more) (first_included lists behind a) (more.lookups + length specs) counts.voids
        → Comes zones (unless_matched Pass next b more) (cond b Pass (first_included lists behind a)) most counts.voids
    by_pass true h = (more, (refl, refl), omega arith, refl)
    by_pass false h = (h.0, h.1, omega (arith, h.2), h.3)

    reach : Comes zones (unless_matched Pass next (is_pass (first terms a)) more) (first_included (terms ∷ lists) behind a) most counts.voids
        → Comes zones (with_verdict site (check limits a (suc depth)) t spec counts go) (first_included (terms ∷ lists) behind a) most counts.voids
    reach h = (
      h.0,
      lookup_ends zones site (check limits a (suc depth)) t spec included.0.there (included.0.label ∷ included.0.next ∷ included.0.labels) counts h.0 (first terms a) (Is (first_included (terms ∷ lists) behind a)) go
          included.0.leads (le-leb (counts.lookups + 1) limits.lookups (omega (arith, few)))
          (flat_record_ends zones limits a depth included.0.there included.0.label included.0.next included.0.labels included.0.text terms more included.0.holds included.0.spells) h.1,
      h.2,
      h.3,
    )

included_redirect : (t : ℕ) (specs : List (List Piece)) (behind : List FlatTerm) → redirect_from t (includes_of specs (directives_of behind [])) ≡ None
included_redirect t [] behind = redirect_none t behind
included_redirect t (spec ∷ specs) behind = included_redirect (term_after t) specs behind

-- a record that includes others, at most as many as lookups are left
pub includes_record_comes : (zones : Answering) (limits : Limits) (a : Address) (depth : ℕ) (domain : List ℕ) (label next : List ℕ) (labels : Labels) (text : List ℕ) (specs : List (List Piece)) (lists : List (List FlatTerm))
    (behind : List FlatTerm) (counts : Counts) → Holds zones (label ∷ next ∷ labels) text → SpellsPolicy text (record { terms = includes_of specs (directives_of behind []) })
    → AreIncluded zones domain specs lists → counts.lookups + length specs ≤ limits.lookups
    → Comes zones (check limits a (suc (suc depth)) domain (label ∷ next ∷ labels) counts) (first_included lists behind a) (counts.lookups + length specs) counts.voids
includes_record_comes zones limits a depth domain label next labels text specs lists behind counts holds spells included few =
    at_name (includes_come zones limits a depth domain (label ∷ next ∷ labels) 1 specs lists behind counts last included few
    (λ more. subst (λ redirect. EndsWith zones (default site (check limits a (suc depth)) more redirect) (Is Neutral) more) (sym (included_redirect 1 specs behind)) (refl, refl)))
  where
    site : Site
    site = record { limits = limits; family = family_of a; domain = domain; name = label ∷ next ∷ labels }

    terms : List Term
    terms = includes_of specs (directives_of behind [])

    last : Counts → Run
    last more = default site (check limits a (suc depth)) more (redirect_from 1 terms)

    at_name : Comes zones (tried (judge site a (check limits a (suc depth))) 1 terms counts last) (first_included lists behind a) (counts.lookups + length specs) counts.voids
        → Comes zones (check limits a (suc (suc depth)) domain (label ∷ next ∷ labels) counts) (first_included lists behind a) (counts.lookups + length specs) counts.voids
    at_name h =
        (h.0, record_ends zones limits a (suc depth) domain label next labels text terms counts h.0 (Is (first_included lists behind a)) holds spells h.1, h.2, h.3)
