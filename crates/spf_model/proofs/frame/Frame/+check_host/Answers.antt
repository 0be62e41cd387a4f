use Rattle.std.proofs.Common.{◌+◌, [], inl, inr, drop, ap, ◌∙◌, List, arith}
use Rattle.std.proofs.lemmas.Result.{err_from_is_err_and}
use Rattle.spf_model.specs.Run.{says}
use Rattle.std.proofs.lemmas.List.{drop_all}
use Rattle.spf_grammar.specs.declared.policy.Term.{Term}
use Rattle.spf_model.specs.Check.{check, redirect_from, with_record}
use Rattle.spf_model.specs.Judging.{naming_target}
use Rattle.spf_model.specs.Leads.{site_of}
use Rattle.spf_model.proofs.Asking.{passed_on, stopped_on}
use Rattle.spf_model.proofs.Terms.{target_judged, target_uncounted, target_unnamed, domain_found, include_halts, includes, term_halts, term_matches, term_passes, more_halts, more_matches, more_passes, next_term, record_halts, terms_halt, terms_match, redirects, neutral, redirect_fits}
use Rattle.spf_model.proofs.frame.Frame.+check_host.Goals as goal

-- ---- the record that a term asks for

pub judge_target-returns-in_err-count_lookup-clause-judged : goal.judge_target-returns-in_err-count_lookup-clause-judged
judge_target-returns-in_err-count_lookup-clause-judged t c = λ depth within.
    let p = err_from_is_err_and c.from_residual.result c.from_residual.ensures.1 in
    rw (p.1, p.2)
    (target_uncounted (says c.args.self.now.context.zones.now c.args.self.now.address) (site_of c.args.self.now.context) (check c.args.self.now.context.limits c.args.self.now.address depth) c.args.term c.args.spec.now c.args.counts.now
    c.in_err-count_lookup.field-0.0 c.in_err-count_lookup.ensures.counted)

pub judge_target-returns-in_err-domain-clause-judged : goal.judge_target-returns-in_err-domain-clause-judged
judge_target-returns-in_err-domain-clause-judged t c = λ depth within.
    let p = err_from_is_err_and c.from_residual-in_err-domain.result c.from_residual-in_err-domain.ensures.1 in
    rw (p.1, p.2)
    (target_unnamed (says c.args.self.now.context.zones.now c.args.self.now.address) (site_of c.args.self.now.context) (check c.args.self.now.context.limits c.args.self.now.address depth) c.args.term c.args.spec.now c.args.counts.now
    c.count_lookup.new.counts c.in_err-domain.field-0.0 c.in_ok-count_lookup.ensures.counted
    (stopped_on (says c.args.self.now.context.zones.now c.args.self.now.address) [] [] (naming_target (site_of c.args.self.now.context) c.args.term c.args.spec.now) c.in_err-domain.field-0.0 (c.in_err-domain.ensures [] c.args.self.now.address) c.count_lookup.new.counts))

pub judge_target-returns-clause-judged : goal.judge_target-returns-clause-judged
judge_target-returns-clause-judged t c = λ depth within.
    let judged = rw c.as_slice.ensures at c.judge_record.ensures.judged in
    rw c.required.ensures
    (target_judged (says c.args.self.now.context.zones.now c.args.self.now.address) (site_of c.args.self.now.context) (check c.args.self.now.context.limits c.args.self.now.address depth) c.args.term c.args.spec.now c.args.counts.now
    c.in_ok-domain.domain c.in_ok-domain.name c.count_lookup.new.counts c.judge_record.new.counts c.judge_record.result
    (domain_found (says c.args.self.now.context.zones.now c.args.self.now.address) (site_of c.args.self.now.context) c.args.term c.args.spec.now c.args.counts.now c.count_lookup.new.counts c.in_ok-domain.domain c.in_ok-domain.name
    c.in_ok-count_lookup.ensures.counted
    (passed_on (says c.args.self.now.context.zones.now c.args.self.now.address) [] [] (naming_target (site_of c.args.self.now.context) c.args.term c.args.spec.now) (c.in_ok-domain.domain, c.in_ok-domain.name) (c.in_ok-domain.ensures [] c.args.self.now.address) c.count_lookup.new.counts))
    (judged depth (omega (arith, within, c.in_ok-count_lookup.ensures.risen.0))))

-- ---- one mechanism

pub matches-returns-in_err-verdict-in-Include-clause-judged : goal.matches-returns-in_err-verdict-in-Include-clause-judged
matches-returns-in_err-verdict-in-Include-clause-judged t c = λ depth within.
    let p = err_from_is_err_and c.from_residual.result c.from_residual.ensures.1 in
    rw (p.1, p.2, c.in-Include.is)
    (include_halts (says c.args.self.now.context.zones.now c.args.self.now.address) (site_of c.args.self.now.context) c.args.self.now.address (check c.args.self.now.context.limits c.args.self.now.address depth) c.args.term c.in-Include.spec c.args.counts.now
    c.in_err-verdict-in-Include.field-0.0 (c.in_err-verdict-in-Include.ensures.judged depth within))

pub matches-returns-in_ok-verdict-in-Include-clause-judged : goal.matches-returns-in_ok-verdict-in-Include-clause-judged
matches-returns-in_ok-verdict-in-Include-clause-judged t c = λ depth within.
    rw c.in-Include.is
    (includes (says c.args.self.now.context.zones.now c.args.self.now.address) (site_of c.args.self.now.context) c.args.self.now.address (check c.args.self.now.context.limits c.args.self.now.address depth) c.args.term c.in-Include.spec c.args.counts.now
    c.judge_target.new.counts c.in_ok-verdict-in-Include.verdict c.is_pass.result c.is_pass.ensures (c.in_ok-verdict-in-Include.ensures.judged depth within))

pub matches-returns-in-A-clause-judged : goal.matches-returns-in-A-clause-judged
matches-returns-in-A-clause-judged t c = λ depth within. elim c.in-A.is [
  | inl a ↦ rw a.3 (rw a.3 at c.match_hosts.ensures.judged)
  | inr (inl mx) ↦ rw mx.3 (rw mx.3 at c.match_hosts.ensures.judged)
  | inr (inr exists) ↦ rw exists.1 (rw exists.1 at c.match_hosts.ensures.judged)
]

pub matches-returns-in-Ptr-clause-judged : goal.matches-returns-in-Ptr-clause-judged
matches-returns-in-Ptr-clause-judged t c = λ depth within. rw c.in-Ptr.is (c.match_ptr.ensures.judged (check c.args.self.now.context.limits c.args.self.now.address depth) c.in-Ptr.field-0)

-- ---- one term

pub try_term-returns-in_err-matched-clause-tried : goal.try_term-returns-in_err-matched-clause-tried
try_term-returns-in_err-matched-clause-tried t c = λ depth within.
    let p = err_from_is_err_and c.from_residual.result c.from_residual.ensures.1 in
    rw (p.1, p.2, c.in-Directive.is)
    (term_halts (says c.args.self.now.context.zones.now c.args.self.now.address) (site_of c.args.self.now.context) c.args.self.now.address (check c.args.self.now.context.limits c.args.self.now.address depth) c.args.number c.in-Directive.verdict c.in-Directive.mechanism c.args.counts.now c.in_err-matched.field-0.0 (c.in_err-matched.ensures.judged depth within))

pub try_term-returns-then-matched-clause-tried : goal.try_term-returns-then-matched-clause-tried
try_term-returns-then-matched-clause-tried t c = λ depth within.
    rw c.in-Directive.is
    (term_matches (says c.args.self.now.context.zones.now c.args.self.now.address) (site_of c.args.self.now.context) c.args.self.now.address (check c.args.self.now.context.limits c.args.self.now.address depth) c.args.number c.in-Directive.verdict c.in-Directive.mechanism c.args.counts.now c.matches.new.counts c.in_ok-matched.matched c.if-matched.true (c.in_ok-matched.ensures.judged depth within))

pub try_term-returns-clause-tried : goal.try_term-returns-clause-tried
try_term-returns-clause-tried t c = λ depth within.
    rw c.in-Directive.is
    (term_passes (says c.args.self.now.context.zones.now c.args.self.now.address) (site_of c.args.self.now.context) c.args.self.now.address (check c.args.self.now.context.limits c.args.self.now.address depth) c.args.number c.in-Directive.verdict c.in-Directive.mechanism c.args.counts.now c.matches.new.counts c.in_ok-matched.matched c.if-matched.false (c.in_ok-matched.ensures.judged depth within))

-- ---- the terms

pub try_terms-returns-in_err-verdict-clause-tried : goal.try_terms-returns-in_err-verdict-clause-tried
try_terms-returns-in_err-verdict-clause-tried t c =
    let p = err_from_is_err_and c.from_residual.result c.from_residual.ensures.1 in
    let leads = rw (next_term c.args.terms.now c.loop-term.term-index c.term-item.result c.loop-term-test.true c.term-item.is) at c.loop-term.invariant.leads in
    λ depth within. rw (p.1, p.2)
    (more_halts (says c.args.self.now.context.zones.now c.args.self.now.address) (site_of c.args.self.now.context) c.args.self.now.address c.args.terms.now (drop (c.loop-term.term-index + 1) c.args.terms.now) c.args.counts.now c.loop-term.counts c.loop-term.number c.term-item.result c.in_err-verdict.field-0.0
    leads c.loop-term.invariant.grown c.in_err-verdict.ensures.tried depth within)

pub try_terms-returns-in-Some-clause-tried : goal.try_terms-returns-in-Some-clause-tried
try_terms-returns-in-Some-clause-tried t c =
    let leads = rw (next_term c.args.terms.now c.loop-term.term-index c.term-item.result c.loop-term-test.true c.term-item.is) at c.loop-term.invariant.leads in
    let matched = rw c.in-Some.is at c.in_ok-verdict.ensures.tried in
    more_matches (says c.args.self.now.context.zones.now c.args.self.now.address) (site_of c.args.self.now.context) c.args.self.now.address c.args.terms.now (drop (c.loop-term.term-index + 1) c.args.terms.now) c.args.counts.now c.loop-term.counts c.try_term.new.counts c.loop-term.number c.term-item.result c.in-Some.verdict
    leads c.loop-term.invariant.grown matched

pub try_terms-loop-term-preserved : goal.try_terms-loop-term-preserved
try_terms-loop-term-preserved t c =
    let leads = rw (next_term c.args.terms.now c.loop-term.term-index c.term-item.result c.loop-term-test.true c.term-item.is) at c.loop-term.invariant.leads in
    let fit = rw (next_term c.args.terms.now c.loop-term.term-index c.term-item.result c.loop-term-test.true c.term-item.is) at c.loop-term.invariant.fit in
    let passed = rw c.in_default.is at c.in_ok-verdict.ensures.tried in
    record {
      fit = fit.1;
      grown = omega (arith, c.loop-term.invariant.grown, c.in_ok-verdict.ensures.grows);
      leads = rw c.saturating_add-number.ensures (more_passes (says c.args.self.now.context.zones.now c.args.self.now.address) (site_of c.args.self.now.context) c.args.self.now.address c.args.terms.now (drop (c.loop-term.term-index + 1) c.args.terms.now) c.args.counts.now c.loop-term.counts c.try_term.new.counts c.loop-term.number c.term-item.result
          leads c.loop-term.invariant.grown passed);
    }

pub try_terms-returns-clause-tried : goal.try_terms-returns-clause-tried
try_terms-returns-clause-tried t c =
    let leads = rw (drop_all c.loop-term.term-index c.args.terms.now c.loop-term-test.false) at c.loop-term.invariant.leads in
    λ depth within go. leads depth within go

-- ---- a record

pub judge_record-returns-in_err-terms-clause-judged : goal.judge_record-returns-in_err-terms-clause-judged
judge_record-returns-in_err-terms-clause-judged t c =
    let p = err_from_is_err_and c.from_residual.result c.from_residual.ensures.1 in
    λ depth deep. rw (p.1, p.2)
    (record_halts (says c.args.self.now.context.zones.now c.args.self.now.address) (site_of c.args.self.now.context) c.args.self.now.address c.args.counts.now c.in_err-terms.field-0.0 c.requires.family c.requires.within
    (stopped_on (says c.args.self.now.context.zones.now c.args.self.now.address) c.new-asked.result c.find_record.new.asked (with_record c.args.self.now.context.name.now) c.in_err-terms.field-0.0 (c.in_err-terms.ensures.found c.args.self.now.address)) depth deep)

pub judge_record-returns-in_err-verdict-clause-judged : goal.judge_record-returns-in_err-verdict-clause-judged
judge_record-returns-in_err-verdict-clause-judged t c =
    let p = err_from_is_err_and c.from_residual-in_err-verdict.result c.from_residual-in_err-verdict.ensures.1 in
    λ depth deep. rw (p.1, p.2)
    (terms_halt (says c.args.self.now.context.zones.now c.args.self.now.address) (site_of c.args.self.now.context) c.args.self.now.address c.args.counts.now c.as_slice.result.now c.in_err-verdict.field-0.0 c.requires.family c.requires.within
    (rw c.as_slice.ensures (passed_on (says c.args.self.now.context.zones.now c.args.self.now.address) c.new-asked.result c.find_record.new.asked (with_record c.args.self.now.context.name.now) c.in_ok-terms.terms (c.in_ok-terms.ensures.found c.args.self.now.address)))
    c.in_err-verdict.ensures.tried depth deep)

pub judge_record-returns-in-Some-clause-judged : goal.judge_record-returns-in-Some-clause-judged
judge_record-returns-in-Some-clause-judged t c =
    let tried = rw c.in-Some.is at c.in_ok-verdict.ensures.tried in
    λ depth deep.
    terms_match (says c.args.self.now.context.zones.now c.args.self.now.address) (site_of c.args.self.now.context) c.args.self.now.address c.args.counts.now c.try_terms.new.counts c.as_slice.result.now c.in-Some.verdict c.requires.family c.requires.within
    (rw c.as_slice.ensures (passed_on (says c.args.self.now.context.zones.now c.args.self.now.address) c.new-asked.result c.find_record.new.asked (with_record c.args.self.now.context.name.now) c.in_ok-terms.terms (c.in_ok-terms.ensures.found c.args.self.now.address)))
    tried depth deep

pub judge_record-judge_target-requires : goal.judge_record-judge_target-requires
judge_record-judge_target-requires t c =
    let e = c.in-Some-redirect_of.ensures ∙ ap (λ (terms : List Term). redirect_from 1 terms) c.as_slice-2.ensures in
    (omega (arith, c.decreases, c.in_ok-verdict.ensures.grows), (c.requires.family, redirect_fits 1 c.in_ok-terms.terms c.in-Some-redirect_of.term c.in-Some-redirect_of.spec.now c.in_ok-terms.ensures.fit e))

pub judge_record-returns-in-Some-redirect_of-clause-judged : goal.judge_record-returns-in-Some-redirect_of-clause-judged
judge_record-returns-in-Some-redirect_of-clause-judged t c =
    let passed = rw (c.in_default.is, c.as_slice.ensures) at c.in_ok-verdict.ensures.tried in
    redirects (says c.args.self.now.context.zones.now c.args.self.now.address) (site_of c.args.self.now.context) c.args.self.now.address c.args.counts.now c.try_terms.new.counts c.judge_target.new.counts c.in_ok-terms.terms c.in-Some-redirect_of.term c.in-Some-redirect_of.spec.now
    c.judge_target.result c.requires.family c.requires.within (passed_on (says c.args.self.now.context.zones.now c.args.self.now.address) c.new-asked.result c.find_record.new.asked (with_record c.args.self.now.context.name.now) c.in_ok-terms.terms (c.in_ok-terms.ensures.found c.args.self.now.address)) passed c.in_ok-verdict.ensures.grows
    (c.in-Some-redirect_of.ensures ∙ ap (λ (terms : List Term). redirect_from 1 terms) c.as_slice-2.ensures) c.judge_target.ensures.judged

pub judge_record-returns-clause-judged : goal.judge_record-returns-clause-judged
judge_record-returns-clause-judged t c =
    let passed = rw (c.in_default.is, c.as_slice.ensures) at c.in_ok-verdict.ensures.tried in
    neutral (says c.args.self.now.context.zones.now c.args.self.now.address) (site_of c.args.self.now.context) c.args.self.now.address c.args.counts.now c.try_terms.new.counts c.in_ok-terms.terms c.requires.family c.requires.within
    (passed_on (says c.args.self.now.context.zones.now c.args.self.now.address) c.new-asked.result c.find_record.new.asked (with_record c.args.self.now.context.name.now) c.in_ok-terms.terms (c.in_ok-terms.ensures.found c.args.self.now.address)) passed
    (c.in-None.ensures ∙ ap (λ (terms : List Term). redirect_from 1 terms) c.as_slice-2.ensures)
