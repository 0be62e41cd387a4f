use Rattle.std.proofs.Common.{inl, inr, subst, sym, ◌∙◌, arith, List}
use Rattle.addr_bits.specs.Address.{address_of}
use Rattle.addr_bits.proofs.Families.{family_again}
use Rattle.spf_grammar.specs.declared.policy.Term.{Term}
use Rattle.symbolic_check.specs.Walk.{says_at}
use Rattle.spf_model.specs.Check.{redirect_from}
use Rattle.spf_model.specs.Leads.{TermsFit}
use Rattle.spf_model.proofs.Terms.{redirect_fits}
use Rattle.symbolic_check.specs.Stretches.{reached_stretch, default_stretch}
use Rattle.symbolic_check.proofs.Settling.{walks_idle}
use Rattle.symbolic_check.proofs.Rows.{walked_none, walked_row, walked_term, walked_idle, walked_all, row_left}
use Rattle.symbolic_check.proofs.Records.{target_used, reached_stopped, reached_entered, row_walked, include_walked, include_fits, fit_at, redirect_walked, neutral_walked, too_deep, record_stopped, record_walked}
use Rattle.symbolic_check.proofs.walk.+walk.Goals.{walk_terms-then-not-is_row_term+in_ok-passed+else-not-is_some_live+in_ok-walked, walk_terms-else-not-is_row_term}
use Rattle.symbolic_check.proofs.walk.+walk.Goals as goal

-- ---- the record that a term asks for

pub reach_target-returns-then-not-is_some_live : goal.reach_target-returns-then-not-is_some_live
reach_target-returns-then-not-is_some_live g t c =
    walks_idle g.W.Width.BITS (says_at (address_of g.W.AddressFamily.family) c.args.context.now.zones.now) (reached_stretch (address_of g.W.AddressFamily.family) c.args.context.now c.args.depth c.args.term c.args.spec.now)
    c.args.states c.args.asked.now (rw c.if-not-is_some_live.true at c.is_some_live.ensures)

pub reach_target-walk_record-requires : goal.reach_target-walk_record-requires
reach_target-walk_record-requires g t c κs within = (omega (arith, c.decreases), (within, c.requires.family))

pub reach_target-returns-in-Ok : goal.reach_target-returns-in-Ok
reach_target-returns-in-Ok g t c =
    reached_entered g.W.Width.BITS (says_at (address_of g.W.AddressFamily.family) c.args.context.now.zones.now) (address_of g.W.AddressFamily.family) c.args.context.now c.args.depth c.args.term c.args.spec.now
    c.in-Ok.domain c.as_slice.result.now c.in-Ok.name c.args.states c.args.asked.now c.walk_record.new.asked c.walk_record.result
    (rw c.if-not-is_some_live.false at c.is_some_live.ensures) (λ a. c.in-Ok.ensures c.args.asked.now (address_of g.W.AddressFamily.family a)) c.as_slice.ensures c.walk_record.ensures

pub reach_target-returns-in-Err-Ended : goal.reach_target-returns-in-Err-Ended
reach_target-returns-in-Err-Ended g t c =
    reached_stopped g.W.Width.BITS (says_at (address_of g.W.AddressFamily.family) c.args.context.now.zones.now) (address_of g.W.AddressFamily.family) c.args.context.now c.args.depth c.args.term c.args.spec.now
    c.in-Err-Ended.outcome c.args.states c.args.asked.now c.fail.result
    (rw c.if-not-is_some_live.false at c.is_some_live.ensures) (λ a. rw c.in-Err-Ended.field-0-is at c.in-Err-Ended.ensures c.args.asked.now (address_of g.W.AddressFamily.family a)) c.fail.ensures

pub walk_target-reach_target-requires : goal.walk_target-reach_target-requires
walk_target-reach_target-requires g t c κs within = (omega (arith, c.decreases), (within, (c.requires.family, c.requires.target)))

pub walk_target-returns : goal.walk_target-returns
walk_target-returns g t c =
    target_used g.W.Width.BITS (says_at (address_of g.W.AddressFamily.family) c.args.context.now.zones.now) (address_of g.W.AddressFamily.family) c.args.context.now c.args.depth c.args.term c.args.spec.now c.args.purpose
    c.args.states c.in_ok-entered.entered c.in_ok-found.found c.args.asked.now c.reach_target.new.asked c.place-place.result c.use_target.result
    c.place-place.ensures c.in_ok-entered.ensures c.in_ok-found.ensures c.use_target.ensures

-- ---- one term

pub walk_term-returns-in_default : goal.walk_term-returns-in_default
walk_term-returns-in_default g t c =
    row_walked g.W.Width.BITS (says_at (address_of g.W.AddressFamily.family) c.args.context.now.zones.now) (address_of g.W.AddressFamily.family) c.args.context.now c.args.depth c.args.number c.args.term.now c.from_ref.result.now
    c.args.states c.args.asked.now c.walk_row.result c.from_ref.ensures.value c.walk_row.ensures

pub walk_term-walk_target-requires : goal.walk_term-walk_target-requires
walk_term-walk_target-requires g t c κs within =
    (omega (arith, c.decreases), (within, (c.requires.family, include_fits c.args.term.now c.in-Directive.verdict c.in-Directive.mechanism c.in-Include.spec c.in-Directive.is c.in-Include.is c.requires.fits)))

pub walk_term-returns-in-Include : goal.walk_term-returns-in-Include
walk_term-returns-in-Include g t c =
    include_walked g.W.Width.BITS (says_at (address_of g.W.AddressFamily.family) c.args.context.now.zones.now) (address_of g.W.AddressFamily.family) c.args.context.now c.args.depth c.args.number c.args.term.now c.in-Directive.verdict c.in-Directive.mechanism c.in-Include.spec
    c.args.states c.args.asked.now c.walk_target.new.asked c.walk_target.result c.in-Directive.is c.in-Include.is c.walk_target.ensures

pub walk_term-returns-in-All : goal.walk_term-returns-in-All
walk_term-returns-in-All g t c =
    row_walked g.W.Width.BITS (says_at (address_of g.W.AddressFamily.family) c.args.context.now.zones.now) (address_of g.W.AddressFamily.family) c.args.context.now c.args.depth c.args.number c.args.term.now c.from_ref-in-All.result.now
    c.args.states c.args.asked.now c.walk_row-in-All.result c.from_ref-in-All.ensures.value c.walk_row-in-All.ensures

pub walk_term-returns-in-A : goal.walk_term-returns-in-A
walk_term-returns-in-A g t c = elim c.in-A.is [
  | inl a ↦ rw (c.in-Directive.is, a.3) (rw a.3 at c.walk_hosts.ensures)
  | inr (inl mx) ↦ rw (c.in-Directive.is, mx.3) (rw mx.3 at c.walk_hosts.ensures)
  | inr (inr exists) ↦ rw (c.in-Directive.is, exists.1) (rw exists.1 at c.walk_hosts.ensures)
]

-- ---- the terms

pub walk_terms-loop-index-init : goal.walk_terms-loop-index-init
walk_terms-loop-index-init g t c =
    (omega arith, walked_none g.W.Width.BITS (says_at (address_of g.W.AddressFamily.family) c.args.context.now.zones.now) (address_of g.W.AddressFamily.family) c.args.context.now c.args.depth c.args.terms.now c.args.states c.args.asked.now)

pub walk_terms-pass_row-requires : goal.walk_terms-pass_row-requires
walk_terms-pass_row-requires g t c = record {
  ordered = c.loop-index.invariant.1.within;
  within = c.loop-index.invariant.0;
  row = c.loop-index.invariant.1.row;
}

pub walk_terms-returns-then-not-is_some_live : goal.walk_terms-returns-then-not-is_some_live
walk_terms-returns-then-not-is_some_live g t c =
    walked_idle g.W.Width.BITS (says_at (address_of g.W.AddressFamily.family) c.args.context.now.zones.now) (address_of g.W.AddressFamily.family) c.args.context.now c.args.depth c.args.terms.now c.args.states c.args.asked.now
    c.loop-index.start c.loop-index.index c.loop-index.number c.loop-index.walked c.in_ok-passed.passed c.loop-index.asked
    c.loop-index.invariant.1 c.in_ok-passed.ensures (rw c.if-not-is_some_live.true at c.is_some_live.ensures)

pub walk_terms-walk_term-requires : goal.walk_terms-walk_term-requires
walk_terms-walk_term-requires g t c κs within =
    (omega (arith, c.decreases), (within, (c.requires.family, fit_at c.args.terms.now c.loop-index.index c.index-terms-index-then-not-is_row_term.result c.loop-index-test.true c.requires.fit c.index-terms-index-then-not-is_row_term.is)))

pub walk_terms-loop-index-preserved : goal.walk_terms-loop-index-preserved
walk_terms-loop-index-preserved g t c = (
  omega (arith, c.loop-index-test.true),
  rw c.saturating_add-number.ensures (elim c.if-not-is_row_term.branch [
    | walk_terms-then-not-is_row_term+in_ok-passed+else-not-is_some_live+in_ok-walked w ↦ rw (w.asked-is, w.walked-is, w.start-is)
        (walked_term g.W.Width.BITS (says_at (address_of g.W.AddressFamily.family) c.args.context.now.zones.now) (address_of g.W.AddressFamily.family) c.args.context.now c.args.depth c.args.terms.now c.args.states c.args.asked.now
        c.loop-index.start c.loop-index.index c.loop-index.number c.loop-index.walked w.in_ok-passed.passed w.in_ok-walked.walked c.loop-index.asked w.walk_term.new.asked
        w.index-terms-index-then-not-is_row_term.result c.loop-index.invariant.1 c.loop-index-test.true w.index-terms-index-then-not-is_row_term.is
        w.in_ok-passed.ensures w.in_ok-walked.ensures)
    | walk_terms-else-not-is_row_term w ↦ rw (w.asked-is, w.walked-is, w.start-is)
        (walked_row g.W.Width.BITS (says_at (address_of g.W.AddressFamily.family) c.args.context.now.zones.now) (address_of g.W.AddressFamily.family) c.args.context.now c.args.depth c.args.terms.now c.args.states c.args.asked.now
        c.loop-index.start c.loop-index.index c.loop-index.number c.loop-index.walked c.loop-index.asked
        c.index-terms-index.result c.loop-index.invariant.1 c.loop-index-test.true c.index-terms-index.is (sym c.is_row_term.ensures ∙ w.if-not-is_row_term.false))
  ]),
)

pub walk_terms-end_row-requires : goal.walk_terms-end_row-requires
walk_terms-end_row-requires g t c = record {
  within = omega (arith, c.loop-index.invariant.0, c.loop-index.invariant.1.within);
  row = row_left g.W.Width.BITS (says_at (address_of g.W.AddressFamily.family) c.args.context.now.zones.now) (address_of g.W.AddressFamily.family) c.args.context.now c.args.depth c.args.terms.now c.args.states c.args.asked.now
      c.loop-index.start c.loop-index.index c.loop-index.number c.loop-index.walked c.loop-index.asked c.loop-index.invariant.1 (omega (arith, c.loop-index-test.false));
}

pub walk_terms-returns : goal.walk_terms-returns
walk_terms-returns g t c =
    walked_all g.W.Width.BITS (says_at (address_of g.W.AddressFamily.family) c.args.context.now.zones.now) (address_of g.W.AddressFamily.family) c.args.context.now c.args.depth c.args.terms.now c.args.states c.args.asked.now
    c.loop-index.start c.loop-index.index c.loop-index.number c.loop-index.walked c.loop-index.asked c.end_row.result c.loop-index.invariant.1 c.end_row.ensures

-- ---- a record

pub walk_default-returns-then-not-is_some_live : goal.walk_default-returns-then-not-is_some_live
walk_default-returns-then-not-is_some_live g t c =
    walks_idle g.W.Width.BITS (says_at (address_of g.W.AddressFamily.family) c.args.context.now.zones.now) (default_stretch (address_of g.W.AddressFamily.family) c.args.context.now c.args.depth (redirect_from 1 c.args.terms.now))
    c.args.states c.args.asked.now (rw c.if-not-is_some_live.true at c.is_some_live.ensures)

pub walk_default-walk_target-requires : goal.walk_default-walk_target-requires
walk_default-walk_target-requires g t c κs within =
    (omega (arith, c.decreases), (within, (c.requires.family, redirect_fits 1 c.args.terms.now c.in-Some.term c.in-Some.spec.now c.requires.fit c.in-Some.ensures)))

pub walk_default-returns-in-Some : goal.walk_default-returns-in-Some
walk_default-returns-in-Some g t c =
    redirect_walked g.W.Width.BITS (says_at (address_of g.W.AddressFamily.family) c.args.context.now.zones.now) (address_of g.W.AddressFamily.family) c.args.context.now c.args.depth c.in-Some.term c.in-Some.spec.now c.args.terms.now
    c.args.states c.args.asked.now c.walk_target.new.asked c.walk_target.result c.in-Some.ensures c.walk_target.ensures

pub walk_default-returns-in-None : goal.walk_default-returns-in-None
walk_default-returns-in-None g t c =
    neutral_walked g.W.Width.BITS (says_at (address_of g.W.AddressFamily.family) c.args.context.now.zones.now) (address_of g.W.AddressFamily.family) c.args.context.now c.args.depth c.args.terms.now
    c.args.states c.args.asked.now c.match_all.result c.in-None.ensures c.match_all.ensures

pub walk_record-returns-then-depth-eq0 : goal.walk_record-returns-then-depth-eq0
walk_record-returns-then-depth-eq0 g t c =
    too_deep g.W.Width.BITS (says_at (address_of g.W.AddressFamily.family) c.args.context.now.zones.now) (address_of g.W.AddressFamily.family) c.args.context.now c.args.depth c.place.result c.args.states c.args.asked.now c.fail.result
    c.if-depth-eq0.true c.place.ensures c.fail.ensures

pub walk_record-walk_terms-requires : goal.walk_record-walk_terms-requires
walk_record-walk_terms-requires g t c κs within =
    (omega (arith, c.decreases, c.if-depth-eq0.false), (within, (c.requires, subst (λ (x : List Term). TermsFit x) (sym c.as_slice.ensures) c.in-Ok.ensures.fit)))

pub walk_record-walk_default-requires : goal.walk_record-walk_default-requires
walk_record-walk_default-requires g t c κs within =
    (omega (arith, c.decreases, c.if-depth-eq0.false), (within, (c.requires, subst (λ (x : List Term). TermsFit x) (sym c.as_slice-in-Ok.ensures) c.in-Ok.ensures.fit)))

pub walk_record-returns-in-Ok : goal.walk_record-returns-in-Ok
walk_record-returns-in-Ok g t c =
    record_walked g.W.Width.BITS (says_at (address_of g.W.AddressFamily.family) c.args.context.now.zones.now) (address_of g.W.AddressFamily.family) c.args.context.now c.args.depth c.in-Ok.terms c.as_slice.result.now c.as_slice-in-Ok.result.now
    c.args.states c.in_ok-tried-in-Ok.tried c.args.asked.now c.find_record.new.asked c.walk_terms.new.asked c.walk_default.new.asked c.walk_default.result
    (λ a. family_again g.W.AddressFamily.family a ∙ sym c.requires) c.if-depth-eq0.false (rw c.if-not-is_some_live.false at c.is_some_live.ensures) (λ a. c.in-Ok.ensures.found (address_of g.W.AddressFamily.family a)) c.as_slice.ensures c.as_slice-in-Ok.ensures
    c.in_ok-tried-in-Ok.ensures c.walk_default.ensures

pub walk_record-returns-in-Err-Ended : goal.walk_record-returns-in-Err-Ended
walk_record-returns-in-Err-Ended g t c =
    record_stopped g.W.Width.BITS (says_at (address_of g.W.AddressFamily.family) c.args.context.now.zones.now) (address_of g.W.AddressFamily.family) c.args.context.now c.args.depth c.in-Err-Ended.outcome c.args.states c.args.asked.now c.find_record.new.asked c.fail-in-Err-Ended.result
    (λ a. family_again g.W.AddressFamily.family a ∙ sym c.requires) c.if-depth-eq0.false (rw c.if-not-is_some_live.false at c.is_some_live.ensures) (λ a. rw c.in-Err-Ended.field-0-is at c.in-Err-Ended.ensures.found (address_of g.W.AddressFamily.family a)) c.fail-in-Err-Ended.ensures
