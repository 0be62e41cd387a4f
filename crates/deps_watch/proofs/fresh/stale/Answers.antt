use Rattle.std.proofs.Common.{◌≡◌, ◌<◌, Bool, List, length, get_or, ap, ◌∙◌, subst, arith}
use Rattle.deps_watch.specs.declared.kept.KeptLine.{KeptLine}
use Rattle.deps_watch.specs.Freshness.{IsAgreement}
use Rattle.deps_watch.proofs.Agreeing.{first_at}
use Rattle.deps_watch.proofs.fresh.stale.Goals as goal

pub returns-then-not-branch : goal.returns-then-not-branch
returns-then-not-branch c =
    let same : c.as_slice-lines.result.now ≡ c.args.kept.now.lines = c.as_slice-lines.ensures in
    let count : length c.as_slice-lines.result.now ≡ length c.args.kept.now.lines = ap (λ (ls : List KeptLine). length ls) same in
    let within : c.loop-index.index < length c.args.kept.now.lines = omega (arith, c.loop-index-test.true, count) in
    first_at c.args.zones.now c.args.kept.now.lines c.loop-index.index c.index-lines-index.result within
    (c.index-lines-index.is ∙ ap (λ (ls : List KeptLine). get_or ls c.loop-index.index c.index-lines-index.result) same) c.loop-index.invariant.agree
    (subst (λ (b : Bool). IsAgreement c.args.zones.now c.index-lines-index.result b) c.if-not-branch.true c.in_ok-agrees.ensures.agrees)

pub loop-index-init : goal.loop-index-init
loop-index-init c = record { agree = tt; asked = c.new-reversals.ensures c.args.zones.now }
