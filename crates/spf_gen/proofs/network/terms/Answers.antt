use Rattle.std.proofs.Common.{sym, ◌∙◌, arith}
use Rattle.spf_gen.proofs.Drawing.{first_draw, network_here, network_elsewhere}
use Rattle.spf_gen.proofs.network.terms.Goals as goal
use Rattle.spf_gen.proofs.network.terms.Goals.{then-index-place+in_ok-push, else-index-place}

pub loop-index-init : goal.loop-index-init
loop-index-init c = record { drawn = sym (first_draw c.args.start (omega arith)); terms = c.new-terms.ensures }

pub loop-index-preserved : goal.loop-index-preserved
loop-index-preserved c =
    let drawn = c.next-drawn.ensures c.args.start c.loop-index.index c.loop-index.invariant.drawn in
    let kept = c.loop-index.invariant.terms in
    record {
      drawn = drawn;
      terms = elim c.if-index-place.branch [
        | then-index-place+in_ok-push w ↦
            let here = network_here c.args.start c.loop-index.index c.args.place c.next-drawn.result w.verdict.result w.network.result w.if-index-place.true drawn w.verdict.ensures w.network.ensures in
            let pushed = w.in_ok-push.ensures.ok in
            cc
        | else-index-place w ↦ w.terms-is ∙ (kept ∙ sym (network_elsewhere c.args.start c.loop-index.index c.args.place w.if-index-place.false))
      ];
    }
