use Rattle.std.proofs.Common.{ap₂, ◌-◌, ◌∙◌, ℕ}
use Rattle.std.proofs.Math.Facts.{Fits-of_lt}
use Rattle.policy_compare.proofs.Leaves.{shift_fits, sum_fits, sum_is, sum_stays}
use Rattle.policy_compare.proofs.comparing.addresses.Goals as goal
use Rattle.policy_compare.proofs.comparing.addresses.Goals.{then-is, else-is}

pub overflow_shl-count : goal.overflow_shl-count
overflow_shl-count g c =
    rw (c.BITS.ensures, c.len.ensures.value)
    (shift_fits g.W.Width.BITS c.args.pair c.args.leaves.now c.loop-prefix.prefix-index c.loop-prefix-item.result c.loop-prefix-test.true c.loop-prefix-item.is (c.if-is.ensures) c.requires.few)

pub overflow_add-count : goal.overflow_add-count
overflow_add-count g c = Fits-of_lt
    (sum_fits g.W.Width.BITS c.args.pair c.args.leaves.now c.loop-prefix.prefix-index c.loop-prefix-item.result (c.BITS.result - c.len.result) c.loop-prefix.count c.loop-prefix-test.true c.loop-prefix-item.is (c.if-is.ensures) c.requires.few
    c.loop-prefix.invariant (ap₂ (λ (m n : ℕ). m - n) c.BITS.ensures c.len.ensures.value))

pub loop-prefix-preserved : goal.loop-prefix-preserved
loop-prefix-preserved g c = elim c.if-is.branch [
  | then-is w ↦ w.count-is ∙ sum_is g.W.Width.BITS c.args.pair c.args.leaves.now c.loop-prefix.prefix-index c.loop-prefix-item.result (w.BITS.result - w.len.result) c.loop-prefix.count c.loop-prefix-test.true
      c.loop-prefix-item.is (w.if-is.ensures) c.requires.few c.loop-prefix.invariant (ap₂ (λ (m n : ℕ). m - n) w.BITS.ensures w.len.ensures.value)
  | else-is w ↦ w.count-is ∙ sum_stays g.W.Width.BITS c.args.pair c.args.leaves.now c.loop-prefix.prefix-index c.loop-prefix-item.result c.loop-prefix.count c.loop-prefix-test.true c.loop-prefix-item.is
      (w.if-is.ensures) c.loop-prefix.invariant
]
