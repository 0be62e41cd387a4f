use Rattle.std.proofs.Common.{◌<◌, ◌+◌, ◌^◌, ℕ, Some, ap, ◌∙◌, subst, arith}
use Rattle.addr_bits.specs.Address.{bits_of}
use Rattle.reverse_names.proofs.Stops.{level_done, plain_at, set_at, short_at, stale_at, start_at}
use Rattle.reverse_names.proofs.sets.set_level.Goals as goal
use Rattle.reverse_names.proofs.sets.set_level.Goals.{then-path-depth+then-is_new+then-is_stop+in_ok-set_node, else-path-depth, else-path-depth-via-then-path-depth+then-is_new+else-is_stop, else-path-depth-via-then-path-depth+else-is_new, else-path-depth-via-else-path-depth}

pub loop-place-preserved : goal.loop-place-preserved
loop-place-preserved g c = λ a k.
    let so_far = c.loop-place.invariant a k in
    let few : a < 2 ^ bits_of g.W.AddressFamily.family = subst (λ (n : ℕ). a < 2 ^ n) g.met.W.AddressFamily.bits k in
    elim c.if-path-depth.branch [
      | then-path-depth+then-is_new+then-is_stop+in_ok-set_node w ↦ rw w.classes-is
          (set_at g.W.AddressFamily.family (c.args.above + 1) a c.args.paths.now c.loop-place.place _ _ _ _ _ c.loop-place-test.true w.if-path-depth.true (w.in_ok-set_node.ensures a k) so_far)
      | else-path-depth w ↦ rw w.classes-is (elim w.else-path-depth.branch [
        | else-path-depth-via-then-path-depth+then-is_new+else-is_stop v ↦
            plain_at c.args.zones.now c.args.suffix.now g.W.AddressFamily.family c.args.paths.now c.loop-place.place _ c.args.above a _ _ _ c.requires.paths c.requires.few few c.loop-place-test.true
            (v.is_stop.ensures.most v.if-is_stop.false) (v.is_stop.ensures.above v.if-is_stop.false) (c.in_ok-ends_above.ensures _ (start_at c.args.zones.now c.args.suffix.now g.W.AddressFamily.family g.W.Width.BITS c.args.paths.now c.loop-place.place _ g.met.W.AddressFamily.bits c.requires.paths c.loop-place-test.true))
            (v.is_stop.ensures.here v.if-is_stop.false) (c.in_ok-ends.ensures _ (start_at c.args.zones.now c.args.suffix.now g.W.AddressFamily.family g.W.Width.BITS c.args.paths.now c.loop-place.place _ g.met.W.AddressFamily.bits c.requires.paths c.loop-place-test.true)) so_far
        | else-path-depth-via-then-path-depth+else-is_new v ↦
            stale_at g.W.AddressFamily.family c.family-family.result (c.args.above + 1) a c.args.paths.now c.loop-place.place _ _ _ _ c.family-family.ensures c.loop-place-test.true (v.is_new.ensures v.if-is_new.false a) so_far
        | else-path-depth-via-else-path-depth v ↦
            short_at g.W.AddressFamily.family (c.args.above + 1) a c.args.paths.now c.loop-place.place _ _ _ _ c.loop-place-test.true v.if-path-depth.false so_far
      ])
    ]

pub returns : goal.returns
returns g c = λ a k. c.loop-place.invariant a k
    ∙ ap Some (level_done c.args.zones.now c.args.suffix.now g.W.AddressFamily.family c.args.paths.now c.args.above c.loop-place.place a (omega (arith, c.loop-place.auto.place-end, c.loop-place-test.false)))
