use Rattle.std.proofs.Common.{◌≡◌, ◌<◌, ◌+◌, ◌^◌, ℕ, List, Some, sym, ap, ◌∙◌, subst, arith}
use Rattle.addr_bits.specs.declared.address.Family.{Family}
use Rattle.zone_answers.specs.Reversed.{label_count}
use Rattle.reverse_names.specs.declared.path.Path.{Path}
use Rattle.reverse_names.specs.Tree.{ArePaths, class_at, level}
use Rattle.reverse_names.proofs.Stops.{all_levels}
use Rattle.reverse_names.proofs.sets.reverse_sets.Goals as goal

pub loop-above-init : goal.loop-above-init
loop-above-init g c = λ a k. c.in_ok-classes.ensures.value a k
    ∙ ap Some (c.in_ok-class_below.ensures a ∙ ap (λ (f : Family). class_at c.args.zones.now c.args.suffix.now f 0 a) c.family-family.ensures)

pub set_level-requires-clause-so_far : goal.set_level-requires-clause-so_far
set_level-requires-clause-so_far g c = λ a k. c.loop-above.invariant a k
    ∙ ap (λ (paths : List Path). Some (level c.args.zones.now c.args.suffix.now g.W.AddressFamily.family paths c.loop-above.above a)) (sym c.deref.ensures.value)

pub loop-above-preserved : goal.loop-above-preserved
loop-above-preserved g c = λ a k. c.in_ok-set_level.ensures a k
    ∙ ap (λ (paths : List Path). Some (level c.args.zones.now c.args.suffix.now g.W.AddressFamily.family paths (c.loop-above.above + 1) a)) c.deref.ensures.value

pub returns : goal.returns
returns g c = λ a k.
    let last : c.loop-above.above ≡ label_count g.W.AddressFamily.family = omega (arith, c.loop-above.auto.above-end, c.loop-above-test.false, c.label_count-above-end.ensures ∙ ap label_count c.family-family.ensures) in
    let paths : ArePaths c.args.zones.now g.W.AddressFamily.family c.args.suffix.now c.in_ok-paths.paths.items =
    subst (λ (f : Family). ArePaths c.args.zones.now f c.args.suffix.now c.in_ok-paths.paths.items) c.family-family.ensures c.in_ok-paths.ensures in
    c.loop-above.invariant a k
    ∙ ap (λ (d : ℕ). Some (level c.args.zones.now c.args.suffix.now g.W.AddressFamily.family c.in_ok-paths.paths.items d a)) last
    ∙ ap Some (all_levels c.args.zones.now c.args.suffix.now g.W.AddressFamily.family c.in_ok-paths.paths.items a paths (subst (λ (n : ℕ). a < 2 ^ n) g.met.W.AddressFamily.bits k))
