use Rattle.std.proofs.Common.{rules, ◌≡◌, ◌-◌, ◌++◌, List, length, arith, sym, ◌∙◌, ap, append-nil, suc, ◌*◌, subst, length-append}
use Rattle.fewest_terms.specs.Row.{NeedRow}
use Rattle.fewest_terms.specs.Verdicts.{cost}
use Rattle.addr_bits.specs.Blocks.{prefix_of}
use Rattle.fewest_terms.specs.Leaves.{verdict_at, bits_at}
use Rattle.fewest_terms.proofs.Mixed.{need-plain}
use Rattle.fewest_terms.proofs.WalkLemmas.{WalkedHalf, within_at, alone_read, leaf_read, halves_read, high_begins, both_walked, next_whole, sums_fit, needs_whole, rows_whole, read_prefix, sum_rows-plain}
use Rattle.fewest_terms.proofs.walk.+walk.Goals as goal

pub offset_bounds-leaves-from : goal.offset_bounds-leaves-from
offset_bounds-leaves-from g t c = omega (arith, within_at g.W.Width.BITS c.args.leaves.now c.args.from c.args.len c.requires.begins)

pub bounds-leaves-from : goal.bounds-leaves-from
bounds-leaves-from g t c = omega (arith, within_at g.W.Width.BITS c.args.leaves.now c.args.from c.args.len c.requires.begins)

pub overflow_add-result : goal.overflow_add-result
overflow_add-result g t c = omega (arith, within_at g.W.Width.BITS c.args.leaves.now c.args.from c.args.len c.requires.begins)

pub returns-then-len-clause-next : goal.returns-then-len-clause-next
returns-then-len-clause-next g t c =
    let a = alone_read g.W.Width.BITS c.args.leaves.now c.args.from c.args.len c.index-leaves-from.result c.requires.len_in c.requires.begins c.index-leaves-from.is (sym c.len.ensures.value ∙ c.if-len.true) in
    omega (arith, a.one)

pub returns-then-len-clause-needs : goal.returns-then-len-clause-needs
returns-then-len-clause-needs g t c =
    let a = alone_read g.W.Width.BITS c.args.leaves.now c.args.from c.args.len c.index-leaves-from.result c.requires.len_in c.requires.begins c.index-leaves-from.is (sym c.len.ensures.value ∙ c.if-len.true) in
    λ x. c.of_one.ensures x ∙ ap (λ d. cost d x) (ap (λ l. l.1) (leaf_read g.W.Width.BITS c.args.leaves.now c.args.from c.args.len c.index-leaves-from.result c.requires.begins c.index-leaves-from.is) ∙ a.verdict)
    ∙ sym (need-plain (verdict_at g.W.Width.BITS c.args.leaves.now) (g.W.Width.BITS - c.args.len) (bits_at g.W.Width.BITS c.args.leaves.now c.args.from c.args.len) x a.plain)

pub returns-then-len-clause-sums : goal.returns-then-len-clause-sums
returns-then-len-clause-sums g t c =
    let a = alone_read g.W.Width.BITS c.args.leaves.now c.args.from c.args.len c.index-leaves-from.result c.requires.len_in c.requires.begins c.index-leaves-from.is (sym c.len.ensures.value ∙ c.if-len.true) in
    let old = c.args.sums.now.items in
    sym (ap (λ rows. old ++ rows) (sum_rows-plain g.W.Width.BITS (verdict_at g.W.Width.BITS c.args.leaves.now) (g.W.Width.BITS - c.args.len) (bits_at g.W.Width.BITS c.args.leaves.now c.args.from c.args.len) a.plain) ∙ append-nil old)

pub overflow_add-len : goal.overflow_add-len
overflow_add-len g t c =
    let h = halves_read g.W.Width.BITS c.args.leaves.now c.args.from c.args.len c.index-leaves-from.result c.requires.len_in c.requires.begins c.index-leaves-from.is (λ q. c.if-len.false (c.len.ensures.value ∙ q)) in
    omega (arith, h.open_is, g.met.W.Width.few_bits)

pub walk-requires : goal.walk-requires
walk-requires g t c κs within =
    let h = halves_read g.W.Width.BITS c.args.leaves.now c.args.from c.args.len c.index-leaves-from.result c.requires.len_in c.requires.begins c.index-leaves-from.is (λ q. c.if-len.false (c.len.ensures.value ∙ q)) in
    (search rules, (search rules, (omega (arith, h.open_is), h.low)))

pub overflow_add-len-2 : goal.overflow_add-len-2
overflow_add-len-2 g t c =
    let h = halves_read g.W.Width.BITS c.args.leaves.now c.args.from c.args.len c.index-leaves-from.result c.requires.len_in c.requires.begins c.index-leaves-from.is (λ q. c.if-len.false (c.len.ensures.value ∙ q)) in
    omega (arith, h.open_is, g.met.W.Width.few_bits)

pub walk-requires-2 : goal.walk-requires-2
walk-requires-2 g t c κs within =
    let h = halves_read g.W.Width.BITS c.args.leaves.now c.args.from c.args.len c.index-leaves-from.result c.requires.len_in c.requires.begins c.index-leaves-from.is (λ q. c.if-len.false (c.len.ensures.value ∙ q)) in
    (search rules, (search rules, (omega (arith, h.open_is), high_begins g.W.Width.BITS c.args.leaves.now c.args.from c.args.len h c.in_ok-low.low.next c.in_ok-low.ensures.next)))

pub plus-needs-requires : goal.plus-needs-requires
plus-needs-requires g t c =
    let b = both_walked g.W.Width.BITS c.args.leaves.now c.args.from c.args.len c.index-leaves-from.result c.requires.len_in c.requires.begins c.index-leaves-from.is (λ q. c.if-len.false (c.len.ensures.value ∙ q)) c.in_ok-low.low.next c.in_ok-high.high.next c.in_ok-low.low.needs c.in_ok-high.high.needs c.push.new.self.items c.walk.new.sums.items c.walk-2.new.sums.items
    c.in_ok-low.ensures.next c.in_ok-low.ensures.needs c.in_ok-low.ensures.sums c.in_ok-high.ensures.next c.in_ok-high.ensures.needs c.in_ok-high.ensures.sums in
    λ x. omega (arith, sums_fit g.W.Width.BITS c.args.leaves.now c.args.from c.args.len b.at b.begins c.in_ok-low.low.next c.in_ok-high.high.next c.in_ok-low.low.needs c.in_ok-high.high.needs c.push.new.self.items c.walk.new.sums.items c.walk-2.new.sums.items b.low b.high x)

pub index_mut-requires : goal.index_mut-requires
index_mut-requires g t c =
    let b = both_walked g.W.Width.BITS c.args.leaves.now c.args.from c.args.len c.index-leaves-from.result c.requires.len_in c.requires.begins c.index-leaves-from.is (λ q. c.if-len.false (c.len.ensures.value ∙ q)) c.in_ok-low.low.next c.in_ok-high.high.next c.in_ok-low.low.needs c.in_ok-high.high.needs c.push.new.self.items c.walk.new.sums.items c.walk-2.new.sums.items
    c.in_ok-low.ensures.next c.in_ok-low.ensures.needs c.in_ok-low.ensures.sums c.in_ok-high.ensures.next c.in_ok-high.ensures.needs c.in_ok-high.ensures.sums in
    omega (
      arith,
      ap length b.low.rows,
      ap length b.high.rows,
      length-append {A = NeedRow},
      ap length c.in_ok-push.ensures.items,
      c.len-place.ensures,
      c.args.sums.now.ok.0,
      c.walk-2.new.sums.ok.0,
    )

pub returns-clause-next : goal.returns-clause-next
returns-clause-next g t c =
    let b = both_walked g.W.Width.BITS c.args.leaves.now c.args.from c.args.len c.index-leaves-from.result c.requires.len_in c.requires.begins c.index-leaves-from.is (λ q. c.if-len.false (c.len.ensures.value ∙ q)) c.in_ok-low.low.next c.in_ok-high.high.next c.in_ok-low.low.needs c.in_ok-high.high.needs c.push.new.self.items c.walk.new.sums.items c.walk-2.new.sums.items
    c.in_ok-low.ensures.next c.in_ok-low.ensures.needs c.in_ok-low.ensures.sums c.in_ok-high.ensures.next c.in_ok-high.ensures.needs c.in_ok-high.ensures.sums in
    next_whole g.W.Width.BITS c.args.leaves.now c.args.from c.args.len b.at c.in_ok-low.low.next c.in_ok-high.high.next c.in_ok-low.low.needs c.in_ok-high.high.needs c.push.new.self.items c.walk.new.sums.items c.walk-2.new.sums.items b.low b.high

pub returns-clause-needs : goal.returns-clause-needs
returns-clause-needs g t c =
    let b = both_walked g.W.Width.BITS c.args.leaves.now c.args.from c.args.len c.index-leaves-from.result c.requires.len_in c.requires.begins c.index-leaves-from.is (λ q. c.if-len.false (c.len.ensures.value ∙ q)) c.in_ok-low.low.next c.in_ok-high.high.next c.in_ok-low.low.needs c.in_ok-high.high.needs c.push.new.self.items c.walk.new.sums.items c.walk-2.new.sums.items
    c.in_ok-low.ensures.next c.in_ok-low.ensures.needs c.in_ok-low.ensures.sums c.in_ok-high.ensures.next c.in_ok-high.ensures.needs c.in_ok-high.ensures.sums in
    needs_whole g.W.Width.BITS c.args.leaves.now c.args.from c.args.len b.at c.in_ok-low.low.next c.in_ok-high.high.next c.in_ok-low.low.needs c.in_ok-high.high.needs c.plus-needs.result c.under_rule.result c.push.new.self.items c.walk.new.sums.items c.walk-2.new.sums.items b.low b.high c.plus-needs.ensures c.under_rule.ensures

pub returns-clause-sums : goal.returns-clause-sums
returns-clause-sums g t c =
    let b = both_walked g.W.Width.BITS c.args.leaves.now c.args.from c.args.len c.index-leaves-from.result c.requires.len_in c.requires.begins c.index-leaves-from.is (λ q. c.if-len.false (c.len.ensures.value ∙ q)) c.in_ok-low.low.next c.in_ok-high.high.next c.in_ok-low.low.needs c.in_ok-high.high.needs c.push.new.self.items c.walk.new.sums.items c.walk-2.new.sums.items
    c.in_ok-low.ensures.next c.in_ok-low.ensures.needs c.in_ok-low.ensures.sums c.in_ok-high.ensures.next c.in_ok-high.ensures.needs c.in_ok-high.ensures.sums in
    let old : List NeedRow = c.args.sums.now.items in
    let hole : NeedRow = record { prefix = c.new-prefix.result; needs = c.of_one-2.result } in
    let row : NeedRow = record { prefix = c.new-prefix.result; needs = c.plus-needs.result } in
    let own : row ≡ record { prefix = prefix_of g.W.Width.BITS (suc b.at.open_bits) b.at.bits; needs = c.plus-needs.result } =
    ap (λ p. record { prefix = p; needs = c.plus-needs.result }) (read_prefix g.W.Width.BITS c.args.leaves.now c.args.from c.args.len c.index-leaves-from.result c.requires.begins c.index-leaves-from.is b.at (g.W.Width.number c.start.result) c.start.ensures.value c.new-prefix.result c.new-prefix.ensures.value c.requires.len_in) in
    let place : length old ≡ c.len-place.result = omega (arith, c.len-place.ensures, c.args.sums.now.ok.0) in
    rows_whole g.W.Width.BITS c.args.leaves.now c.args.from c.args.len b.at c.in_ok-low.low.next c.in_ok-high.high.next c.in_ok-low.low.needs c.in_ok-high.high.needs c.plus-needs.result old c.walk.new.sums.items c.walk-2.new.sums.items hole row c.len-place.result
    (subst (λ a. WalkedHalf g.W.Width.BITS (verdict_at g.W.Width.BITS c.args.leaves.now) b.at.open_bits (2 * b.at.bits) c.args.from c.in_ok-low.low.next c.in_ok-low.low.needs a c.walk.new.sums.items) c.in_ok-push.ensures.items b.low)
    b.high c.plus-needs.ensures own place
