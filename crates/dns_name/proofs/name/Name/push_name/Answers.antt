use Rattle.std.proofs.Common.{◌≡◌, ◌++◌, List, ℕ, length, ap, ap₂, sym, subst, ◌∙◌, arith}
use Rattle.dns_name.specs.Wire.{wire_form}
use Rattle.dns_name.specs.Name.{IsName}
use Rattle.dns_name.proofs.Joins.{IsJoined, front_form, joined, joined_answer, joined_long, rootless}
use Rattle.dns_name.proofs.name.Name.push_name.Goals as goal

pub returns-then-len-clause-answer : goal.returns-then-len-clause-answer
returns-then-len-clause-answer c =
    joined_long c.args.self.now c.args.name.now
    (omega (
      arith,
      c.if-len.true,
      c.len.ensures.value,
      c.len-2.ensures.value,
      ap length (c.self.invariant.1 ∙ ap wire_form c.self.view_is),
      ap length (c.name.invariant.1 ∙ ap wire_form c.name.view_is),
    ))

made : (c : goal.After-append) → IsJoined c.args.self.now c.args.name.now c.append.new.text.items
made c =
    let own : c.self.inside.wire.items ≡ wire_form c.args.self.now = c.self.invariant.1 ∙ ap wire_form c.self.view_is in
    let other : c.name.inside.wire.items ≡ wire_form c.args.name.now =
    c.name.invariant.1 ∙ ap wire_form c.name.view_is in
    let front : c.drop_root.new.wire.items ≡ front_form c.args.self.now =
    c.drop_root.ensures ∙ rootless c.args.self.now c.self.inside.wire.items own in
    let wire : c.append.new.text.items ≡ front_form c.args.self.now ++ wire_form c.args.name.now =
    c.append.ensures ∙ ap₂ (λ (l m : List ℕ). l ++ m) front (c.deref.ensures.0 ∙ other) in
    joined c.args.self.now c.args.name.now c.append.new.text.items (subst IsName c.self.view_is c.self.invariant.0)
    (subst IsName c.name.view_is c.name.invariant.0) wire
    (omega (arith, c.if-len.false, c.len.ensures.value, c.len-2.ensures.value, ap length own, ap length other))

pub invariant_of-self : goal.invariant_of-self
invariant_of-self c = let m = made c in (subst IsName (sym m.labels) m.legal, m.form)

pub returns-clause-answer : goal.returns-clause-answer
returns-clause-answer c = joined_answer c.args.self.now c.args.name.now c.append.new.text.items (made c)

pub returns-clause-legal : goal.returns-clause-legal
returns-clause-legal c = let m = made c in subst IsName (sym m.labels) m.legal
