use Rattle.std.proofs.Common.{◌≡◌, ◌∷◌, ◌++◌, [], List, ℕ, length, ap, ap₂, sym, subst, ◌∙◌, arith, append_assoc}
use Rattle.std.proofs.Common.{length-append}
use Rattle.std.proofs.lemmas.List.{length-map}
use Rattle.dns_name.specs.Wire.{wire_form}
use Rattle.dns_name.specs.Name.{lowercase_label, IsName}
use Rattle.dns_name.proofs.Joins.{IsJoined, front_form, extended_answer, extended_long, joined, label_name, rootless}
use Rattle.dns_name.proofs.Octets.{octets_from_fits}
use Rattle.dns_name.proofs.name.Name.push_label.Goals as goal

pub returns-then-len-label-gt-MAX_NAME-clause-answer : goal.returns-then-len-label-gt-MAX_NAME-clause-answer
returns-then-len-label-gt-MAX_NAME-clause-answer c =
    extended_long c.args.self.now c.args.label.now c.in_ok-check_label.ensures
    (omega (
      arith,
      c.if-len-label-gt-MAX_NAME.true,
      c.len.ensures.value,
      ap length (c.self.invariant.1 ∙ ap wire_form c.self.view_is),
    ))

made : (c : goal.After-push-2)
    → IsJoined c.args.self.now (lowercase_label c.args.label.now ∷ []) c.push-2.new.self.items
made c =
    let name = c.args.self.now in
    let low : List ℕ = lowercase_label c.args.label.now in
    let own : c.self.inside.wire.items ≡ wire_form name = c.self.invariant.1 ∙ ap wire_form c.self.view_is in
    let len : length low ≡ length c.args.label.now = simp length-map in
    let front : c.drop_root.new.wire.items ≡ front_form name =
    c.drop_root.ensures ∙ rootless name c.self.inside.wire.items own in
    let wire : c.push-2.new.self.items ≡ front_form name ++ length low ∷ (low ++ 0 ∷ []) =
    c.push-2.ensures.items
    ∙ ap (λ (l : List ℕ). l ++ 0 ∷ []) (c.append_lowercase.ensures ∙ ap (λ (l : List ℕ). l ++ low) (c.push.ensures.items
    ∙ ap₂ (λ (l : List ℕ) (n : ℕ). l ++ n ∷ []) front (sym len)) ∙ append_assoc (front_form name) (length low ∷ []) low)
    ∙ append_assoc (front_form name) (length low ∷ low) (0 ∷ []) in
    joined name (low ∷ []) c.push-2.new.self.items (subst IsName c.self.view_is c.self.invariant.0)
    (label_name c.args.label.now c.in_ok-check_label.ensures (octets_from_fits c.args.label.now c.type_inv.label)) wire
    (omega (
      arith,
      c.if-len-label-gt-MAX_NAME.false,
      c.len.ensures.value,
      ap length own,
      len,
      length-append low (0 ∷ []),
    ))

pub invariant_of-self : goal.invariant_of-self
invariant_of-self c = let m = made c in (subst IsName (sym m.labels) m.legal, m.form)

pub returns-clause-answer : goal.returns-clause-answer
returns-clause-answer c =
    extended_answer c.args.self.now c.args.label.now c.push-2.new.self.items c.in_ok-check_label.ensures (made c)

pub returns-clause-legal : goal.returns-clause-legal
returns-clause-legal c = let m = made c in subst IsName (sym m.labels) m.legal
