use Rattle.std.proofs.Common.{◌≡◌, ◌∷◌, ◌++◌, List, ℕ, length, ap, ap₂, sym, subst, ◌∙◌, arith, append_assoc, []}
use Rattle.dns_name.specs.Wire.{wire_form}
use Rattle.dns_name.specs.Name.{lowercase_label, IsName}
use Rattle.dns_name.proofs.Names.{IsChild, child_made}
use Rattle.dns_name.proofs.Octets.{octets_from_fits}
use Rattle.dns_name.proofs.name.Name.child.Goals as goal

made : (c : goal.After-append) → IsChild c.args.label.now c.args.self.now c.append.new.text.items
made c =
    let name = c.args.self.now in
    let own : c.self.inside.wire.items ≡ wire_form name = c.self.invariant.1 ∙ ap wire_form c.self.view_is in
    let wire : c.append.new.text.items ≡ length c.args.label.now ∷ (lowercase_label c.args.label.now ++ wire_form name) =
    c.append.ensures ∙ ap₂ (λ (x y : List ℕ). x ++ y) (c.append_lowercase.ensures ∙ ap (λ (x : List ℕ). x ++ lowercase_label c.args.label.now) (c.push.ensures.items ∙ ap (λ (x : List ℕ). x ++ length c.args.label.now ∷ []) c.new-wire.ensures)) (c.deref.ensures.0 ∙ own)
    ∙ append_assoc (length c.args.label.now ∷ []) (lowercase_label c.args.label.now) (wire_form name) in
    child_made c.args.label.now name c.append.new.text.items c.in_ok-check_label.ensures (octets_from_fits c.args.label.now c.type_inv.label) (subst IsName c.self.view_is c.self.invariant.0)
    (omega (arith, c.if-label-len-gt-MAX_NAME.false, c.len.ensures.value, ap length own)) wire

pub invariant_of-result : goal.invariant_of-result
invariant_of-result c = let m = made c in (subst IsName (sym m.labels) m.legal, m.form)

pub returns : goal.returns
returns c = let m = made c in record { answer = sym m.answer; legal = subst IsName (sym m.labels) m.legal }
