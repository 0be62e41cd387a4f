use Rattle.std.proofs.Common.{◌∷◌, ◌++◌, List, ℕ, ap, sym, subst, ◌∙◌, flat_map, length, arith}
use Rattle.dns_name.specs.Wire.{labels_in}
use Rattle.dns_name.specs.Name.{IsWire}
use Rattle.dns_name.specs.Printed.{printed_name, printed_byte}
use Rattle.dns_name.proofs.Printing.{printed-cons}
use Rattle.dns_name.proofs.Wire.{length-split_wire}
use Rattle.dns_name.proofs.name.Name.printed.Goals as goal

pub loop-label-init : goal.loop-label-init
loop-label-init c =
    let name = sym (ap labels_in c.deref.ensures.0 ∙ c.self.view_is) ∙ c.in-Some.ensures.0 in
    let text = c.write_label.ensures.printed ∙ ap (λ (t : List ℕ). t ++ flat_map printed_byte c.in-Some.first.now) c.new-text.ensures in
    let wire : IsWire c.deref.result.now =
    subst IsWire (sym c.deref.ensures.0) (record { labels = c.self.invariant.0.labels; form = c.self.invariant.1 }) in
    let split = length-split_wire c.deref.result.now c.in-Some.first.now c.in-Some.rest.now wire c.in-Some.ensures.1 c.in-Some.ensures.0 in
    record {
      wire = c.in-Some.ensures.1;
      spelled = ap (λ (t : List ℕ). t ++ flat_map (λ label. 46 ∷ flat_map printed_byte label) (labels_in c.in-Some.rest.now)) text
          ∙ sym (ap printed_name name ∙ printed-cons c.in-Some.first.now (labels_in c.in-Some.rest.now));
      room = omega (
        arith,
        split,
        c.write_label.ensures.bound,
        ap length c.new-text.ensures,
        c.self.invariant.0.short,
        ap length c.self.invariant.1,
        ap length c.deref.ensures.0,
      );
    }
