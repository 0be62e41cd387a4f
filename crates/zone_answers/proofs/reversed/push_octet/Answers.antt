use Rattle.std.proofs.Common.{ℕ, List, ◌≡◌, sym, subst, ◌∙◌, arith}
use Rattle.dns_name.specs.Name.{IsLabel, lowercase_label}
use Rattle.zone_answers.proofs.Reversals.{octet_label, octet_lower}
use Rattle.zone_answers.proofs.reversed.push_octet.Goals as goal

pub push_behind-requires-clause-label : goal.push_behind-requires-clause-label
push_behind-requires-clause-label c =
    subst IsLabel (sym (c.as_bytes.ensures.value ∙ c.format.ensures.text))
    (octet_label c.args.octet (omega arith))

pub push_behind-requires-clause-lower : goal.push_behind-requires-clause-lower
push_behind-requires-clause-lower c =
    subst (λ (l : List ℕ). lowercase_label l ≡ l) (sym (c.as_bytes.ensures.value ∙ c.format.ensures.text))
    (octet_lower c.args.octet (omega arith))
