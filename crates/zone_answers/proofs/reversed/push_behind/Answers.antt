use Rattle.std.proofs.Common.{ℕ, List, length, ap, ◌∙◌}
use Rattle.dns_name.specs.Wire.{wire_form}
use Rattle.dns_name.proofs.Joins.{extended_len, extended_ok, not_long, one_name}
use Rattle.zone_answers.proofs.reversed.push_behind.Goals as goal

pub unreachable-requires : goal.unreachable-requires
unreachable-requires c =
    not_long _ _ _
    (extended_ok c.args.name.now c.args.label.now c.requires.label c.requires.lower c.requires.room)
    c.in-Err.ensures.answer

pub returns-clause-name : goal.returns-clause-name
returns-clause-name c =
    one_name _ _ _
    (extended_ok c.args.name.now c.args.label.now c.requires.label c.requires.lower c.requires.room)
    c.in-Ok.ensures.answer

pub returns-clause-len : goal.returns-clause-len
returns-clause-len c =
    ap (λ (n : List (List ℕ)). length (wire_form n)) (one_name _ _ _
    (extended_ok c.args.name.now c.args.label.now c.requires.label c.requires.lower c.requires.room)
    c.in-Ok.ensures.answer)
    ∙ extended_len c.args.name.now c.args.label.now
