use Rattle.std.proofs.Common.{◌≡◌, ◌≤◌, ◌+◌, ◌*◌, [], ◌++◌, List, ℕ, Ok, length, ap, ◌∙◌, arith}
use Rattle.addr_bits.specs.declared.address.Family.{Family}
use Rattle.addr_bits.specs.declared.address.Family.TheVariants.{V4, V6}
use Rattle.dns_name.specs.Name.{joined_of}
use Rattle.dns_name.specs.Wire.{wire_form}
use Rattle.dns_name.proofs.Joins.{joined_len, joined_ok, not_long, one_name}
use Rattle.zone_answers.specs.Reversed.{label_bits, label_count, label_octets, label_of, last_digits}
use Rattle.zone_answers.proofs.reversed.digits_name.Goals as goal

most : (f : Family) (count : ℕ) → count ≤ label_count f → count * label_octets f ≤ 64
most V4 count few = omega (arith, few)
most V6 count few = omega (arith, few)

root_short : (root : List (List ℕ)) → root ≡ [] → length (wire_form root) ≡ 1
root_short root is = ap (λ (n : List (List ℕ)). length (wire_form n)) is

-- the labels of digits leave room for the suffix
fits : (f : Family) (count : ℕ) (root digits suffix : List (List ℕ)) → count ≤ label_count f → root ≡ []
    → length (wire_form digits) ≤ length (wire_form root) + count * label_octets f → length (wire_form suffix) ≤ 191
    → joined_of digits suffix ≡ Ok (digits ++ suffix)
fits f count root digits suffix few is short room =
    joined_ok digits suffix (omega (arith, room, short, most f count few, root_short root is))

pub unreachable-requires : goal.unreachable-requires
unreachable-requires c =
    not_long _ _ _ (fits c.args.family c.args.count c.root-name.result c.push_digits.new.name c.args.suffix.now
    c.requires.count c.root-name.ensures.root c.push_digits.ensures.short c.requires.room) c.in-Err.ensures.answer

pub returns-clause-name : goal.returns-clause-name
returns-clause-name c =
    let f = c.args.family in
    one_name _ _ _ (fits f c.args.count c.root-name.result c.push_digits.new.name c.args.suffix.now
    c.requires.count c.root-name.ensures.root c.push_digits.ensures.short c.requires.room) c.in-Ok.ensures.answer
    ∙ ap (λ (n : List (List ℕ)). n ++ c.args.suffix.now) (c.push_digits.ensures.name
    ∙ ap (λ (n : List (List ℕ)). n ++ last_digits (label_bits f) (label_of f) c.args.count c.args.digits)
    c.root-name.ensures.root)

pub returns-clause-short : goal.returns-clause-short
returns-clause-short c =
    let name = one_name _ _ _ (fits c.args.family c.args.count c.root-name.result c.push_digits.new.name
    c.args.suffix.now c.requires.count c.root-name.ensures.root c.push_digits.ensures.short c.requires.room)
    c.in-Ok.ensures.answer in
    omega (
      arith,
      joined_len c.push_digits.new.name c.args.suffix.now,
      c.push_digits.ensures.short,
      root_short c.root-name.result c.root-name.ensures.root,
      ap (λ (n : List (List ℕ)). length (wire_form n)) name,
    )
