use Rattle.std.proofs.Common.{◌+◌, ◌*◌, ◌^◌, ◌%◌, ℕ, length, sym, ap, ◌∙◌, arith}
use Rattle.dns_name.specs.Name.{parent_of}
use Rattle.zone_answers.proofs.Cuts.{under_above}
use Rattle.reverse_names.proofs.Reading.{digit_read, other_read}
use Rattle.reverse_names.proofs.path.+read_labels.Goals as goal

pub read_labels-read-requires : goal.read_labels-read-requires
read_labels-read-requires t c = (
  omega (arith, ap length c.in-Some.ensures, c.decreases),
  under_above c.args.labels.now c.in-Some.behind c.args.suffix.now (ap parent_of c.in-Some.ensures) c.requires
      (sym c.are_all_of.ensures ∙ c.if-are_all_of.false),
)

pub returns-in-Some-next_digit : goal.returns-in-Some-next_digit
returns-in-Some-next_digit t c =
    let next = c.in-Some-next_digit in
    digit_read c.args.family c.args.suffix.now c.args.labels.now c.in-Some.behind c.in-Some.label.now
    c.read_labels-read.result next.digit _ c.label_bits.result c.in-Some.ensures next.ensures.label
    c.read_labels-read.ensures next.ensures.whole next.ensures.room next.ensures.below c.label_bits.ensures
    (ap (λ (n : ℕ). c.read_labels-read.result.digits * 2 ^ c.label_bits.result % 2 ^ 128 + n) c.from.ensures)

pub returns-in-None : goal.returns-in-None
returns-in-None t c =
    other_read c.args.family c.args.suffix.now c.args.labels.now c.in-Some.behind c.in-Some.label.now
    c.read_labels-read.result c.in-Some.ensures c.read_labels-read.ensures c.in-None.ensures.none
