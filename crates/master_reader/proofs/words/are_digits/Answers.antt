use Rattle.std.proofs.Common.{length, arith, sym, ◌∙◌}
use Rattle.std.proofs.lemmas.Bool.{eqb-false}
use Rattle.master_reader.proofs.Spelling.{digits_from}
use Rattle.master_reader.proofs.words.are_digits.Goals as goal

pub returns-then-not-is_empty : goal.returns-then-not-is_empty
returns-then-not-is_empty c =
    let some = eqb-false (length c.args.units.now) 0 (sym c.is_empty.ensures ∙ c.if-not-is_empty.true) in
    digits_from c.args.units.now c.all_digits.result (omega arith) c.all_digits.ensures
