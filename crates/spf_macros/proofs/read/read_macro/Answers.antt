use Rattle.std.proofs.Common.{subst}
use Rattle.spf_macros.specs.Grammar.{SpellsKeep}
use Rattle.spf_macros.proofs.MacroReading.{digits_same, end_same, macro_spelled}
use Rattle.spf_macros.proofs.read.read_macro.Goals as goal

pub returns-in_err-keep : goal.returns-in_err-keep
returns-in_err-keep c = rw c.from_residual-in_err-keep.ensures (λ front rest m s whole.
    let same = digits_same c.args.text.now c.in_ok-first.rest.now c.split_digits.result.1.now c.split_digits.result.0.now c.in_ok-first.first.now c.in_ok-first.ensures.cases.0 c.split_digits.ensures front rest m s whole in
    c.in_err-keep.ensures m.keep (subst (λ digits. SpellsKeep digits m.keep) same.0 s.keeps))

pub returns-in_err-rest : goal.returns-in_err-rest
returns-in_err-rest c = rw c.from_residual-in_err-rest.ensures (λ front rest m s whole.
    c.in_err-rest.ensures rest
    (end_same c.args.text.now c.in_ok-first.rest.now c.split_digits.result.1.now c.read_reverse-reverse.result.1.now c.split_delimiters.result.1.now c.split_digits.result.0.now c.split_delimiters.result.0.now c.in_ok-first.first.now
    c.read_reverse-reverse.result.0 c.in_ok-first.ensures.cases.0 c.split_digits.ensures c.read_reverse-reverse.ensures c.split_delimiters.ensures front rest m s whole))

pub returns : goal.returns
returns c =
    macro_spelled c.args.text.now c.in_ok-first.rest.now c.split_digits.result.1.now c.read_reverse-reverse.result.1.now c.split_delimiters.result.1.now c.in_ok-rest.rest.now c.split_digits.result.0.now c.split_delimiters.result.0.now
    c.in_ok-first.first.now
    (record {
      letter = c.in_ok-letter.letter;
      upper = c.in_ok-letter.upper;
      keep = c.in_ok-keep.keep;
      reverse = c.read_reverse-reverse.result.0;
      delims = c.delimiter_set-delims.result;
    })
    c.in_ok-first.ensures.cases.0 c.in_ok-letter.ensures c.split_digits.ensures c.in_ok-keep.ensures c.read_reverse-reverse.ensures c.split_delimiters.ensures c.in_ok-rest.ensures c.delimiter_set-delims.ensures
