use Rattle.std.proofs.Common.{ℕ, List, ◌++◌, length, sym, ap, ◌∙◌}
use Rattle.std.proofs.lemmas.Bool.{eqb-true, eqb-false}
use Rattle.std.proofs.lemmas.List.{nil_from_length}
use Rattle.spf_grammar.proofs.Words.{all_spaces, word_there}
use Rattle.spf_grammar.proofs.reader.next_word.Goals as goal

pub returns-then-is_empty : goal.returns-then-is_empty
returns-then-is_empty c =
    all_spaces c.args.text.now c.split_spaces.result.0.now c.split_spaces.result.1.now
    (nil_from_length c.split_spaces.result.1.now (eqb-true (length c.split_spaces.result.1.now) 0 (sym c.if-is_empty.ensures))) c.split_spaces.ensures

pub returns : goal.returns
returns c = record {
  gap = c.split_spaces.result.0.now;
  spaces = c.split_spaces.ensures.passes;
  is_word = word_there c.split_spaces.result.1.now c.split_space.result.0.now c.split_space.result.1.now (λ e. eqb-false (length c.split_spaces.result.1.now) 0 (sym c.if-is_empty.ensures) (ap length e)) c.split_spaces.ensures.pauses c.split_space.ensures;
  pauses = c.split_space.ensures.pauses;
  whole = c.split_spaces.ensures.whole ∙ ap (λ (t : List ℕ). c.split_spaces.result.0.now ++ t) c.split_space.ensures.whole;
}
