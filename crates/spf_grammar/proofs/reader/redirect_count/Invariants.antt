use Rattle.std.proofs.Common.{◌≡◌, ◌≤◌, take}
use Rattle.std.specs.Prelude.{count_by}
use Rattle.spf_grammar.specs.Grammar.{is_redirect}
use Rattle.spf_grammar.proofs.reader.redirect_count.Given as goal

abbrev pub invariant-loop-term : goal.invariant-loop-term
invariant-loop-term l = record {
  counted : l.count ≡ count_by is_redirect (take l.term-index l.terms);
  within : l.count ≤ l.term-index;
}
