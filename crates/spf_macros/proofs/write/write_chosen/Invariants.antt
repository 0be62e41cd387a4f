use Rattle.std.proofs.Common.{◌≡◌, ◌++◌, drop}
use Rattle.std.specs.Prelude.{filter}
use Rattle.spf_macros.specs.Grammar.{is_in_set}
use Rattle.spf_macros.proofs.write.write_chosen.Given as goal

abbrev pub invariant-loop-delimiter : goal.invariant-loop-delimiter
invariant-loop-delimiter l =
    l.text ++ filter (is_in_set l.set) (drop l.delimiter-index l.delimiters) ≡ l.initial.text ++ filter (is_in_set l.set) l.delimiters
