use Rattle.std.proofs.Common.{◌≡◌, ◌++◌, map, length, option_map}
use Rattle.spfc_words.specs.Rows.{plain}
use Rattle.spfc_words.specs.Options.{settings_in, values_of}
use Rattle.spfc_words.specs.Words.{texts}
use Rattle.spfc_words.proofs.Settings.{as_list}
use Rattle.spfc_words.proofs.options.value_of.Given as goal

-- the values are what was found and what is left
abbrev pub invariant-loop-option : goal.invariant-loop-option
invariant-loop-option l = values_of l.name (settings_in (map plain l.rows) (texts l.fn.words)) ≡ as_list (option_map (λ value. value.now) l.found) ++ values_of l.name (settings_in (map plain l.rows) (texts l.rest))

abbrev pub decreases-loop-option : goal.decreases-loop-option
decreases-loop-option l = length l.rest
