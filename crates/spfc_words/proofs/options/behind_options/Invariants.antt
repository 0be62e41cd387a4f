use Rattle.std.proofs.Common.{◌≡◌, map, length}
use Rattle.spfc_words.specs.Rows.{plain}
use Rattle.spfc_words.specs.Options as options
use Rattle.spfc_words.specs.Words.{texts}
use Rattle.spfc_words.proofs.options.behind_options.Given as goal

-- what is left decides
abbrev pub invariant-loop-behind : goal.invariant-loop-behind
invariant-loop-behind l = options.behind_options (map plain l.rows) (texts l.fn.words) ≡ options.behind_options (map plain l.rows) (texts l.rest)

abbrev pub decreases-loop-behind : goal.decreases-loop-behind
decreases-loop-behind l = length l.rest
