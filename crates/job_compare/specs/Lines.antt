-- The lines of changes: the project's own choice.
use Rattle.std.specs.Prelude.{ℕ, List, [], ◌∷◌, ◌++◌, codes, decimal, flat_map}
use Rattle.spf_model.specs.Lines.{verdict_word}
use Rattle.loading.specs.Lines.{line_of, address_text}
use Rattle.policy_compare.specs.declared.change.Change.{Change}
use Rattle.policy_compare.specs.declared.change.Count.{Count}
use Rattle.policy_compare.specs.declared.change.Count.TheVariants.{All, Number}

-- how many addresses
abbrev pub count_text : Count → List ℕ
count_text All = codes "all"
count_text (Number n) = decimal n

-- a change: both verdicts, the least address and how many there are, each behind a space (32), and a line feed
abbrev pub change_line : Change → List ℕ
change_line change =
    codes "differ" ++ 32 ∷ (verdict_word change.one ++ 32 ∷ (verdict_word change.two
    ++ 32 ∷ (address_text change.least ++ 32 ∷ (count_text change.count ++ 10 ∷ []))))

-- a line for each change, or `equal` where there is none
abbrev pub changes_text : List Change → List ℕ
changes_text [] = line_of (codes "equal") []
changes_text (change ∷ changes) = flat_map change_line (change ∷ changes)
