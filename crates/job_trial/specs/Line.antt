-- The line of a trial: the project's own choice.
use Rattle.std.specs.Prelude.{ℕ, List, [], ◌∷◌, ◌++◌, codes, decimal, Option, Some, None}
use Rattle.policy_trial.specs.declared.summary.Summary.{Summary}

-- how many records the chosen list takes, or that it fits into none
abbrev pub count_text : Option ℕ → List ℕ
count_text (Some count) = codes " records " ++ decimal count
count_text None = codes " records none"

-- what the words say, and what the policy comes to
abbrev pub trial_line : (start networks : ℕ) → Summary → List ℕ
trial_line start networks summary =
    codes "trial " ++ decimal start ++ codes " " ++ decimal networks ++ codes " fewest " ++ decimal summary.fewest
    ++ codes " rows " ++ decimal summary.rows ++ count_text summary.records ++ 10 ∷ []
