-- The text of no change, and that of some.
use Rattle.std.proofs.Common.{◌≡◌, ◌==◌, true, false, List, [], ◌∷◌, length, refl, arith, true≢false, codes, flat_map}
use Rattle.std.proofs.lemmas.Bool.{eqb-true}
use Rattle.loading.specs.Lines.{line_of}
use Rattle.policy_compare.specs.declared.change.Change.{Change}
use Rattle.job_compare.specs.Lines.{change_line, changes_text}

pub text_of_none : (changes : List Change) → (length changes == 0) ≡ true → changes_text changes ≡ line_of (codes "equal") []
text_of_none [] h = refl
text_of_none (change ∷ changes) h = absurd (omega (arith, eqb-true (length (change ∷ changes)) 0 h))

pub text_of_some : (changes : List Change) → (length changes == 0) ≡ false → changes_text changes ≡ flat_map change_line changes
text_of_some [] h = absurd (true≢false h)
text_of_some (change ∷ changes) h = refl
