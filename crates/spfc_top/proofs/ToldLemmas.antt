-- From the lists of listeners to what a run tells.
use Rattle.std.proofs.Common.{◌≡◌, ℕ, List, [], ◌∷◌, take, length, sym, subst, arith}
use Rattle.std.proofs.lemmas.List.{take_all}
use Rattle.zone_answers.specs.declared.answer.Question.{Question}
use Rattle.spfc_outer.specs.Auditors.{AuditorSeen, After}
use Rattle.jobs.specs.Turn.{IsTold, Step}

-- all questions were told
pub all_told : (asked : List Question) (n : ℕ) (row : Step (List AuditorSeen)) → length asked ≡ n → (n ≡ 0 → row.Same)
    → After (take n asked) row.before row.after → IsTold asked row
all_told [] n row is none told = none (sym is)
all_told (question ∷ questions) n row is none told =
    subst (λ (qs : List Question). After qs row.before row.after) (take_all n (question ∷ questions) (omega (arith, is))) told
