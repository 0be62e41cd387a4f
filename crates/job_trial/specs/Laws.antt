-- The laws of the job.
use Rattle.std.specs.Prelude.{◌≡◌, ℕ, List, [], ◌∷◌}
use Rattle.std.proofs.Common.{sym, ap, lit≤, ◌∙◌}
use Rattle.spfc_words.proofs.Settings.{one_number}
use Rattle.loading.specs.declared.loaded.Loaded.{Loaded}
use Rattle.loading.specs.declared.refusal.Refusal.{Refusal}
use Rattle.jobs.specs.Meaning.{Due, Refuses, Gives, IsLawful}
use Rattle.jobs.specs.declared.output.Output.{Output}
use Rattle.policy_trial.proofs.OneTrial.{one_trial}
use Rattle.job_trial.specs.Meaning.{IsReady, IsTrialLine, NeverRefused, TrialJobDue, output_of, meaning_of_trial}
use Rattle.job_trial.specs.Words.{SpellsTrial}
use Rattle.job_trial.specs.declared.trial.Trial.{Trial}

pub trial_ready : (words : List (List ℕ)) (job : Trial) → SpellsTrial words job → IsReady job
trial_ready [] job is = absurd is
trial_ready (start ∷ []) job is = absurd is
trial_ready (start ∷ networks ∷ []) job is = record { some = is.sized.least; few = is.sized.most }
trial_ready (start ∷ networks ∷ more ∷ words) job is = absurd is

pub one_trial_spelled : (words : List (List ℕ)) (a b : Trial) → SpellsTrial words a → SpellsTrial words b
    → a ≡ b
one_trial_spelled [] a b x y = absurd x
one_trial_spelled (start ∷ []) a b x y = absurd x
one_trial_spelled (start ∷ networks ∷ more ∷ words) a b x y = absurd x
one_trial_spelled (start ∷ networks ∷ []) a b x y =
    let started : a.start ≡ b.start =
    one_number 0 18446744073709551615 a.start b.start start (lit≤ tt) x.started y.started in
    let sized : a.networks ≡ b.networks =
    one_number 1 10000 a.networks b.networks networks (lit≤ tt) x.sized y.sized in
    let unread : a.inputs ≡ b.inputs = x.unread ∙ sym y.unread in
    λ i. record { start = started i; networks = sized i; inputs = unread i }

one_due : (job : Trial) (loaded : Loaded) (x y : Due) → TrialJobDue job loaded x → TrialJobDue job loaded y
    → x ≡ y
one_due job loaded x y (summary, due, is) (summary', due', is') =
    is
    ∙ (ap (λ found. Gives (output_of job found)) (one_trial job.start job.networks summary summary' due due')
    ∙ sym is')

gives_refuses : {output : Output} {why : Refusal} → Refuses why ≡ Gives output → ⊥
gives_refuses e = cc

gives_once : {a b : Output} → Gives a ≡ Gives b → a ≡ b
gives_once e = cc

best_due : (job : Trial) (loaded : Loaded) (output : Output) → TrialJobDue job loaded (Gives output)
    → IsTrialLine job loaded output
best_due job loaded output (summary, due, is) = (summary, due, gives_once is)

pub never_refused : NeverRefused
never_refused job loaded why (summary, due, is) = gives_refuses is

pub trial_lawful : (job : Trial) → IsLawful (meaning_of_trial job)
trial_lawful job = record { one = one_due job; best = λ ready. best_due job }
