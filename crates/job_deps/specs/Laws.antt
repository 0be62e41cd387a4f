-- The laws of the job.
use Rattle.std.specs.Prelude.{◌≡◌, ℕ, List, [], ◌∷◌}
use Rattle.std.proofs.Common.{sym, ap, subst, ◌∙◌}
use Rattle.spf_model.specs.Run.{says}
use Rattle.symbolic_check.proofs.Rests.{rests_on_asked}
use Rattle.policy_verdicts.proofs.OrderedQuestions.{one_list_asked}
use Rattle.spfc_words.specs.Limits.{reading_options}
use Rattle.spfc_words.proofs.ReadingLimits.{limits_modest}
use Rattle.spfc_words.proofs.Subjects.{one_subject}
use Rattle.loading.specs.declared.loaded.Loaded.{Loaded}
use Rattle.jobs.specs.Meaning.{Due, Gives, IsLawful}
use Rattle.jobs.specs.declared.output.Output.{Output}
use Rattle.job_deps.specs.declared.deps.Deps.{Deps}
use Rattle.job_deps.specs.Meaning.{question_lines, AreDeps, IsBest, DepsDue, IsReady, meaning_of_deps}
use Rattle.job_deps.specs.Words.{SpellsDeps}

pub deps_ready : (words : List (List ℕ)) (job : Deps) → SpellsDeps words job → IsReady job
deps_ready [] job is = absurd is
deps_ready (domain ∷ words) job is =
    record { named = is.named.named; modest = limits_modest reading_options words job.subject.limits is.reading }

pub one_deps : (words : List (List ℕ)) (a b : Deps) → SpellsDeps words a → SpellsDeps words b → a ≡ b
one_deps words a b x y =
    let subject : a.subject ≡ b.subject = one_subject words a.subject b.subject x y in
    λ i. record { subject = subject i }

one_output : (job : Deps) (loaded : Loaded) (a b : Output) → AreDeps job loaded a → AreDeps job loaded b → a ≡ b
one_output job loaded a b x y =
    let same : x.lines.asked ≡ y.lines.asked =
    one_list_asked (says loaded.zones) job.subject.limits job.subject.domain.text x.lines.asked y.lines.asked
    x.lines.evaluation.questions y.lines.evaluation.questions in
    let bytes : a.bytes ≡ b.bytes = x.lines.lines ∙ (ap question_lines same ∙ sym y.lines.lines) in
    let asked : a.asked ≡ b.asked = x.untold ∙ sym y.untold in
    λ i. record { bytes = bytes i; asked = asked i }

gives_once : (a b : Output) → Gives a ≡ Gives b → a ≡ b
gives_once a b e = cc

one_due : (job : Deps) (loaded : Loaded) (x y : Due) → DepsDue job loaded x → DepsDue job loaded y → x ≡ y
one_due job loaded x y (a, is, due) (b, is', due') =
    due ∙ (ap (λ (o : Output). Gives o) (one_output job loaded a b is is') ∙ sym due')

-- what the questions decide
at_rest : (job : Deps) (loaded : Loaded) (output : Output) → AreDeps job loaded output → IsBest job loaded output
at_rest job loaded output is = record {
  are = is;
  rests = λ others alike.
      rests_on_asked (says loaded.zones) others job.subject.limits job.subject.domain.text is.lines.v4 is.lines.v6
      is.lines.asked alike is.lines.evaluation;
}

best_due : (job : Deps) (loaded : Loaded) (output : Output) → DepsDue job loaded (Gives output)
    → IsBest job loaded output
best_due job loaded output (other, is, due) =
    at_rest job loaded output (subst (λ o. AreDeps job loaded o) (gives_once other output (sym due)) is)

pub deps_lawful : (job : Deps) → IsLawful (meaning_of_deps job)
deps_lawful job = record { one = one_due job; best = λ ready. best_due job }
