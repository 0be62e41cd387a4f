-- The laws of the job.
use Rattle.std.specs.Prelude.{◌≡◌, ℕ, List, [], ◌∷◌}
use Rattle.std.proofs.Common.{sym, ap, subst, ◌∙◌}
use Rattle.spf_model.specs.Lines.{outcome_words}
use Rattle.spf_model.specs.Run.{says}
use Rattle.spf_model.specs.declared.outcome.Outcome.{Outcome}
use Rattle.spf_model.proofs.OneOutcome.{one_outcome}
use Rattle.spfc_words.specs.Limits.{reading_options}
use Rattle.spfc_words.specs.Options.{behind_options}
use Rattle.spfc_words.specs.declared.input.Group.TheVariants.{Zones}
use Rattle.spfc_words.proofs.Addresses.{one_text}
use Rattle.spfc_words.proofs.Domains.{one_domain}
use Rattle.spfc_words.proofs.Inputs.{one_inputs}
use Rattle.spfc_words.proofs.ReadingLimits.{one_limits, limits_modest}
use Rattle.loading.specs.Lines.{line_of}
use Rattle.loading.specs.declared.loaded.Loaded.{Loaded}
use Rattle.jobs.specs.Meaning.{Due, Gives, IsLawful}
use Rattle.jobs.specs.declared.output.Output.{Output}
use Rattle.job_check.specs.declared.check.Check.{Check}
use Rattle.job_check.specs.Meaning.{IsOutcome, OutcomeDue, IsReady, meaning_of_check}
use Rattle.job_check.specs.Words.{SpellsCheck}

pub check_ready : (words : List (List ℕ)) (job : Check) → SpellsCheck words job → IsReady job
check_ready [] job is = absurd is
check_ready (domain ∷ []) job is = absurd is
check_ready (domain ∷ address ∷ words) job is =
    record { named = is.named.named; modest = limits_modest reading_options words job.limits is.reading }

pub one_check : (words : List (List ℕ)) (a b : Check) → SpellsCheck words a → SpellsCheck words b → a ≡ b
one_check [] a b x y = absurd x
one_check (domain ∷ []) a b x y = absurd x
one_check (domain ∷ address ∷ words) a b x y =
    let named : a.domain ≡ b.domain = one_domain domain a.domain b.domain x.named y.named in
    let spelled : a.address ≡ b.address = one_text address a.address b.address x.spelled y.spelled in
    let reading : a.limits ≡ b.limits = one_limits reading_options words a.limits b.limits x.reading y.reading in
    let zones : a.inputs ≡ b.inputs =
    one_inputs Zones (behind_options reading_options words) a.inputs b.inputs x.zones y.zones in
    λ i. record { domain = named i; address = spelled i; limits = reading i; inputs = zones i }

one_output : (job : Check) (loaded : Loaded) (a b : Output) → IsOutcome job loaded a → IsOutcome job loaded b → a ≡ b
one_output job loaded a b x y =
    let outcome : x.line.outcome ≡ y.line.outcome =
    one_outcome (says loaded.zones) job.limits job.domain.text job.address x.line.outcome y.line.outcome
    x.line.gives y.line.gives in
    let bytes : a.bytes ≡ b.bytes =
    x.line.is ∙ (ap (λ (o : Outcome). line_of [] (outcome_words o)) outcome ∙ sym y.line.is) in
    let asked : a.asked ≡ b.asked = x.untold ∙ sym y.untold in
    λ i. record { bytes = bytes i; asked = asked i }

gives_once : (a b : Output) → Gives a ≡ Gives b → a ≡ b
gives_once a b e = cc

one_due : (job : Check) (loaded : Loaded) (x y : Due) → OutcomeDue job loaded x → OutcomeDue job loaded y → x ≡ y
one_due job loaded x y (a, is, due) (b, is', due') =
    due ∙ (ap (λ (o : Output). Gives o) (one_output job loaded a b is is') ∙ sym due')

best_due : (job : Check) (loaded : Loaded) (output : Output) → OutcomeDue job loaded (Gives output)
    → IsOutcome job loaded output
best_due job loaded output (other, is, due) = subst (λ o. IsOutcome job loaded o) (gives_once other output (sym due)) is

pub check_lawful : (job : Check) → IsLawful (meaning_of_check job)
check_lawful job = record { one = one_due job; best = λ ready. best_due job }
