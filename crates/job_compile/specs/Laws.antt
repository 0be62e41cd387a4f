-- The laws of the job.
use Rattle.std.specs.Prelude.{◌≡◌, ℕ, Bool, true, false, List, [], ◌∷◌, Ok, Err, Result, codes}
use Rattle.std.proofs.Common.{sym, ap, ◌∙◌}
use Rattle.zone_answers.specs.declared.answer.Question.{Question}
use Rattle.spf_model.specs.Run.{says}
use Rattle.policy_verdicts.proofs.OrderedQuestions.{one_list_asked}
use Rattle.spfc_words.specs.Options.{behind_options}
use Rattle.spfc_words.specs.declared.input.Group.TheVariants.{Zones}
use Rattle.spfc_words.proofs.Inputs.{one_inputs}
use Rattle.spfc_words.proofs.ReadingLimits.{one_limits, limits_modest}
use Rattle.spfc_words.proofs.Settings.{one_flag_is}
use Rattle.loading.specs.declared.loaded.Loaded.{Loaded}
use Rattle.loading.specs.declared.refusal.Refusal.{Refusal}
use Rattle.jobs.specs.Meaning.{Due, Refuses, Gives, IsLawful}
use Rattle.jobs.specs.declared.output.Output.{Output}
use Rattle.publishing.specs.Policy.{PolicyDue}
use Rattle.publishing.proofs.LegalSettings.{one_settings, settings_legal}
use Rattle.publishing.proofs.OnePolicy.{one_policy_due}
use Rattle.publishing.proofs.ShortestPolicy.{policy_best}
use Rattle.job_compile.specs.Meaning.{IsReady, IsBest, AreTraced, CompileDue, meaning_of_compile}
use Rattle.job_compile.specs.Words.{SpellsCompile, compile_options}
use Rattle.job_compile.specs.declared.compile.Compile.{Compile}

pub compile_ready : (words : List (List ℕ)) (job : Compile) → SpellsCompile words job → IsReady job
compile_ready [] job is = absurd is
compile_ready (domain ∷ words) job is = record {
  legal = settings_legal compile_options domain words job.settings is.settings;
  modest = limits_modest compile_options words job.limits is.reading;
}

pub one_compile : (words : List (List ℕ)) (a b : Compile) → SpellsCompile words a → SpellsCompile words b → a ≡ b
one_compile [] a b x y = absurd x
one_compile (domain ∷ words) a b x y =
    let settings : a.settings ≡ b.settings =
    one_settings compile_options domain words a.settings b.settings x.settings y.settings in
    let limits : a.limits ≡ b.limits = one_limits compile_options words a.limits b.limits x.reading y.reading in
    let trace : a.trace ≡ b.trace =
    one_flag_is compile_options words (codes "--trace") a.trace b.trace x.tracing y.tracing in
    let inputs : a.inputs ≡ b.inputs =
    one_inputs Zones (behind_options compile_options words) a.inputs b.inputs x.zones y.zones in
    λ i. record { settings = settings i; limits = limits i; trace = trace i; inputs = inputs i }

ok_once : {a b : List ℕ} → (let x : Result (List ℕ) Refusal = Ok a in x ≡ Ok b) → a ≡ b
ok_once e = cc

err_once : {a b : Refusal} → (let x : Result (List ℕ) Refusal = Err a in x ≡ Err b) → a ≡ b
err_once e = cc

ok_not_err : {a : List ℕ} {b : Refusal} → Ok a ≡ Err b → ⊥
ok_not_err e = cc

one_policy : (job : Compile) (loaded : Loaded) (x y : Result (List ℕ) Refusal)
    → PolicyDue job.settings job.limits loaded.zones x → PolicyDue job.settings job.limits loaded.zones y → x ≡ y
one_policy job loaded = one_policy_due job.settings job.limits loaded.zones

-- what is told is one list
one_trace : (trace : Bool) (job : Compile) (loaded : Loaded) (a b : List Question) → AreTraced trace job loaded a
    → AreTraced trace job loaded b → a ≡ b
one_trace true job loaded a b x y = one_list_asked (says loaded.zones) job.limits job.settings.domain.text a b x y
one_trace false job loaded a b x y = x ∙ sym y

one_due : (job : Compile) (loaded : Loaded) (x y : Due) → CompileDue job loaded x → CompileDue job loaded y → x ≡ y
one_due job loaded (Gives a) (Gives b) x y =
    let bytes : a.bytes ≡ b.bytes = ok_once (one_policy job loaded (Ok a.bytes) (Ok b.bytes) x.written y.written) in
    let asked : a.asked ≡ b.asked = one_trace job.trace job loaded a.asked b.asked x.traced y.traced in
    λ i. Gives (record { bytes = bytes i; asked = asked i })
one_due job loaded (Gives a) (Refuses why) x y =
    absurd (ok_not_err (one_policy job loaded (Ok a.bytes) (Err why) x.written y))
one_due job loaded (Refuses why) (Gives b) x y =
    absurd (ok_not_err (one_policy job loaded (Ok b.bytes) (Err why) y.written x))
one_due job loaded (Refuses why) (Refuses other) x y =
    ap Refuses (err_once (one_policy job loaded (Err why) (Err other) x y))

best_due : (job : Compile) → IsReady job → (loaded : Loaded) (output : Output) → CompileDue job loaded (Gives output)
    → IsBest job loaded output
best_due job ready loaded output due = record {
  shortest = policy_best job.settings job.limits loaded.zones output.bytes ready.legal due.written;
  traced = due.traced;
}

pub compile_lawful : (job : Compile) → IsLawful (meaning_of_compile job)
compile_lawful job = record { one = one_due job; best = best_due job }
