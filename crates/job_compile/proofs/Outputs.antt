-- What is told beside the fragment.
use Rattle.std.specs.Prelude.{◌≡◌, ℕ, true, false, List, [], Ok}
use Rattle.std.proofs.Common.{subst, sym}
use Rattle.zone_answers.specs.declared.answer.Question.{Question}
use Rattle.spf_model.specs.Run.{says}
use Rattle.symbolic_check.specs.Evaluation.{AreAsked}
use Rattle.loading.specs.declared.loaded.Loaded.{Loaded}
use Rattle.publishing.specs.Policy.{PolicyDue}
use Rattle.job_compile.specs.Meaning.{AreTraced, IsOutput}
use Rattle.job_compile.specs.declared.compile.Compile.{Compile}

-- with `--trace` the questions are
pub traced_output : (job : Compile) (loaded : Loaded) (bytes : List ℕ) (asked : List Question) → job.trace ≡ true
    → PolicyDue job.settings job.limits loaded.zones (Ok bytes)
    → AreAsked (says loaded.zones) job.limits job.settings.domain.text asked
    → IsOutput job loaded (record { bytes = bytes; asked = asked })
traced_output job loaded bytes asked traced written are =
    record { written = written; traced = subst (λ t. AreTraced t job loaded asked) (sym traced) are }

-- without it nothing is
pub untraced_output : (job : Compile) (loaded : Loaded) (bytes : List ℕ) (asked : List Question) → job.trace ≡ false
    → PolicyDue job.settings job.limits loaded.zones (Ok bytes) → asked ≡ []
    → IsOutput job loaded (record { bytes = bytes; asked = asked })
untraced_output job loaded bytes asked untraced written none =
    record { written = written; traced = subst (λ t. AreTraced t job loaded asked) (sym untraced) none }
